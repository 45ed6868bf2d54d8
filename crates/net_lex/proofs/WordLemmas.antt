-- The characters of bare words.
use Rattle.std.proofs.Common.{◌≡◌, ℕ, ◌+◌, ◌<◌, Bool, false, ◌&&◌, cond, nat_lt, List, [], ◌∷◌, ◌++◌, length, get_or, IsUtf8, inl, inr, refl, sym, ap, arith, one-add, length-append, append-nil}
use Rattle.std.proofs.lemmas.Bool.{cases_Bool, and_parts, ltb-true, lt-ltb}
use Rattle.std.proofs.lemmas.Str.{chars_past_char, chars-nil, encode_ascii, IsUtf8-past_char}
use Rattle.std.specs.Str.{chars, encode_utf8_all}
use Rattle.std.specs.Char.{encode_utf8}
use Rattle.std.specs.List.{take_while, prefix_len}
use Rattle.net_lex.specs.Characters.{is_word_char}
use Rattle.net_lex.specs.Shapes.{char_len, word_len}

pub word_len-nil : word_len [] ≡ 0
unfolding word_len
word_len-nil = rw chars-nil refl

word_run : (c : ℕ) (cs : List ℕ) → length (encode_utf8_all (take_while is_word_char (c ∷ cs)))
    ≡ cond (is_word_char c) (length (encode_utf8 c) + length (encode_utf8_all (take_while is_word_char cs))) 0
word_run c cs = elim (cases_Bool (is_word_char c)) [
  | inl passes ↦ rw (passes, one-add) (length-append (encode_utf8 c) (encode_utf8_all (take_while is_word_char cs)))
  | inr fails ↦ rw fails refl
]

-- a character at the front
pub word_len-char : (text rest : List ℕ) (c : ℕ) → IsUtf8 text → text ≡ encode_utf8 c ++ rest
    → word_len text ≡ cond (is_word_char c) (length (encode_utf8 c) + word_len rest) 0
unfolding word_len
word_len-char text rest c utf8 e = rw (chars_past_char text rest c utf8 e) (word_run c (chars rest))

pub char_len-nil : char_len [] ≡ 0
unfolding char_len
char_len-nil = rw chars-nil refl

pub char_len-char : (text rest : List ℕ) (c : ℕ) → IsUtf8 text → text ≡ encode_utf8 c ++ rest → char_len text ≡ length (encode_utf8 c)
unfolding char_len
char_len-char text rest c utf8 e = rw (chars_past_char text rest c utf8 e) (ap length (append-nil (encode_utf8 c)))

-- an ASCII character of a word
abbrev pub in_ascii : ℕ → Bool
in_ascii c = nat_lt c 128 && is_word_char c

-- ASCII characters of a word with an ASCII character after them, or the end, are the whole word
pub word_len-ascii : (text : List ℕ) → IsUtf8 text → get_or text (prefix_len in_ascii text) 0 < 128 → word_len text ≡ prefix_len in_ascii text
word_len-ascii [] utf8 stop = word_len-nil
word_len-ascii (c ∷ cs) utf8 stop = elim (cases_Bool (in_ascii c)) [
  | inl passes ↦
      let (low, part) = and_parts (nat_lt c 128) (is_word_char c) passes in
      let small = ltb-true c 128 low in
      let more = word_len-ascii cs (IsUtf8-past_char (c ∷ cs) cs c utf8 (split c cs small)) (rw (passes, one-add) at stop) in
      rw passes (omega (arith, rw part at (word_len-char (c ∷ cs) cs c utf8 (split c cs small)), ap length (encode_ascii c small), more))
  | inr fails ↦
      let small : c < 128 = rw fails at stop in
      let none : is_word_char c ≡ false = rw (lt-ltb c 128 small) at fails in
      rw fails (rw none at (word_len-char (c ∷ cs) cs c utf8 (split c cs small)))
]
  where
    split : (c : ℕ) (cs : List ℕ) → c < 128 → c ∷ cs ≡ encode_utf8 c ++ cs
    split c cs small = ap (λ bytes. bytes ++ cs) (sym (encode_ascii c small))
