-- Bare words of data at the front of a text.
use Rattle.std.proofs.Common.{◌≡◌, ℕ, ◌<◌, ◌≤◌, Bool, true, false, ◌&&◌, ◌||◌, ◌==◌, List, [], ◌∷◌, ◌++◌, length, take, drop, nat_lt, IsUtf8, refl, sym, ap, ◌∙◌, arith, inl, inr, append_assoc, length-append, take-append-drop, take_at, one-add}
use Rattle.std.proofs.lemmas.Bool.{cases_Bool, cases_lt, lt-ltb, le-ltb, and_parts, and_from, true≢false}
use Rattle.std.proofs.lemmas.Bool.Decides.{nat_tests}
use Rattle.std.proofs.lemmas.Str.{char_from_byte, chars-encodes, chars-append, encodes-chars, scalars-chars, encodes-append, encodes-IsAscii, IsCharBoundary-from_take}
use lib.Utf8.{scalar}
use Rattle.std.specs.List.{list_all, prefix_len, take_while}
use Rattle.std.specs.Char.{is_ascii_alphanumeric, encode_utf8}
use Rattle.std.specs.Str.{IsCharBoundary, chars, encode_utf8_all, all_scalars}
use Rattle.unicode_ident.proofs.IdentLemmas.{is_xid_continue-ascii}
use Rattle.net_lex.specs.Bytes.{first, point, plus, minus}
use Rattle.net_lex.specs.Characters.{is_word_char}
use Rattle.net_lex.specs.Numerals.{Parts, SpellsSigned}
use Rattle.net_lex.specs.Tokens.{IsWord}
use Rattle.net_lex.specs.Shapes.{word_len}
use Rattle.net_lex.proofs.NumeralLemmas.{run_all}
use Rattle.net_lex.proofs.FormLemmas.{in_numeral, signed_in, numeral_some, numeral_small, is_small, ascii, all_weaker}

-- a character of a word, where it is ASCII
abbrev pub in_ascii_word : ℕ → Bool
in_ascii_word c = (((is_ascii_alphanumeric c || c == 95) || c == point) || c == plus) || c == minus

pub word_char_ascii : (c : ℕ) → c < 128 → is_word_char c ≡ in_ascii_word c
word_char_ascii c small = rw (is_xid_continue-ascii c small) refl

pub ascii_word_char : (c : ℕ) → (nat_lt c 128 && is_word_char c) ≡ in_ascii_word c
ascii_word_char c = elim (cases_lt c 128) [ inl small ↦ rw (lt-ltb c 128 small) (word_char_ascii c small) | inr far ↦ rw (le-ltb c 128 far) (sym (none_far c far)) ]
  where
    none_far : (c : ℕ) → 128 ≤ c → in_ascii_word c ≡ false
    none_far c far = grind (arith, nat_tests)

-- what the code's test of a byte needs
pub ruleset word_tests = (ascii_word_char, nat_tests)

all_run : (p : ℕ → Bool) (cs ys : List ℕ) → list_all p cs ≡ true → take_while p (cs ++ ys) ≡ cs ++ take_while p ys
all_run p [] ys all = refl
all_run p (c ∷ cs) ys all =
    let (here, more) = and_parts (p c) (list_all p cs) all in rw (here, one-add) (ap (λ t. c ∷ t) (all_run p cs ys more))

-- no word at the front is longer than the one that is found
pub word_covers : (text more rest : List ℕ) → text ≡ more ++ rest → IsWord more → length more ≤ word_len text
unfolding word_len
word_covers text more rest e w =
    let utf8 : IsUtf8 more = (w.characters, (w.scalars, w.spelled)) in
    let own : chars more ≡ w.characters = ap chars (sym w.spelled) ∙ chars-encodes w.characters w.scalars in
    let all : chars text ≡ w.characters ++ chars rest = ap chars e ∙ (chars-append more rest utf8 ∙ ap (λ t. t ++ chars rest) own) in
    let run : take_while is_word_char (chars text) ≡ w.characters ++ take_while is_word_char (chars rest) = ap (take_while is_word_char) all ∙ all_run is_word_char w.characters (chars rest) w.all in
    let bytes = ap length (ap encode_utf8_all run ∙ encodes-append w.characters (take_while is_word_char (chars rest))) in
    omega (arith, bytes, length-append (encode_utf8_all w.characters) (encode_utf8_all (take_while is_word_char (chars rest))), ap length w.spelled)

run_some : (cs : List ℕ) → 0 < length (encode_utf8_all cs) → 0 < length cs
run_some [] some = some
run_some (c ∷ cs) some = omega arith

-- the word that is found
pub record WordFound (text : List ℕ) (n : ℕ) : Type 0 where
  pub word : IsWord (take n text)
  pub within : n ≤ length text
  pub cut : IsCharBoundary text n

pub word_found : (text : List ℕ) → IsUtf8 text → 0 < word_len text → WordFound text (word_len text)
unfolding word_len
word_found text utf8 some =
    let ws = take_while is_word_char (chars text) in
    let ds = drop (prefix_len is_word_char (chars text)) (chars text) in
    let split : text ≡ encode_utf8_all ws ++ encode_utf8_all ds =
    sym (encodes-chars text utf8) ∙ (ap encode_utf8_all (sym (take-append-drop (prefix_len is_word_char (chars text)) (chars text))) ∙ encodes-append ws ds) in
    let taken : take (length (encode_utf8_all ws)) text ≡ encode_utf8_all ws = ap (take (length (encode_utf8_all ws))) split ∙ take_at (encode_utf8_all ws) (encode_utf8_all ds) _ refl in
    let scalar : all_scalars ws ≡ true = (and_parts (all_scalars ws) (all_scalars ds) (sym (list_all_scalars ws ds) ∙ (ap all_scalars (take-append-drop (prefix_len is_word_char (chars text)) (chars text)) ∙ scalars-chars text utf8))).0 in
    let within : length (encode_utf8_all ws) ≤ length text = omega (arith, ap length split, length-append (encode_utf8_all ws) (encode_utf8_all ds)) in
    record {
      word = rw taken (record { characters = ws; some = run_some ws some; scalars = scalar; spelled = refl; all = run_all is_word_char (chars text) });
      within = within;
      cut = IsCharBoundary-from_take text (length (encode_utf8_all ws)) utf8 within (rw taken (ws, (scalar, refl)));
    }
  where
    list_all_scalars : (xs ys : List ℕ) → all_scalars (xs ++ ys) ≡ (all_scalars xs && all_scalars ys)
    list_all_scalars [] ys = refl
    list_all_scalars (x ∷ xs) ys = elim (cases_Bool (scalar x)) [ inl t ↦ rw t (list_all_scalars xs ys) | inr f ↦ rw f refl ]

-- the first character of a word at the front
word_first : (text more rest : List ℕ) → text ≡ more ++ rest → IsWord more → (c : ℕ) × (after : List ℕ) × (text ≡ encode_utf8 c ++ after) × (is_word_char c ≡ true)
word_first text more rest e w = split w.characters w.some w.all (e ∙ ap (λ t. t ++ rest) (sym w.spelled))
  where
    split : (cs : List ℕ) → 0 < length cs → list_all is_word_char cs ≡ true → text ≡ encode_utf8_all cs ++ rest → (c : ℕ) × (after : List ℕ) × (text ≡ encode_utf8 c ++ after) × (is_word_char c ≡ true)
    split [] some all e = absurd (omega arith)
    split (c ∷ cs) some all e = (c, encode_utf8_all cs ++ rest, e ∙ append_assoc (encode_utf8 c) (encode_utf8_all cs) rest, (and_parts (is_word_char c) (list_all is_word_char cs) all).0)

-- where an ASCII byte stands first that no word holds, no word begins
pub no_word_begins : (text more rest : List ℕ) → text ≡ more ++ rest → 0 < length text → first text < 128 → in_ascii_word (first text) ≡ false → ¬ IsWord more
no_word_begins text more rest e some small none w =
    let (c, after, split, passes) = word_first text more rest e w in
    let same : c ≡ first text = char_from_byte text after c split small some in
    true≢false (sym passes ∙ (ap is_word_char same ∙ (word_char_ascii (first text) small ∙ none)))

in_word : (c : ℕ) → in_numeral c ≡ true → in_ascii_word c ≡ true
in_word c h = grind (arith, nat_tests)

small_word : (c : ℕ) → in_numeral c ≡ true → is_word_char c ≡ true
small_word c h = word_char_ascii c (small_bound c h) ∙ in_word c h
  where
    small_bound : (c : ℕ) → in_numeral c ≡ true → c < 128
    small_bound c h = grind (arith, nat_tests)

ascii_scalar : (c : ℕ) → is_small c ≡ true → scalar c ≡ true
ascii_scalar c h = grind (arith, nat_tests)

pub signed_word : (text : List ℕ) (negative : Bool) (p : Parts) → SpellsSigned text negative p → IsWord text
signed_word text negative p s =
    let all = signed_in text negative p s in
    record {
      characters = text;
      some = omega (arith, ap length s.joined, length-append s.sign s.body, numeral_some s.body p s.numeral);
      scalars = ascii_scalars text (numeral_small text all);
      spelled = encodes-IsAscii text (ascii text (numeral_small text all));
      all = all_weaker in_numeral is_word_char text small_word all;
    }
  where
    ascii_scalars : (text : List ℕ) → list_all is_small text ≡ true → all_scalars text ≡ true
    ascii_scalars [] h = refl
    ascii_scalars (c ∷ cs) h =
        let (here, more) = and_parts (is_small c) (list_all is_small cs) h in and_from (scalar c) (all_scalars cs) (ascii_scalar c here) (ascii_scalars cs more)

-- the point alone is a word
pub point_word : IsWord (point ∷ [])
point_word = record { characters = point ∷ []; some = omega arith; scalars = refl; spelled = encodes-IsAscii (point ∷ []) (ascii (point ∷ []) refl); all = rw (word_char_ascii point (omega arith)) refl }
