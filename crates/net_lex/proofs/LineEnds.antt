-- No token contains a line ending.
use Rattle.std.proofs.Common.{◌≡◌, ℕ, suc, ◌<◌, ◌≤◌, Bool, true, false, not, ◌&&◌, List, [], ◌∷◌, ◌++◌, length, get_or, refl, ap, sym, ◌∙◌, inl, inr, arith}
use Rattle.std.proofs.lemmas.Bool.{cases_lt, cases_Bool, and_parts, and_from, true≢false}
use Rattle.std.proofs.lemmas.Bool.Decides.{nat_tests}
use Rattle.std.proofs.lemmas.List.Folds.{list_all-append}
use Rattle.std.proofs.lemmas.Str.{NoCharPasses-byte}
use Rattle.std.specs.List.{AllByRecursion, list_all}
use Rattle.std.specs.Str.{NonePass}
use Rattle.net_base.specs.declared.diagnostic.Language.{Language}
use Rattle.net_base.specs.declared.diagnostic.Language.TheVariants.{Model, Data}
use Rattle.net_lex.specs.declared.token.Kind.{Kind}
use Rattle.net_lex.specs.declared.token.Kind.TheVariants as kinds
use Rattle.net_lex.specs.declared.token.Token.{Token}
use Rattle.net_lex.specs.Characters.{is_quote, is_control, starts_name, continues_name, is_word_char}
use Rattle.net_lex.specs.Bytes.{first}
use Rattle.net_lex.specs.LineEnds.{ends_line, HasNoLineEnd}
use Rattle.net_lex.specs.Reading.{IsNext, StandIn, EndsInGap}
use Rattle.net_lex.specs.Tokens.{IsWord, IsString, IsInside, nothing, plain, doubled, Allows}
use Rattle.net_lex.specs.Words.{model_marks, data_marks}
use Rattle.net_lex.proofs.FormLemmas.{in_numeral, numeral_in, all_weaker}
use Rattle.net_lex.proofs.Tables.{passes_among, reserved_names}
use Rattle.net_lex.proofs.WordReading.{in_ascii_word, word_char_ascii, signed_word}

abbrev stays : ℕ → Bool
stays c = not (ends_line c)

name_stays : (c : ℕ) → continues_name c ≡ true → stays c ≡ true
name_stays c h = grind (arith, nat_tests)

numeral_stays : (c : ℕ) → in_numeral c ≡ true → stays c ≡ true
numeral_stays c h = grind (arith, nat_tests)

quote_stays : (c : ℕ) → is_quote c ≡ true → stays c ≡ true
quote_stays c h = grind (arith, nat_tests)

plain_stays : (c : ℕ) → is_control c ≡ false → stays c ≡ true
plain_stays c h = grind (arith, nat_tests)

inside_stays : (q : ℕ) (inside : List ℕ) → is_quote q ≡ true → IsInside q inside → list_all stays inside ≡ true
inside_stays q [] quote nothing = refl
inside_stays q (c ∷ cs) quote (plain other free is) = and_from (stays c) (list_all stays cs) (plain_stays c free) (inside_stays q cs quote is)
inside_stays q (_ ∷ _ ∷ cs) quote (doubled is) =
    and_from (stays q) (stays q && list_all stays cs) (quote_stays q quote) (and_from (stays q) (list_all stays cs) (quote_stays q quote) (inside_stays q cs quote is))

string_stays : (text : List ℕ) → IsString text → HasNoLineEnd text
string_stays text s =
    let ends : list_all stays (s.delimiter ∷ []) ≡ true = and_from (stays s.delimiter) true (quote_stays s.delimiter s.quote) refl in
    let body = list_all-append stays s.inside (s.delimiter ∷ [])
    ∙ and_from (list_all stays s.inside) (list_all stays (s.delimiter ∷ [])) (inside_stays s.delimiter s.inside s.quote s.body) ends in
    rw (s.joined) (and_from (stays s.delimiter) (list_all stays (s.inside ++ s.delimiter ∷ [])) (quote_stays s.delimiter s.quote) body)

-- a character of a bare word
end_small : (c : ℕ) → ends_line c ≡ true → c < 128
end_small c h = grind (arith, nat_tests)

end_no_word : (c : ℕ) → ends_line c ≡ true → in_ascii_word c ≡ false
end_no_word c h = grind (arith, nat_tests)

word_ends_none : (c : ℕ) → is_word_char c ≡ true → ends_line c ≡ false
word_ends_none c h = elim (cases_Bool (ends_line c)) [
  | inl ends ↦ absurd (true≢false (sym h ∙ (word_char_ascii c (end_small c ends) ∙ end_no_word c ends)))
  | inr other ↦ other
]

none_ends : (cs : List ℕ) → list_all is_word_char cs ≡ true → NonePass ends_line cs
none_ends [] all = tt
none_ends (c ∷ cs) all =
    let (here, more) = and_parts (is_word_char c) (list_all is_word_char cs) all in (word_ends_none c here, none_ends cs more)

far_stays : (c : ℕ) → 128 ≤ c → ends_line c ≡ false
far_stays c h = grind (arith, nat_tests)

all_from : (p : ℕ → Bool) (xs : List ℕ) → ((i : ℕ) → i < length xs → p (get_or xs i 0) ≡ true) → list_all p xs ≡ true
all_from p [] h = refl
all_from p (x ∷ xs) h = and_from (p x) (list_all p xs) (h 0 (omega arith)) (all_from p xs (λ i l. h (suc i) (omega (arith, l))))

word_stays : (text : List ℕ) → IsWord text → HasNoLineEnd text
word_stays text w = all_from stays text (λ i l. ap not (at i l))
  where
    at : (i : ℕ) → i < length text → ends_line (get_or text i 0) ≡ false
    at i l = elim (cases_lt (get_or text i 0) 128) [
      | inl small ↦ NoCharPasses-byte ends_line text i (w.characters, w.spelled, none_ends w.characters w.all) l small
      | inr far ↦ far_stays (get_or text i 0) far
    ]

allowed_stays : (language : Language) (kind : Kind) (text : List ℕ) → Allows language kind text → HasNoLineEnd text
allowed_stays Model kinds.Name text (n, free) = all_weaker continues_name stays text name_stays n.goes_on
allowed_stays Model kinds.Key text among =
    all_weaker continues_name stays text name_stays (and_parts (starts_name (first text)) (list_all continues_name text) (reserved_names text among)).1
allowed_stays Model kinds.Num text (p, n) = all_weaker in_numeral stays text numeral_stays (numeral_in text p n)
allowed_stays Model kinds.Str text s = string_stays text s
allowed_stays Model kinds.Mark text among = passes_among (list_all stays) model_marks text refl among
allowed_stays Model kinds.Dot text none = absurd none
allowed_stays Data kinds.Name text (w, no_dot, none) = word_stays text w
allowed_stays Data kinds.Key text none = absurd none
allowed_stays Data kinds.Num text (negative, p, s) = word_stays text (signed_word text negative p s)
allowed_stays Data kinds.Str text s = string_stays text s
allowed_stays Data kinds.Mark text among = passes_among (list_all stays) data_marks text refl among
allowed_stays Data kinds.Dot text is = rw is refl

pub tokens_stay : (language : Language) (at : ℕ) (rest : List ℕ) (tokens : List Token) → StandIn (IsNext language) EndsInGap at rest tokens
    → AllByRecursion (λ token. HasNoLineEnd token.text) tokens
tokens_stay language at rest [] last = tt
tokens_stay language at rest (t ∷ ts) (gap, after, next, tail) =
    (allowed_stays language t.kind t.text next.longest.allowed, tokens_stay language t.span.end after ts tail)
