-- The first bytes of names, numerals, strings, marks and words, and that each may be cut off.
use Rattle.std.proofs.Common.{◌≡◌, ℕ, ◌<◌, ◌≤◌, ◌⊎◌, Bool, true, false, ◌||◌, ◌==◌, nat_lt, List, [], ◌∷◌, ◌++◌, length, take, IsUtf8, refl, sym, ap, ◌∙◌, arith, inl, inr, subst, append_assoc, length-append, take_at}
use Rattle.std.proofs.lemmas.Bool.{ltb-true, and_parts, and_from}
use Rattle.std.proofs.lemmas.Bool.Decides.{nat_tests}
use Rattle.std.proofs.lemmas.List.Folds.{list_all-append}
use Rattle.std.proofs.lemmas.Str.{IsUtf8-from_ascii, IsCharBoundary-from_take}
use Rattle.std.proofs.lemmas.Str.Ascii.{IsAscii-nil, IsAscii-cons}
use Rattle.std.specs.List.{list_all, prefix_len}
use Rattle.std.specs.Char.{is_ascii_digit}
use Rattle.std.specs.Str.{IsAscii, IsCharBoundary}
use Rattle.net_lex.specs.Bytes.{first, second, point, marks_power, is_sign}
use Rattle.net_lex.specs.Characters.{is_quote, starts_name, continues_name}
use Rattle.net_lex.specs.Numerals.{Parts, AllDigits, AreDigits, SpellsMantissa, plain, pointed, IsSign, unsigned, with_plus, with_minus, SpellsPower, absent, marked, SpellsNumeral, SpellsSigned}
use Rattle.net_lex.proofs.NumeralLemmas.{first_append, first_digit}

-- a byte of a numeral
abbrev pub in_numeral : ℕ → Bool
in_numeral c = ((is_ascii_digit c || c == point) || marks_power c) || is_sign c

pub all_weaker : (p q : ℕ → Bool) (text : List ℕ) → ((c : ℕ) → p c ≡ true → q c ≡ true) → list_all p text ≡ true → list_all q text ≡ true
all_weaker p q [] h all = refl
all_weaker p q (c ∷ cs) h all =
    let (here, more) = and_parts (p c) (list_all p cs) all in and_from (q c) (list_all q cs) (h c here) (all_weaker p q cs h more)

all_joined : (p : ℕ → Bool) (xs ys : List ℕ) → list_all p xs ≡ true → list_all p ys ≡ true → list_all p (xs ++ ys) ≡ true
all_joined p xs ys hx hy = list_all-append p xs ys ∙ and_from (list_all p xs) (list_all p ys) hx hy

digit_in : (c : ℕ) → is_ascii_digit c ≡ true → in_numeral c ≡ true
digit_in c h = grind (arith, nat_tests)

letter_in : (c : ℕ) → marks_power c ≡ true → in_numeral c ≡ true
letter_in c h = grind (arith, nat_tests)

digits_in : (ds : List ℕ) → AllDigits ds → list_all in_numeral ds ≡ true
digits_in ds h = all_weaker is_ascii_digit in_numeral ds digit_in h

mantissa_in : (text whole fraction : List ℕ) → SpellsMantissa text whole fraction → list_all in_numeral text ≡ true
mantissa_in text whole fraction (plain d e none) = rw e (digits_in whole d.all)
mantissa_in text whole fraction (pointed w f e) = rw e (all_joined in_numeral whole (point ∷ fraction) (digits_in whole w) (digits_in fraction f.all))

sign_in : (text : List ℕ) (negative : Bool) → IsSign text negative → list_all in_numeral text ≡ true
sign_in text negative (unsigned e n) = rw e refl
sign_in text negative (with_plus e n) = rw e refl
sign_in text negative (with_minus e n) = rw e refl

power_in : (text power : List ℕ) (negative : Bool) → SpellsPower text negative power → list_all in_numeral text ≡ true
power_in text power negative (absent e n none) = rw e refl
power_in text power negative (marked letter sign mark s d e) =
    rw e (and_from (in_numeral letter) (list_all in_numeral (sign ++ power)) (letter_in letter mark) (all_joined in_numeral sign power (sign_in sign negative s) (digits_in power d.all)))

pub numeral_in : (text : List ℕ) (p : Parts) → SpellsNumeral text p → list_all in_numeral text ≡ true
numeral_in text p n = rw (n.joined) (all_joined in_numeral n.front n.back (mantissa_in _ _ _ n.mantissa) (power_in _ _ _ n.power))

pub signed_in : (text : List ℕ) (negative : Bool) (p : Parts) → SpellsSigned text negative p → list_all in_numeral text ≡ true
signed_in text negative p s = rw (s.joined) (all_joined in_numeral s.sign s.body (sign_in _ _ s.signed) (numeral_in _ _ s.numeral))

-- ASCII
abbrev pub is_small : ℕ → Bool
is_small c = nat_lt c 128

pub ascii : (text : List ℕ) → list_all is_small text ≡ true → IsAscii text
ascii [] h = IsAscii-nil
ascii (c ∷ cs) h =
    let (here, more) = and_parts (is_small c) (list_all is_small cs) h in IsAscii-cons c cs (ltb-true c 128 here) (ascii cs more)

-- what is ASCII may be cut off a text
pub ascii_cut : (text word after : List ℕ) → IsUtf8 text → text ≡ word ++ after → list_all is_small word ≡ true → IsCharBoundary text (length word)
ascii_cut text word after utf8 e small =
    let front : take (length word) text ≡ word = ap (take (length word)) e ∙ take_at word after _ refl in
    IsCharBoundary-from_take text (length word) utf8 (omega (arith, ap length e, length-append word after)) (rw front (IsUtf8-from_ascii word (ascii word small)))

in_numeral_small : (c : ℕ) → in_numeral c ≡ true → is_small c ≡ true
in_numeral_small c h = grind (arith, nat_tests)

name_small : (c : ℕ) → continues_name c ≡ true → is_small c ≡ true
name_small c h = grind (arith, nat_tests)

pub numeral_small : (text : List ℕ) → list_all in_numeral text ≡ true → list_all is_small text ≡ true
numeral_small text h = all_weaker in_numeral is_small text in_numeral_small h

pub name_all_small : (text : List ℕ) → list_all continues_name text ≡ true → list_all is_small text ≡ true
name_all_small text h = all_weaker continues_name is_small text name_small h

-- how a numeral begins
abbrev pub BeginsNumeral : List ℕ → Type 0
BeginsNumeral text = (is_ascii_digit (first text) ≡ true) ⊎ ((first text ≡ point) × (is_ascii_digit (second text) ≡ true))

begins_pointed : (whole fraction rest : List ℕ) → AllDigits whole → AreDigits fraction → BeginsNumeral ((whole ++ point ∷ fraction) ++ rest)
begins_pointed [] fraction rest w f = inr (refl, first_digit fraction rest f)
begins_pointed (c ∷ cs) fraction rest w f = inl ((and_parts (is_ascii_digit c) (list_all is_ascii_digit cs) w).0)

mantissa_begins : (front whole fraction rest : List ℕ) → SpellsMantissa front whole fraction → BeginsNumeral (front ++ rest)
mantissa_begins front whole fraction rest (plain d e none) = inl (rw e (first_digit whole rest d))
mantissa_begins front whole fraction rest (pointed w f e) = rw e (begins_pointed whole fraction rest w f)

pub numeral_begins : (text rest : List ℕ) (p : Parts) → SpellsNumeral text p → BeginsNumeral (text ++ rest)
numeral_begins text rest p n =
    subst BeginsNumeral (sym (append_assoc n.front n.back rest) ∙ ap (λ t. t ++ rest) (sym n.joined)) (mantissa_begins n.front p.whole p.fraction (n.back ++ rest) n.mantissa)

mantissa_some : (front whole fraction : List ℕ) → SpellsMantissa front whole fraction → 0 < length front
mantissa_some front whole fraction (plain d e none) = omega (arith, d.some, ap length e)
mantissa_some front whole fraction (pointed w f e) = omega (arith, ap length e, length-append whole (point ∷ fraction))

pub numeral_some : (text : List ℕ) (p : Parts) → SpellsNumeral text p → 0 < length text
numeral_some text p n = omega (arith, ap length n.joined, length-append n.front n.back, mantissa_some _ _ _ n.mantissa)

-- the classes of first bytes exclude one another
pub numeral_no_name : (text : List ℕ) → BeginsNumeral text → starts_name (first text) ≡ false
numeral_no_name text (inl digit) = digit_case (first text) digit
  where
    digit_case : (c : ℕ) → is_ascii_digit c ≡ true → starts_name c ≡ false
    digit_case c h = grind (arith, nat_tests)
numeral_no_name text (inr (e, digit)) = rw e refl

pub numeral_no_quote : (text : List ℕ) → BeginsNumeral text → is_quote (first text) ≡ false
numeral_no_quote text (inl digit) = digit_case (first text) digit
  where
    digit_case : (c : ℕ) → is_ascii_digit c ≡ true → is_quote c ≡ false
    digit_case c h = grind (arith, nat_tests)
numeral_no_quote text (inr (e, digit)) = rw e refl

pub name_no_quote : (c : ℕ) → starts_name c ≡ true → is_quote c ≡ false
name_no_quote c h = grind (arith, nat_tests)

-- the first byte of a text that begins with another, which is not empty
pub same_first : (text more rest : List ℕ) → text ≡ more ++ rest → 0 < length more → first text ≡ first more
same_first text more rest e some = ap first e ∙ first_append more rest some

-- a run of what passes a test is at least as long as a front that passes
pub run_covers : (p : ℕ → Bool) (xs ys : List ℕ) → list_all p xs ≡ true → length xs ≤ prefix_len p (xs ++ ys)
run_covers p [] ys all = omega arith
run_covers p (c ∷ cs) ys all =
    let (here, more) = and_parts (p c) (list_all p cs) all in rw here (omega (arith, run_covers p cs ys more))
