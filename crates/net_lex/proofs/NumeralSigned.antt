-- Numerals with an optional sign: what the code reads of a whole text, and what the text spells.
use Rattle.std.proofs.Common.{◌≡◌, ◌≤◌, ℕ, pos, Bool, true, false, ◌==◌, List, [], ◌∷◌, ◌++◌, length, Some, None, Option, Ok, Err, refl, sym, ap, ◌∙◌, arith, append-nil}
use Rattle.std.proofs.lemmas.Bool.{true≢false}
use Rattle.std.proofs.lemmas.Bool.Decides.{nat_tests}
use Rattle.std.specs.Char.{is_ascii_digit}
use Rattle.net_lex.specs.Bytes.{first, minus, is_sign, after_sign}
use Rattle.net_lex.specs.Numerals.{Parts, AllDigits, AreDigits, digits_value, SpellsMantissa, plain, pointed, IsSign, unsigned, with_plus, with_minus, absent, SpellsNumeral, SpellsSigned, IsSized, IsValue, IsNumFault, mantissa, up, down, signed}
use Rattle.net_lex.specs.declared.whole.NumFault.{NumFault}
use Rattle.net_lex.specs.declared.whole.NumFault.TheVariants.{NotNumeral, NotWhole, TooLarge}
use Rattle.net_lex.specs.NumeralFront.{numeral_at}
use Rattle.net_lex.proofs.NumeralLemmas.{first_digit}
use Rattle.net_lex.proofs.SizeLemmas.{whole_of_digits}
use Rattle.net_lex.proofs.NumeralSpelled.{numeral_read, numeral_spelled, sign_before}

digit_no_sign : (c : ℕ) → is_ascii_digit c ≡ true → is_sign c ≡ false
digit_no_sign c digit = grind (arith, nat_tests)

no_sign_no_minus : (c : ℕ) → is_sign c ≡ false → (c == minus) ≡ false
no_sign_no_minus c h = grind (arith, nat_tests)

-- no sign begins a numeral
mantissa_unsigned : (front back whole fraction : List ℕ) → SpellsMantissa front whole fraction → is_sign (first (front ++ back)) ≡ false
mantissa_unsigned front back whole fraction (plain d e none) = rw e (digit_no_sign (first (whole ++ back)) (first_digit whole back d))
mantissa_unsigned front back [] fraction (pointed w f e) = rw e refl
mantissa_unsigned front back (c ∷ cs) fraction (pointed w f e) =
    rw e (digit_no_sign c (first_digit (c ∷ cs) back (record { some = omega arith; all = w })))

numeral_unsigned : (body : List ℕ) (p : Parts) → SpellsNumeral body p → is_sign (first body) ≡ false
numeral_unsigned body p n = rw (n.joined) (mantissa_unsigned n.front n.back p.whole p.fraction n.mantissa)

after_any_sign : (sign body : List ℕ) (negative : Bool) → IsSign sign negative → is_sign (first body) ≡ false
    → (after_sign (sign ++ body) ≡ body) × ((first (sign ++ body) == minus) ≡ negative)
after_any_sign sign body negative (unsigned e n) bare = rw (e, n) (rw bare refl, no_sign_no_minus _ bare)
after_any_sign sign body negative (with_plus e n) bare = rw (e, n) (refl, refl)
after_any_sign sign body negative (with_minus e n) bare = rw (e, n) (refl, refl)

-- a numeral with a sign is read after its sign, to the end
pub signed_read : (text : List ℕ) (negative : Bool) (p : Parts) → SpellsSigned text negative p
    → (numeral_at (after_sign text) ≡ Some (p, [])) × ((first text == minus) ≡ negative)
signed_read text negative p s =
    let (after, sign) = after_any_sign s.sign s.body negative s.signed (numeral_unsigned s.body p s.numeral) in
    rw (s.joined) (rw after (numeral_read s.body p s.numeral), sign)

pub signed_spelled : (text : List ℕ) (p : Parts) → numeral_at (after_sign text) ≡ Some (p, []) → SpellsSigned text (first text == minus) p
signed_spelled text p e =
    let (sign, joined, s) = sign_before text in
    let (front, whole, n) = numeral_spelled (after_sign text) [] p e in
    record { sign = sign; body = after_sign text; joined = joined; signed = s; numeral = rw (whole, append-nil front) n }

-- the digits of what is read are digits
mantissa_digits : (front whole fraction : List ℕ) → SpellsMantissa front whole fraction → AllDigits whole × AllDigits fraction
mantissa_digits front whole fraction (plain d e none) = (d.all, rw none refl)
mantissa_digits front whole fraction (pointed w f e) = (w, f.all)

pub read_digits : (text rest : List ℕ) (p : Parts) → numeral_at text ≡ Some (p, rest) → AllDigits p.whole × AllDigits p.fraction
read_digits text rest p e =
    let (front, joined, n) = numeral_spelled text rest p e in mantissa_digits n.front p.whole p.fraction n.mantissa

pub unread_none : (text : List ℕ) → numeral_at (after_sign text) ≡ None → (negative : Bool) (p : Parts) → ¬ SpellsSigned text negative p
unread_none text e negative p s = let read = (signed_read text negative p s).0 in cc

abbrev rest_len : Option (Parts × List ℕ) → ℕ
rest_len None = 0
rest_len (Some x) = length x.1

pub unread_rest : (text rest : List ℕ) (q : Parts) → numeral_at (after_sign text) ≡ Some (q, rest) → (length rest == 0) ≡ false
    → (negative : Bool) (p : Parts) → ¬ SpellsSigned text negative p
unread_rest text [] q e some negative p s = absurd (true≢false some)
unread_rest text (c ∷ cs) q e some negative p s =
    let none : length (c ∷ cs) ≡ 0 = ap rest_len (sym e ∙ (signed_read text negative p s).0) in omega arith

pub sized_fault : (limit : ℕ) (text : List ℕ) (p : Parts) (why : NumFault) → numeral_at (after_sign text) ≡ Some (p, [])
    → IsSized limit (mantissa p) (up p) (down p) (Err why) → IsNumFault limit text why
sized_fault limit text p NotNumeral e sized = absurd sized
sized_fault limit text p NotWhole e sized = (first text == minus, p, signed_spelled text p e, sized)
sized_fault limit text p TooLarge e (n, whole, large) = (first text == minus, p, n, signed_spelled text p e, whole, large)

pub sized_value : (limit n : ℕ) (text : List ℕ) (p : Parts) → numeral_at (after_sign text) ≡ Some (p, [])
    → IsSized limit (mantissa p) (up p) (down p) (Ok n) → IsValue limit text (signed (first text == minus) n)
sized_value limit n text p e (whole, small) = record {
  negative = first text == minus;
  parts = p;
  size = n;
  spelled = signed_spelled text p e;
  whole = whole;
  within = small;
  is = refl;
}

-- a text of digits alone has the number that they write
pub digits_spell : (text : List ℕ) → AreDigits text → digits_value text ≤ 1000000000000 → IsValue 1000000000000 text (pos (digits_value text))
digits_spell text h small = record {
  negative = false;
  parts = record { whole = text; fraction = []; negative = false; power = [] };
  size = digits_value text;
  spelled = record {
    sign = [];
    body = text;
    joined = refl;
    signed = unsigned refl refl;
    numeral = record { front = text; back = []; joined = sym (append-nil text); mantissa = plain h refl refl; power = absent refl refl refl };
  };
  whole = rw (append-nil text) (whole_of_digits (digits_value text));
  within = small;
  is = refl;
}
