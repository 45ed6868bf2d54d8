-- The numeral that is read at the front of a text is spelled there, and a numeral that is the whole text is read.
use Rattle.std.proofs.Common.{◌≡◌, ℕ, ◌≤◌, Bool, true, false, ◌&&◌, ◌==◌, List, [], ◌∷◌, ◌++◌, length, drop, nat_lt, Option, Some, None, option_and_then, refl, sym, ap, ◌∙◌, arith, subst, inl, inr, append_assoc, append-nil, length-append, one-add}
use Rattle.std.proofs.lemmas.Bool.{cases_Bool, and_parts, false≢true, eqb-true, ltb-true}
use Rattle.std.proofs.lemmas.Bool.Decides.{nat_tests}
use Rattle.std.specs.Char.{is_ascii_digit}
use Rattle.net_lex.specs.Bytes.{first, point, plus, minus, marks_power, after_sign, digits_at}
use Rattle.net_lex.specs.Numerals.{Parts, AllDigits, AreDigits, SpellsMantissa, plain, pointed, IsSign, unsigned, with_plus, with_minus, SpellsPower, absent, marked, SpellsNumeral}
use Rattle.net_lex.specs.NumeralFront.{Mantissa, Power, starts_fraction, mantissa_at, power_at, numeral_at}
use Rattle.net_lex.proofs.NumeralLemmas.{digits_all, digits_joined, digits_run, power_marked, power_absent, power_rest, mantissa_read, mantissa_leaves, mantissa_from, mantissa_is, digits_rest, LeavesAtMost}

-- the parts that a mantissa and a power make
abbrev with_power : Mantissa → Power → Parts × List ℕ
with_power m p = (record { whole = m.whole; fraction = m.fraction; negative = p.negative; power = p.power }, p.rest)

abbrev numeral_from : Option Mantissa → Option (Parts × List ℕ)
numeral_from m = option_and_then (λ m. Some (with_power m (power_at m.rest))) m

numeral_is : (text : List ℕ) → numeral_at text ≡ numeral_from (mantissa_at text)
unfolding numeral_at
numeral_is text = refl

letter_no_digit : (c : ℕ) → marks_power c ≡ true → is_ascii_digit c ≡ false
letter_no_digit c mark = grind (arith, nat_tests)

letter_no_point : (c : ℕ) → marks_power c ≡ true → (c == point) ≡ false
letter_no_point c mark = grind (arith, nat_tests)

-- neither a digit nor a point begins a power
power_no_digit : (back power : List ℕ) (negative : Bool) → SpellsPower back negative power → is_ascii_digit (first back) ≡ false
power_no_digit back power negative (absent e n none) = rw e refl
power_no_digit back power negative (marked letter sign mark s d e) = rw e (letter_no_digit letter mark)

power_no_point : (back power : List ℕ) (negative : Bool) → SpellsPower back negative power → (first back == point) ≡ false
power_no_point back power negative (absent e n none) = rw e refl
power_no_point back power negative (marked letter sign mark s d e) = rw e (letter_no_point letter mark)

abbrev power_of : Bool → List ℕ × List ℕ → Power
power_of negative digits = record { negative = negative; power = digits.0; rest = digits.1 }

power_read : (back power : List ℕ) (negative : Bool) → SpellsPower back negative power → power_at back ≡ record { negative = negative; power = power; rest = [] }
power_read back power negative (absent e n none) = rw (e, n, none) (power_absent [] refl)
power_read back power negative (marked letter sign mark s d e) =
    let ends : power ++ [] ≡ power = append-nil power in
    let all : digits_at (power ++ []) ≡ (power, []) = digits_run power [] d.all refl in
    rw e (ap (λ t. power_at (letter ∷ (sign ++ t))) (sym ends)
    ∙ (power_marked letter sign power [] negative mark s d ∙ ap (power_of negative) all))

-- a numeral that is the whole text is read
pub numeral_read : (text : List ℕ) (p : Parts) → SpellsNumeral text p → numeral_at text ≡ Some (p, [])
numeral_read text p n =
    rw (n.joined) (numeral_is (n.front ++ n.back)
    ∙ (ap numeral_from (mantissa_read n.front p.whole p.fraction n.back n.mantissa (power_no_digit _ _ _ n.power) (power_no_point _ _ _ n.power))
    ∙ ap (λ q. Some (with_power (record { whole = p.whole; fraction = p.fraction; rest = n.back }) q)) (power_read n.back p.power p.negative n.power)))

-- whatever follows a numeral, at least as much is read
abbrev pub NumeralLeaves : ℕ → Option (Parts × List ℕ) → Type 0
NumeralLeaves n None = ⊥
NumeralLeaves n (Some x) = length x.1 ≤ n

from_mantissa : (m : Option Mantissa) (n : ℕ) → LeavesAtMost n m → NumeralLeaves n (numeral_from m)
from_mantissa None n none = none
from_mantissa (Some m) n small = omega (arith, power_rest m.rest)

from_power : (whole fraction back power after : List ℕ) (negative : Bool) → SpellsPower back negative power → (text : List ℕ)
    → mantissa_at (text ++ (back ++ after)) ≡ Some (record { whole = whole; fraction = fraction; rest = back ++ after })
    → NumeralLeaves (length after) (numeral_from (mantissa_at (text ++ (back ++ after))))
from_power whole fraction back power after negative (absent e n none) text is =
    rw is (omega (arith, power_rest (back ++ after), ap length (ap (λ t. t ++ after) e)))
from_power whole fraction back power after negative (marked letter sign mark s d e) text is =
    let regrouped : back ++ after ≡ letter ∷ (sign ++ (power ++ after)) = ap (λ t. t ++ after) e ∙ ap (λ t. letter ∷ t) (append_assoc sign power after) in
    let read : power_at (back ++ after) ≡ power_of negative (digits_at (power ++ after)) = ap power_at regrouped ∙ power_marked letter sign power after negative mark s d in
    rw is (rw (ap (λ p. p.rest) read) (digits_rest power after d.all))

leaves_at : (front back after whole fraction power : List ℕ) (negative : Bool) → SpellsMantissa front whole fraction → SpellsPower back negative power
    → NumeralLeaves (length after) (numeral_at (front ++ (back ++ after)))
leaves_at front back after whole fraction power negative m (absent e n none) =
    rw (e, numeral_is (front ++ after)) (from_mantissa (mantissa_at (front ++ after)) (length after) (mantissa_leaves front whole fraction after m))
leaves_at front back after whole fraction power negative m (marked letter sign mark s d e) =
    let digit : is_ascii_digit (first (back ++ after)) ≡ false = rw e (letter_no_digit letter mark) in
    let dot : (first (back ++ after) == point) ≡ false = rw e (letter_no_point letter mark) in
    subst (NumeralLeaves (length after)) (sym (numeral_is (front ++ (back ++ after))))
    (from_power whole fraction back power after negative (marked letter sign mark s d e) front (mantissa_read front whole fraction (back ++ after) m digit dot))

-- the numeral at the front is read, and more only where it goes on
pub numeral_leaves : (text after : List ℕ) (p : Parts) → SpellsNumeral text p → NumeralLeaves (length after) (numeral_at (text ++ after))
numeral_leaves text after p n =
    let split : text ++ after ≡ n.front ++ (n.back ++ after) = ap (λ t. t ++ after) n.joined ∙ append_assoc n.front n.back after in
    rw split (leaves_at n.front n.back after p.whole p.fraction p.power p.negative n.mantissa n.power)

-- what is read is spelled
abbrev SpelledBefore : List ℕ → Option Mantissa → Type 0
SpelledBefore text None = Unit {0}
SpelledBefore text (Some m) = (front : List ℕ) × (text ≡ front ++ m.rest) × SpellsMantissa front m.whole m.fraction

point_begins : (text : List ℕ) → starts_fraction text ≡ true → (text ≡ point ∷ drop 1 text) × (is_ascii_digit (first (drop 1 text)) ≡ true)
point_begins [] h = absurd (false≢true h)
point_begins (c ∷ cs) h =
    let (dot, digit) = and_parts (c == point) (is_ascii_digit (first cs)) h in
    (ap (λ k. k ∷ cs) (eqb-true c point dot), digit)

digits_some : (text : List ℕ) → is_ascii_digit (first text) ≡ true → AreDigits (digits_at text).0
digits_some [] h = absurd (false≢true h)
digits_some (c ∷ cs) h = record { some = rw (h, one-add) (omega arith); all = digits_all (c ∷ cs) }

from_spelled : (whole rest : List ℕ) → AllDigits whole → SpelledBefore (whole ++ rest) (mantissa_from (whole, rest))
from_spelled whole rest all = elim (cases_Bool (starts_fraction rest)) [
  | inl starts ↦
      let (dot, digit) = point_begins rest starts in
      let found = digits_at (drop 1 rest) in
      rw starts (
        whole ++ point ∷ found.0,
        ap (λ t. whole ++ t) (dot ∙ ap (λ t. point ∷ t) (digits_joined (drop 1 rest))) ∙ sym (append_assoc whole (point ∷ found.0) found.1),
        pointed all (digits_some (drop 1 rest) digit) refl,
      )
  | inr stops ↦ elim (cases_Bool (nat_lt 0 (length whole))) [
    | inl some ↦ rw (stops, some) (whole, refl, plain (record { some = ltb-true 0 (length whole) some; all = all }) refl refl)
    | inr none ↦ rw (stops, none) tt
  ]
]

mantissa_spelled : (text : List ℕ) → SpelledBefore text (mantissa_at text)
mantissa_spelled text =
    let found = digits_at text in
    rw (mantissa_is text) (subst (λ t. SpelledBefore t (mantissa_from found)) (sym (digits_joined text)) (from_spelled found.0 found.1 (digits_all text)))

pub sign_before : (text : List ℕ) → (sign : List ℕ) × (text ≡ sign ++ after_sign text) × IsSign sign (first text == minus)
sign_before [] = ([], refl, unsigned refl refl)
sign_before (c ∷ cs) = elim (cases_Bool (c == plus)) [
  | inl is_plus ↦ rw (eqb-true c plus is_plus) (plus ∷ [], refl, with_plus refl refl)
  | inr not_plus ↦ elim (cases_Bool (c == minus)) [
    | inl is_minus ↦ rw (eqb-true c minus is_minus) (minus ∷ [], refl, with_minus refl refl)
    | inr not_minus ↦ rw (not_plus, not_minus) ([], refl, unsigned refl refl)
  ]
]

letter_begins : (text : List ℕ) → marks_power (first text) ≡ true → text ≡ first text ∷ drop 1 text
letter_begins [] h = absurd (false≢true h)
letter_begins (c ∷ cs) h = refl

power_spelled : (text : List ℕ) → (back : List ℕ) × (text ≡ back ++ (power_at text).rest) × SpellsPower back (power_at text).negative (power_at text).power
unfolding power_at
power_spelled text = elim (cases_Bool (marks_power (first text) && is_ascii_digit (first (after_sign (drop 1 text))))) [
  | inl h ↦
      let (mark, digit) = and_parts (marks_power (first text)) (is_ascii_digit (first (after_sign (drop 1 text)))) h in
      let (sign, split, s) = sign_before (drop 1 text) in
      let found = digits_at (after_sign (drop 1 text)) in
      rw h (
        first text ∷ (sign ++ found.0),
        letter_begins text mark ∙ ap (λ t. first text ∷ t) (split ∙ (ap (λ t. sign ++ t) (digits_joined (after_sign (drop 1 text))) ∙ sym (append_assoc sign found.0 found.1))),
        marked (first text) sign mark s (digits_some (after_sign (drop 1 text)) digit) refl,
      )
  | inr h ↦ rw h ([], refl, absent refl refl refl)
]

abbrev NumeralSpelledBefore : List ℕ → Option (Parts × List ℕ) → Type 0
NumeralSpelledBefore text None = Unit {0}
NumeralSpelledBefore text (Some x) = (front : List ℕ) × (text ≡ front ++ x.1) × SpellsNumeral front x.0

numeral_from_spelled : (text : List ℕ) (m : Option Mantissa) → SpelledBefore text m → NumeralSpelledBefore text (numeral_from m)
numeral_from_spelled text None h = tt
numeral_from_spelled text (Some m) (front, joined, mantissa) =
    let (back, split, power) = power_spelled m.rest in (
      front ++ back,
      joined ∙ (ap (λ t. front ++ t) split ∙ sym (append_assoc front back (power_at m.rest).rest)),
      record { front = front; back = back; joined = refl; mantissa = mantissa; power = power },
    )

pub numeral_spelled : (text rest : List ℕ) (p : Parts) → numeral_at text ≡ Some (p, rest) → (front : List ℕ) × (text ≡ front ++ rest) × SpellsNumeral front p
numeral_spelled text rest p e =
    subst (NumeralSpelledBefore text) (sym (numeral_is text) ∙ e) (numeral_from_spelled text (mantissa_at text) (mantissa_spelled text))

-- what follows a numeral is in the text
pub numeral_within : (text rest : List ℕ) (p : Parts) → numeral_at text ≡ Some (p, rest) → length rest ≤ length text
numeral_within text rest p e =
    let (front, joined, n) = numeral_spelled text rest p e in omega (arith, ap length joined, length-append front rest)
