-- The significand of digits is the number that they stand for.
use Rattle.std.proofs.Common.{◌≡◌, ℕ, ◌+◌, ◌-◌, ◌*◌, ◌^◌, ◌<◌, ◌≤◌, true, List, [], ◌∷◌, refl, ap, ◌∙◌, arith, inl, inr}
use Rattle.std.proofs.lemmas.Bool.{cases_eq, ne_eqb, and_parts}
use Rattle.std.proofs.lemmas.Bool.Decides.{nat_tests}
use Rattle.std.specs.List.{fold, list_all}
use Rattle.std.specs.Char.{is_ascii_digit}
use Rattle.net_lex.specs.Numerals.{AllDigits}
use Rattle.net_lex.specs.Significands.{Significand, with_digit, with_digits}
use Rattle.net_lex.proofs.Tens.{ten_more}
use Rattle.net_lex.proofs.WholeValues.{EndsInNoZero}

abbrev pub number : Significand → ℕ
number g = g.digits * 10 ^ g.zeros

next_value : (g : Significand) (c : ℕ) → 10 * number g + (c - 48) ≡ number (with_digit g c)
next_value g c = elim (cases_eq c 48) [
  | inl zero_digit ↦ rw (zero_digit, ten_more g.zeros) (omega arith)
  | inr other ↦ rw (ne_eqb c 48 other, ten_more g.zeros) (omega arith)
]

digit_bounds : (c : ℕ) → is_ascii_digit c ≡ true → (48 ≤ c) × (c ≤ 57)
digit_bounds c digit = grind (arith, nat_tests)

between : (c : ℕ) → is_ascii_digit c ≡ true → (c ≡ 48 → ⊥) → (0 < c - 48) × (c - 48 < 10)
between c digit other = let bounds : (48 ≤ c) × (c ≤ 57) = digit_bounds c digit in (omega arith, omega arith)

-- a digit that is not 0 stands at the end
last_digit : (s t d q : ℕ) → s * (10 * t) + d ≡ 10 * q → (0 < d) × (d < 10) → ⊥
last_digit s t d q e range =
    let tens : s * (10 * t) ≡ 10 * (s * t) = omega arith in
    omega (arith, tens)

next_ends : (g : Significand) (c : ℕ) → is_ascii_digit c ≡ true → EndsInNoZero g.digits → EndsInNoZero (with_digit g c).digits
next_ends g c digit ends = elim (cases_eq c 48) [
  | inl zero_digit ↦ rw zero_digit ends
  | inr other ↦ rw (ne_eqb c 48 other) (inr (λ q e. last_digit g.digits (10 ^ g.zeros) (c - 48) q (rw (ten_more g.zeros) at e) (between c digit other)))
]

pub digits_number : (g : Significand) (text : List ℕ) → fold (λ n c. 10 * n + (c - 48)) (number g) text ≡ number (with_digits g text)
digits_number g [] = refl
digits_number g (c ∷ cs) = ap (λ n. fold (λ n c. 10 * n + (c - 48)) n cs) (next_value g c) ∙ digits_number (with_digit g c) cs

pub digits_end : (g : Significand) (text : List ℕ) → AllDigits text → EndsInNoZero g.digits → EndsInNoZero (with_digits g text).digits
digits_end g [] all ends = ends
digits_end g (c ∷ cs) all ends =
    let (here, more) = and_parts (is_ascii_digit c) (list_all is_ascii_digit cs) all in
    digits_end (with_digit g c) cs more (next_ends g c here ends)
