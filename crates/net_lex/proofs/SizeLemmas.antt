-- From the numbers that the code keeps to the whole value of a numeral's parts.
use Rattle.std.proofs.Common.{◌≡◌, ℕ, ◌+◌, ◌-◌, ◌*◌, ◌^◌, ◌<◌, min, true, false, length, refl, ap, ◌∙◌, arith, subst, inl, fold}
use Rattle.std.proofs.lemmas.List.Sums.{fold-append}
use Rattle.net_lex.specs.Numerals.{Parts, AllDigits, digits_value, mantissa, up, down, IsWhole, IsSized}
use Rattle.net_lex.specs.Significands.{Significand, with_digits, whole_value}
use Rattle.net_lex.proofs.SignificandLemmas.{number, digits_number, digits_end}
use Rattle.net_lex.proofs.WholeValues.{EndsInNoZero, ScalesAlike, value_kept, whole_value_sized}

abbrev nothing : Significand
nothing = record { digits = 0; zeros = 0 }

-- the significand of all digits, the point left out
abbrev pub significand : Parts → Significand
significand p = with_digits (with_digits nothing p.whole) p.fraction

mantissa_number : (p : Parts) → mantissa p ≡ number (significand p)
mantissa_number p =
    let start = digits_number nothing p.whole in
    fold-append (λ n c. 10 * n + (c - 48)) 0 p.whole p.fraction
    ∙ (ap (λ n. fold (λ n c. 10 * n + (c - 48)) n p.fraction) start ∙ digits_number (with_digits nothing p.whole) p.fraction)

significand_end : (p : Parts) → AllDigits p.whole → AllDigits p.fraction → EndsInNoZero (significand p).digits
significand_end p whole fraction = digits_end _ p.fraction fraction (digits_end nothing p.whole whole (inl refl))

abbrev far : ℕ
far = 0x1_0000_0000_0000_0000_0000

positive_alike : (z e places : ℕ) → places < 2 ^ 64 → ScalesAlike (z + e) places (z + min e far) places
positive_alike z e places short = record { low = λ h. omega arith; high = λ h. omega arith; near = λ h k. omega arith; far = λ h. omega arith }

negative_alike : (z e places : ℕ) → z < 2 ^ 66 → ScalesAlike z (places + e) z (places + min e far)
negative_alike z e places short = record { low = λ h. omega arith; high = λ h. omega arith; near = λ h k. omega arith; far = λ h. omega arith }

sized_at : (p : Parts) → AllDigits p.whole → AllDigits p.fraction → (limit x y : ℕ)
    → IsSized limit (mantissa p) x y (whole_value limit (significand p).digits ((significand p).zeros + x) y)
sized_at p whole fraction limit x y =
    whole_value_sized limit (mantissa p) (significand p).digits (significand p).zeros x y (mantissa_number p) (significand_end p whole fraction)

pub sized_positive : (p : Parts) → AllDigits p.whole → AllDigits p.fraction → p.negative ≡ false → length p.fraction < 2 ^ 64
    → IsSized 1000000000000 (mantissa p) (up p) (down p)
    (whole_value 1000000000000 (min (significand p).digits 1000000000001) ((significand p).zeros + min (digits_value p.power) far) (length p.fraction))
sized_positive p whole fraction sign short =
    rw (sign, value_kept (significand p).digits _ _ _ _ (positive_alike (significand p).zeros (digits_value p.power) (length p.fraction) short))
    (sized_at p whole fraction 1000000000000 (digits_value p.power) (length p.fraction))

pub sized_negative : (p : Parts) → AllDigits p.whole → AllDigits p.fraction → p.negative ≡ true → (significand p).zeros < 2 ^ 66
    → IsSized 1000000000000 (mantissa p) (up p) (down p)
    (whole_value 1000000000000 (min (significand p).digits 1000000000001) (significand p).zeros (length p.fraction + min (digits_value p.power) far))
sized_negative p whole fraction sign short =
    let bare : (significand p).zeros + 0 ≡ (significand p).zeros = omega arith in
    rw (sign, value_kept (significand p).digits _ _ _ _ (negative_alike (significand p).zeros (digits_value p.power) (length p.fraction) short))
    (subst (λ z. IsSized 1000000000000 (mantissa p) 0 (length p.fraction + digits_value p.power)
    (whole_value 1000000000000 (significand p).digits z (length p.fraction + digits_value p.power)))
    bare (sized_at p whole fraction 1000000000000 0 (length p.fraction + digits_value p.power)))

-- a number is itself times 10 ^ 0
pub whole_of_digits : (m : ℕ) → IsWhole m 0 0 m
whole_of_digits m = record { raised = λ h. omega arith; lowered = λ h. omega arith }
