-- Numbers and arithmetic.
use Rattle.std.specs.Prelude.{Bool, true, false, ◌&&◌, List, [], ◌∷◌, Option, None, Some, if◌then◌else◌, Ok, ℤ, pos, ◌+ℤ◌, ◌-ℤ◌, ◌*ℤ◌, neg_ℤ, int_lt, int_le, int_div, int_rem, nat_le}
use Rattle.std.specs.Int.{int_min, int_max}
use Rattle.net_base.specs.declared.diagnostic.Span.{Span}
use Rattle.net_sets.specs.declared.member.Member.TheVariants.{Number}
use Rattle.net_sets.specs.Limits.{tuples_limit}
use Rattle.net_sets.specs.Ranges.{range_size, singles}
use Rattle.net_sets.specs.Ranges.{range as range_numbers}
use Rattle.net_base.specs.declared.error_code.ErrorCode.TheVariants.{KindMismatch, DivMod, ValueTooLarge, TooMany}
use Rattle.net_tree.specs.declared.operator.Reduction.{Reduction}
use Rattle.net_tree.specs.declared.operator.Reduction.TheVariants.{Sum, Min, Max}
use Rattle.net_expr.specs.declared.value.Value.{Value}
use Rattle.net_expr.specs.declared.value.Value.TheVariants.{One, Many}
use Rattle.net_base.specs.Outcomes.{Outcome, and_then, rejected}
use Rattle.net_expr.specs.Limits.{is_small}

-- the result of arithmetic, which must be within the limit
abbrev pub sized : Span → ℤ → Outcome Value
sized at n = if is_small n then Ok (One (Number n)) else rejected ValueTooLarge at

abbrev pub number : Span → Value → Outcome ℤ
number at (One (Number n)) = Ok n
number at _ = rejected KindMismatch at

abbrev pub plus : Span → ℤ → ℤ → Outcome Value
plus at a b = sized at (a +ℤ b)

abbrev pub less : Span → ℤ → ℤ → Outcome Value
less at a b = sized at (a -ℤ b)

abbrev pub times : Span → ℤ → ℤ → Outcome Value
times at a b = sized at (a *ℤ b)

-- `div` and `mod` require a dividend of at least 0 and a divisor of at least 1
abbrev pub divides : ℤ → ℤ → Bool
divides a b = int_le (pos 0) a && int_le (pos 1) b

abbrev pub quotient : Span → ℤ → ℤ → Outcome Value
quotient at a b = if divides a b then Ok (One (Number (int_div a b))) else rejected DivMod at

abbrev pub remainder : Span → ℤ → ℤ → Outcome Value
remainder at a b = if divides a b then Ok (One (Number (int_rem a b))) else rejected DivMod at

-- the number with this sign
abbrev pub turned : Bool → ℤ → ℤ
turned true n = neg_ℤ n
turned false n = n

-- the reduction of the numbers so far and one more
abbrev pub gathered : Reduction → Option ℤ → ℤ → ℤ
gathered r None n = n
gathered Sum (Some a) n = a +ℤ n
gathered Min (Some a) n = int_min a n
gathered Max (Some a) n = int_max a n

-- the numbers of a range, if they are not too many
abbrev pub range_within : Span → ℤ → ℤ → ℤ → Outcome Value
range_within at a b c = if nat_le (range_size a b c) tuples_limit then Ok (Many (Some 1) (singles (range_numbers a b c))) else rejected TooMany at

abbrev pub are_small : ℤ → ℤ → ℤ → Bool
are_small a b c = is_small a && is_small b && is_small c

-- the step is at least 1
abbrev pub step : Span → ℤ → Outcome (Unit {0})
step at c = if int_lt c (pos 1) then rejected DivMod at else Ok tt

abbrev pub size : Span → ℤ → ℤ → ℤ → Outcome (Unit {0})
size at a b c = if are_small a b c then Ok tt else rejected ValueTooLarge at

-- a .. b by c
abbrev pub range : Span → ℤ → ℤ → ℤ → Outcome Value
range at a b c = and_then (step at c) (λ u. and_then (size at a b c) (λ v. range_within at a b c))

-- the bounds of a range, and its step if given
abbrev pub range_of : Span → List Value → Outcome Value
range_of at (x ∷ y ∷ []) = and_then (number at x) (λ a. and_then (number at y) (λ b. range at a b (pos 1)))
range_of at (x ∷ y ∷ z ∷ []) = and_then (number at x) (λ a. and_then (number at y) (λ b. and_then (number at z) (range at a b)))
range_of at _ = rejected KindMismatch at
