-- The result of an operator on two values, or an error with the span of the whole chain.
use Rattle.std.specs.Prelude.{◌+◌, Bool, true, false, not, List, [], ◌∷◌, ◌++◌, length, nat_le, int_lt, int_le, Option, None, Some, if◌then◌else◌, Ok, ℤ}
use Rattle.net_base.specs.declared.diagnostic.Span.{Span}
use Rattle.net_sets.specs.declared.member.Member.{Member}
use Rattle.net_sets.specs.Limits.{arity_limit}
use Rattle.net_sets.specs.Sets.{Tuple, same_member}
use Rattle.net_sets.specs.Operations.{union, difference, intersection, symmetric_difference}
use Rattle.net_base.specs.declared.error_code.ErrorCode.TheVariants.{KindMismatch, Arity}
use Rattle.net_tree.specs.declared.operator.BinOp.{BinOp}
use Rattle.net_tree.specs.declared.operator.BinOp.TheVariants as op
use Rattle.net_expr.specs.declared.value.Value.{Value}
use Rattle.net_expr.specs.declared.value.Value.TheVariants.{One, Several, Many, Truth}
use Rattle.net_base.specs.Outcomes.{Outcome, and_then, rejected}
use Rattle.net_expr.specs.Numbers.{number, plus, less, times, quotient, remainder}
use Rattle.net_expr.specs.Sets.{shared, set_of, cross, membership, inclusion}

-- both sides must be numbers
abbrev pub of_numbers : Span → (ℤ → ℤ → Outcome Value) → Value → Value → Outcome Value
of_numbers at f x y = and_then (number at x) (λ a. and_then (number at y) (f a))

-- whether two numbers satisfy a comparison
abbrev pub ordered : BinOp → ℤ → ℤ → Bool
ordered op.Less a b = int_lt a b
ordered op.AtMost a b = int_le a b
ordered op.Greater a b = int_lt b a
ordered op.AtLeast a b = int_le b a
ordered _ a b = false

-- the result of an operator on two numbers
abbrev pub of_two : BinOp → Span → ℤ → ℤ → Outcome Value
of_two op.Plus at a b = plus at a b
of_two op.Minus at a b = less at a b
of_two op.Times at a b = times at a b
of_two op.Div at a b = quotient at a b
of_two op.Mod at a b = remainder at a b
of_two op.Less at a b = Ok (Truth (int_lt a b))
of_two op.AtMost at a b = Ok (Truth (int_le a b))
of_two op.Greater at a b = Ok (Truth (int_lt b a))
of_two op.AtLeast at a b = Ok (Truth (int_le b a))
of_two _ at a b = rejected KindMismatch at

-- a comparison of two numbers
abbrev pub compared : Span → (ℤ → ℤ → Bool) → Value → Value → Outcome Value
compared at holds x y = of_numbers at (λ a b. Ok (Truth (holds a b))) x y

-- both sides must be members
abbrev pub same : Span → Value → Value → Outcome Bool
same at (One a) (One b) = Ok (same_member a b)
same at _ _ = rejected KindMismatch at

-- both sides must be sets
abbrev pub of_sets : Span → (List Tuple → List Tuple → List Tuple) → Value → Value → Outcome Value
of_sets at f (Many d xs) (Many e ys) = set_of at (shared d e) (f xs ys)
of_sets at f _ _ = rejected KindMismatch at

abbrev pub crossed : Span → Value → Value → Outcome Value
crossed at (Many d xs) (Many e ys) = cross at d xs e ys
crossed at _ _ = rejected KindMismatch at

-- a member or tuple on the left, a set on the right
abbrev pub belongs : Span → Value → Value → Outcome Bool
belongs at (One m) (Many d ts) = membership at (m ∷ []) d ts
belongs at (Several t) (Many d ts) = membership at t d ts
belongs at _ _ = rejected KindMismatch at

abbrev pub contained : Span → Value → Value → Outcome Bool
contained at (Many d xs) (Many e ys) = inclusion at (shared d e) xs ys
contained at _ _ = rejected KindMismatch at

abbrev pub truth : Span → Value → Outcome Bool
truth at (Truth b) = Ok b
truth at _ = rejected KindMismatch at

abbrev pub as_truth : Outcome Bool → Outcome Value
as_truth o = and_then o (λ b. Ok (Truth b))

abbrev pub as_denial : Outcome Bool → Outcome Value
as_denial o = and_then o (λ b. Ok (Truth (not b)))

abbrev pub apply : BinOp → Span → Value → Value → Outcome Value
apply op.Plus at x y = of_numbers at (plus at) x y
apply op.Minus at x y = of_numbers at (less at) x y
apply op.Times at x y = of_numbers at (times at) x y
apply op.Div at x y = of_numbers at (quotient at) x y
apply op.Mod at x y = of_numbers at (remainder at) x y
apply op.Cross at x y = crossed at x y
apply op.Inter at x y = of_sets at intersection x y
apply op.Union at x y = of_sets at union x y
apply op.Diff at x y = of_sets at difference x y
apply op.Symdiff at x y = of_sets at symmetric_difference x y
apply op.Equal at x y = as_truth (same at x y)
apply op.Unequal at x y = as_denial (same at x y)
apply op.Less at x y = compared at int_lt x y
apply op.AtMost at x y = compared at int_le x y
apply op.Greater at x y = compared at (λ a b. int_lt b a) x y
apply op.AtLeast at x y = compared at (λ a b. int_le b a) x y
apply op.In at x y = as_truth (belongs at x y)
apply op.NotIn at x y = as_denial (belongs at x y)
apply op.Within at x y = as_truth (contained at x y)
apply op.NotWithin at x y = as_denial (contained at x y)
apply op.And at x y = as_truth (and_then (truth at x) (λ b. truth at y))
apply op.Or at x y = as_truth (and_then (truth at x) (λ b. truth at y))
apply op.Range at x y = rejected KindMismatch at
apply op.Other at x y = rejected KindMismatch at

-- the left side alone determines `and` if it is false, and `or` if it is true
abbrev pub decided : BinOp → Span → Value → Outcome (Option Value)
decided op.And at x = and_then (truth at x) (λ b. Ok (if b then None else Some (Truth false)))
decided op.Or at x = and_then (truth at x) (λ b. Ok (if b then Some (Truth true) else None))
decided _ at x = Ok None

-- a tuple with more members, if it then has at most four
abbrev pub longer : Tuple → Option Tuple → Option Tuple
longer t None = None
longer t (Some key) = if nat_le (length key + length t) arity_limit then Some (key ++ t) else None

abbrev pub short_enough : Span → Option Tuple → Outcome Tuple
short_enough at None = rejected Arity at
short_enough at (Some t) = Ok t

abbrev pub member : Span → Value → Outcome Member
member at (One m) = Ok m
member at _ = rejected KindMismatch at

-- the members of some values, appended to a tuple
abbrev pub members_after : Span → List Value → Option Tuple → Outcome Tuple
members_after at [] key = short_enough at key
members_after at (v ∷ vs) key = and_then (member at v) (λ m. members_after at vs (longer (m ∷ []) key))

-- a tuple of at most four members
abbrev pub tuple_of : Span → List Value → Outcome Tuple
tuple_of at vs = members_after at vs (Some [])
