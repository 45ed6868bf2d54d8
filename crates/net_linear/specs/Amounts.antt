-- The numeric values of expressions.
use Rattle.std.specs.Prelude.{Option, None, Some, Ok, ℤ}
use Rattle.net_sets.specs.declared.member.Member.TheVariants.{Number}
use Rattle.net_tree.specs.Tree.{Tree}
use Rattle.net_base.specs.Outcomes.{Outcome, and_then}
use Rattle.net_expr.specs.declared.value.Value.{Value}
use Rattle.net_expr.specs.declared.value.Value.TheVariants.{One}
use Rattle.net_expr.specs.Values.{value}
use Rattle.net_expr.specs.Worlds.{World, Scope}

-- a value as a number; None if it is not one
abbrev pub as_number : Value → Option ℤ
as_number (One (Number n)) = Some n
as_number _ = None

abbrev pub number_or_none : World → Scope → Tree → Outcome (Option ℤ)
number_or_none w s t = and_then (value w s t) (λ v. Ok (as_number v))
