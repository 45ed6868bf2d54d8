-- Arcs that a network accepts: conditions on bounds and ends, and on coefficients.
use Rattle.std.specs.Prelude.{ℕ, ◌<◌, ◌||◌, ◌≤ℤ◌, IsTrue, is_some}
use Rattle.std.specs.Option.{ForSome}
use Rattle.net_normal.specs.declared.instance.InstArc.{InstArc}
use Rattle.net_normal.specs.Limits.{IsSized, value_limit}
use Rattle.net_inst.specs.declared.arc.Built.{Built}

-- an arc, without its coefficient, of a network with this many nodes
pub record IsBuiltOf (nodes : ℕ) (arc : Built) : Type 0 where
  pub lower : IsSized value_limit arc.lower
  pub upper : IsSized value_limit arc.upper
  pub ordered : arc.lower ≤ℤ arc.upper
  pub tail : ForSome arc.tail (λ v. v < nodes)
  pub head : ForSome arc.head (λ v. v < nodes)
  pub an_end : IsTrue (is_some arc.tail || is_some arc.head)

-- its coefficient is within the limit
abbrev pub IsPriced : InstArc → Type 0
IsPriced arc = IsSized value_limit arc.coefficient
