-- Assignments of a network (Fourer, Gay, Kernighan: AMPL, second edition, chapter 15): one integer
-- for each arc, in arc order.
use Rattle.std.specs.Prelude.{◌≡◌, ℕ, Bool, List, Some, ℤ, ◌+ℤ◌, ◌-ℤ◌, ◌≤ℤ◌, slice_get}
use Rattle.std.specs.Option.{ForSome}
use Rattle.std.specs.List.{AllZip}
use Rattle.net_normal.specs.Sums.{is_node, flow_on, price_of}
use Rattle.net_normal.specs.declared.instance.InstArc.{InstArc}
use Rattle.net_normal.specs.declared.instance.NodeRange.{NodeRange}
use Rattle.net_normal.specs.declared.instance.Instance.{Instance}

-- whether the arc's head (`to`) is node v
abbrev pub enters : ℕ → InstArc → Bool
enters v arc = is_node v arc.head

-- whether the arc's tail (`from`) is node v
abbrev pub leaves : ℕ → InstArc → Bool
leaves v arc = is_node v arc.tail

-- inflow minus outflow of node v
abbrev pub net_inflow : List InstArc → List ℤ → ℕ → ℤ
net_inflow arcs assignment v = flow_on (enters v) arcs assignment -ℤ flow_on (leaves v) arcs assignment

pub record IsWithinBounds (arc : InstArc) (x : ℤ) : Type 0 where
  pub lower : arc.lower ≤ℤ x
  pub upper : x ≤ℤ arc.upper

pub record IsInRange (range : NodeRange) (inflow : ℤ) : Type 0 where
  pub low : ForSome range.low (λ low. low ≤ℤ inflow)
  pub high : ForSome range.high (λ high. inflow ≤ℤ high)

-- each arc is within its bounds, and each node's net inflow is within its range
pub record IsFeasibleAssignment (instance : Instance) (assignment : List ℤ) : Type 0 where
  pub bounds : AllZip IsWithinBounds instance.arcs.items assignment
  pub ranges : (v : ℕ) (range : NodeRange) → slice_get instance.nodes.items v ≡ Some range → IsInRange range (net_inflow instance.arcs.items assignment v)

-- the objective: the constant plus the sum of coefficient times value over all arcs
abbrev pub value_of : Instance → List ℤ → ℤ
value_of instance assignment = instance.constant +ℤ price_of (λ arc. arc.coefficient) instance.arcs.items assignment
