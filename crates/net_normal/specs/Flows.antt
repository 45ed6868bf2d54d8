-- Flows of a minimum-cost flow problem (First DIMACS Implementation Challenge, minimum-cost flow):
-- one integer for each arc, in arc order.
use Rattle.std.specs.Prelude.{◌≡◌, ℕ, List, Some, ℤ, ◌-ℤ◌, ◌≤ℤ◌, ◌==◌, slice_get}
use Rattle.std.specs.List.{AllZip}
use Rattle.net_normal.specs.Sums.{flow_on, price_of}
use Rattle.net_normal.specs.declared.problem.FlowArc.{FlowArc}
use Rattle.net_normal.specs.declared.problem.Problem.{Problem}

-- outflow minus inflow of node v
abbrev pub net_outflow : List FlowArc → List ℤ → ℕ → ℤ
net_outflow arcs flows v = flow_on (λ arc. arc.src == v) arcs flows -ℤ flow_on (λ arc. arc.dst == v) arcs flows

pub record IsWithinCapacity (arc : FlowArc) (y : ℤ) : Type 0 where
  pub low : arc.low ≤ℤ y
  pub cap : y ≤ℤ arc.cap

-- each flow is between LOW and CAP, and each node's net outflow equals its supply
pub record IsFeasibleFlow (problem : Problem) (flows : List ℤ) : Type 0 where
  pub capacity : AllZip IsWithinCapacity problem.arcs.items flows
  pub balance : (v : ℕ) (supply : ℤ) → slice_get problem.supplies.items v ≡ Some supply → net_outflow problem.arcs.items flows v ≡ supply

abbrev pub cost_of : Problem → List ℤ → ℤ
cost_of problem flows = price_of (λ arc. arc.cost) problem.arcs.items flows
