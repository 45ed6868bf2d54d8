-- Arcs whose ends are among the nodes.
use Rattle.std.specs.Prelude.{ℕ, ◌<◌}
use Rattle.net_guess.specs.declared.simplex_arc.ArcWithCost.{ArcWithCost}

-- both ends of an arc are among this many nodes
pub record Joins {N : Type 0} (nodes : ℕ) (arc : ArcWithCost N) : Type 0 where
  pub src : arc.src < nodes
  pub dst : arc.dst < nodes
