use Rattle.std.proofs.Common.{ℕ, ◌<◌}
use Rattle.net_normal.specs.Flows.{IsWithinCapacity}
use Rattle.net_check.specs.FirstFaults.{ArcKeeps}
use Rattle.net_check.proofs.checker.first_out_of_bounds.Given as goal

abbrev pub invariant-loop-index : goal.invariant-loop-index
invariant-loop-index l = (k : ℕ) → k < l.index → ArcKeeps IsWithinCapacity l.arcs l.flows k
