use Rattle.std.proofs.Common.{ℕ, ◌<◌, ◌≤◌, length}
use Rattle.net_solve.specs.Rounding.{level_at}
use Rattle.net_solve.proofs.rounding.lowest.Given as goal

abbrev pub invariant-loop-node : goal.invariant-loop-node
invariant-loop-node l =
    record {
      inside : l.lowest < length l.potentials;
      above : (v : ℕ) → v < l.node → level_at l.potentials l.free v ≤ level_at l.potentials l.free l.lowest;
    }
