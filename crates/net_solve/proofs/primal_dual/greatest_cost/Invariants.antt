use Rattle.std.proofs.Common.{ℕ, ◌<◌, ◌≤◌, get_or}
use Rattle.net_normal.specs.Limits.{IsSized}
use Rattle.net_solve.specs.Pseudoflows.{no_arc}
use Rattle.net_solve.proofs.primal_dual.greatest_cost.Given as goal

abbrev pub invariant-loop-arc : goal.invariant-loop-arc
invariant-loop-arc l =
    record {
      bounds : (k : ℕ) → k < l.arc-index → IsSized l.most (get_or l.arcs k no_arc).cost;
      least : (most : ℕ) → ((k : ℕ) → k < l.arc-index → IsSized most (get_or l.arcs k no_arc).cost) → l.most ≤ most;
    }
