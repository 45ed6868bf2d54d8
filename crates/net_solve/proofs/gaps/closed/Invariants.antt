use Rattle.std.proofs.Common.{◌≡◌, ℕ, ◌<◌, pos, get_or, vec_len}
use Rattle.net_solve.specs.Pseudoflows.{HasLevelOf}
use Rattle.net_solve.proofs.gaps.closed.Given as goal

abbrev pub invariant-loop-potential : goal.invariant-loop-potential
invariant-loop-potential l =
    record {
      count : vec_len l.result ≡ l.potential-index;
      each : (v : ℕ) → v < l.potential-index → HasLevelOf l.sorted.items l.levels.items (get_or l.potentials v (pos 0)) (get_or l.result.items v (pos 0));
    }
