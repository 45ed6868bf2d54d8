use Rattle.std.proofs.Common.{◌≡◌, ℕ, ◌<◌, pos, ◌-ℤ◌, get_or, vec_len}
use Rattle.net_solve.proofs.pseudoflow_start.excess_of.Given as goal

abbrev pub invariant-loop-node : goal.invariant-loop-node
invariant-loop-node l =
    record {
      count : vec_len l.excess ≡ l.node;
      value : (v : ℕ) → v < l.node → get_or l.excess.items v (pos 0) ≡ get_or l.problem.supplies.items v (pos 0) -ℤ get_or l.sent.items v (pos 0);
    }
