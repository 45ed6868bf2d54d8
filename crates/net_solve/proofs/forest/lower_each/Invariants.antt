use Rattle.std.proofs.Common.{◌≡◌, ℕ, ◌<◌, ◌≤◌, cond, get_or, vec_len, pos, ◌-ℤ◌}
use Rattle.net_check.specs.Certificates.{is_in}
use Rattle.net_solve.proofs.forest.lower_each.Given as goal

abbrev pub invariant-loop-node : goal.invariant-loop-node
invariant-loop-node l =
    record {
      len : vec_len l.potentials ≡ vec_len l.fn.potentials;
      done : (v : ℕ) → v < l.node → get_or l.potentials.items v (pos 0) ≡ get_or l.fn.potentials.items v (pos 0) -ℤ cond (is_in l.flags v) l.amount (pos 0);
      left : (v : ℕ) → l.node ≤ v → v < vec_len l.fn.potentials → get_or l.potentials.items v (pos 0) ≡ get_or l.fn.potentials.items v (pos 0);
    }
