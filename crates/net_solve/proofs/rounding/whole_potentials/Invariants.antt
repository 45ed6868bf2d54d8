use Rattle.std.proofs.Common.{◌≡◌, ℕ, ◌<◌, get_or, vec_len, pos, ◌-ℤ◌}
use Rattle.net_solve.specs.Rounding.{level_at}
use Rattle.net_solve.proofs.rounding.whole_potentials.Given as goal

abbrev pub invariant-loop-potential : goal.invariant-loop-potential
invariant-loop-potential l =
    record {
      count : vec_len l.rounded ≡ l.potential-index;
      each : (v : ℕ) → v < l.potential-index → get_or l.rounded.items v (pos 0) ≡ pos l.top -ℤ pos (level_at l.potentials l.free v);
    }
