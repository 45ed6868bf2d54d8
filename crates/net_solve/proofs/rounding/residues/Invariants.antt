use Rattle.std.proofs.Common.{◌≡◌, ℕ, ◌+◌, ◌%◌, ◌<◌, true, get_or, length, vec_len, nat_abs, pos}
use Rattle.net_solve.specs.Rounding.{is_taken}
use Rattle.net_solve.proofs.rounding.residues.Given as goal

abbrev pub invariant-loop-potential : goal.invariant-loop-potential
invariant-loop-potential l =
    record {
      len : vec_len l.taken ≡ length l.potentials + 1;
      done : (v : ℕ) → v < l.potential-index → is_taken l.taken.items (nat_abs (get_or l.potentials v (pos 0)) % (length l.potentials + 1)) ≡ true;
    }
