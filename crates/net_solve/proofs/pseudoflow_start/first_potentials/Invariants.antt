use Rattle.std.proofs.Common.{◌≡◌, vec_len}
use Rattle.net_solve.proofs.pseudoflow_start.first_potentials.Given as goal

abbrev pub invariant-loop-node : goal.invariant-loop-node
invariant-loop-node l = vec_len l.potentials ≡ l.node
