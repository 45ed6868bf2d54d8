use Rattle.std.proofs.Common.{vec_len}
use Rattle.net_check.proofs.Balances.{HasCarried}
use Rattle.net_solve.proofs.pseudoflow_start.outflows.Given as goal

abbrev pub invariant-loop-index : goal.invariant-loop-index
invariant-loop-index l = HasCarried (vec_len l.problem.supplies) 0 l.problem.arcs.items l.flows l.index l.sent.items
