use Rattle.net_check.proofs.Balances.{HasCarried}
use Rattle.net_check.proofs.balance.carry_all.Given as goal

abbrev pub invariant-loop-index : goal.invariant-loop-index
invariant-loop-index g l = HasCarried g.row.N l.first l.problem.arcs.items l.flows l.index l.balances
