use Rattle.net_check.proofs.Cuts.{HasSupplied}
use Rattle.net_check.proofs.cut.supply_in.Given as goal

abbrev pub invariant-loop-node : goal.invariant-loop-node
invariant-loop-node l = HasSupplied l.problem.supplies.items l.flags l.node l.total
