use Rattle.net_check.proofs.Sums.{HasPriced}
use Rattle.net_check.proofs.cost.cost.Given as goal

abbrev pub invariant-loop-index : goal.invariant-loop-index
invariant-loop-index l = HasPriced l.problem.arcs.items l.flows l.index l.total
