use Rattle.net_solve.proofs.Reducing.{HasGreatest}
use Rattle.net_solve.proofs.rounding.greatest_cost.Given as goal

abbrev pub invariant-loop-arc : goal.invariant-loop-arc
invariant-loop-arc l = HasGreatest l.arcs l.arc-index l.most
