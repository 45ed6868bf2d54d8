use Rattle.net_check.proofs.Cuts.{HasCrossed}
use Rattle.net_check.proofs.cut.least_out.Given as goal

abbrev pub invariant-loop-arc : goal.invariant-loop-arc
invariant-loop-arc l = HasCrossed (λ arc. arc.low) (λ arc. arc.cap) l.problem.arcs.items l.flags l.arc-index l.total
