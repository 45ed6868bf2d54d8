use Rattle.net_check.proofs.Cuts.{HasCrossed}
use Rattle.net_check.proofs.cut.most_out.Given as goal

abbrev pub invariant-loop-arc : goal.invariant-loop-arc
invariant-loop-arc l = HasCrossed (λ arc. arc.cap) (λ arc. arc.low) l.problem.arcs.items l.flags l.arc-index l.total
