use Rattle.net_normal.proofs.ArcPasses.{HasRead}
use Rattle.net_normal.proofs.arc_part.ArcPart.of.Given as goal

abbrev pub invariant-loop-arc : goal.invariant-loop-arc
invariant-loop-arc l = HasRead l.fn.profile l.instance l.arc-index l.part
