use Rattle.std.proofs.Common.{All, take}
use Rattle.net_normal.specs.Limits.{IsFlowArcOf}
use Rattle.net_normal.proofs.problem.are_arcs.Given as goal

abbrev pub invariant-loop-arc : goal.invariant-loop-arc
invariant-loop-arc l = All (IsFlowArcOf l.nodes) (take l.arc-index l.arcs)
