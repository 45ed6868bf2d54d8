use Rattle.std.proofs.Common.{All, take}
use Rattle.net_normal.specs.Limits.{IsArcOf}
use Rattle.net_normal.proofs.instance.are_arcs.Given as goal

abbrev pub invariant-loop-arc : goal.invariant-loop-arc
invariant-loop-arc l = All (IsArcOf l.nodes) (take l.arc-index l.arcs)
