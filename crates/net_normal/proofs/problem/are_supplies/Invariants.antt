use Rattle.std.proofs.Common.{All, take}
use Rattle.net_normal.specs.Limits.{IsSized, flow_limit}
use Rattle.net_normal.proofs.problem.are_supplies.Given as goal

abbrev pub invariant-loop-number : goal.invariant-loop-number
invariant-loop-number l = All (IsSized flow_limit) (take l.number-index l.numbers)
