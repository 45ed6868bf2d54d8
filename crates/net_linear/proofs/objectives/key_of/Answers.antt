use Rattle.std.proofs.Common.{arith}
use Rattle.net_linear.proofs.objectives.key_of.Goals as goal

pub returns : goal.returns
returns c = grind (arith)
