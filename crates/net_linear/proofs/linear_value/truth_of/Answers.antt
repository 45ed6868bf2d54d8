use Rattle.std.proofs.Common.{arith}
use Rattle.net_linear.proofs.linear_value.truth_of.Goals as goal

pub returns : goal.returns
returns c = grind (arith)
