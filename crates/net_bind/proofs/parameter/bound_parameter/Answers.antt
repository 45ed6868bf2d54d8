use Rattle.std.proofs.Common.{arith}
use Rattle.net_bind.proofs.parameter.bound_parameter.Goals as goal

pub returns : goal.returns
returns c = grind (arith)
