use Rattle.std.proofs.Common.{arith}
use Rattle.net_expr.proofs.arithmetic.minus.Goals as goal

pub returns : goal.returns
returns c = grind (arith)
