use Rattle.std.proofs.Common.{arith}
use Rattle.net_expr.proofs.expression_calls.member.Goals as goal

pub returns : goal.returns
returns c = grind (arith)
