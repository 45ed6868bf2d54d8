use Rattle.std.proofs.Common.{arith}
use Rattle.net_expr.proofs.row.add_row.Goals as goal

pub returns-else-same_arity : goal.returns-else-same_arity
returns-else-same_arity c = grind (arith)

pub returns-in_ok-push : goal.returns-in_ok-push
returns-in_ok-push c = grind (arith)
