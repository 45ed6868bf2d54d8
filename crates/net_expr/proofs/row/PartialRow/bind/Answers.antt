use Rattle.std.proofs.Common.{arith}
use Rattle.net_expr.proofs.row.PartialRow.bind.Goals as goal

pub returns : goal.returns
returns c = grind (arith)
