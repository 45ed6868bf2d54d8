use Rattle.std.proofs.Common.{arith}
use Rattle.net_expr.proofs.value.Value.into_set.Goals as goal

pub returns-in-Many : goal.returns-in-Many
returns-in-Many c = grind (arith)
