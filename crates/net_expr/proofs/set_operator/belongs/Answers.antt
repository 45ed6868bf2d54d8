use Rattle.std.proofs.Common.{arith}
use Rattle.std.proofs.lemmas.Grind.{common_steps}
use Rattle.net_expr.proofs.set_operator.belongs.Goals as goal

pub returns-in_default : goal.returns-in_default
returns-in_default c = grind (arith, common_steps)

pub returns-in-Several-Many : goal.returns-in-Several-Many
returns-in-Several-Many c = grind (arith, common_steps)

pub returns-in-One-Many : goal.returns-in-One-Many
returns-in-One-Many c = grind (arith, common_steps)
