use Rattle.std.proofs.Common.{arith}
use Rattle.std.proofs.lemmas.Grind.{common_steps}
use Rattle.net_expr.proofs.row.matches_value.Goals as goal

pub returns : goal.returns
returns c = grind (arith, common_steps)

pub returns-in-One-2 : goal.returns-in-One-2
returns-in-One-2 c = grind (arith, common_steps)

pub returns-in-One : goal.returns-in-One
returns-in-One c = grind (arith, common_steps)
