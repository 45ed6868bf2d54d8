use Rattle.std.proofs.Common.{arith}
use Rattle.std.proofs.lemmas.Grind.{common_steps}
use Rattle.net_expr.proofs.operators.decided.Goals as goal

pub returns-else-branch-2 : goal.returns-else-branch-2
returns-else-branch-2 c = grind (arith, common_steps)

pub returns-then-branch : goal.returns-then-branch
returns-then-branch c = grind (arith, common_steps)

pub returns-in_default : goal.returns-in_default
returns-in_default c = grind (arith, common_steps)

pub returns-else-branch : goal.returns-else-branch
returns-else-branch c = grind (arith, common_steps)

pub returns-then-branch-2 : goal.returns-then-branch-2
returns-then-branch-2 c = grind (arith, common_steps)
