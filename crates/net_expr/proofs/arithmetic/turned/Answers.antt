use Rattle.std.proofs.Common.{arith}
use Rattle.std.proofs.lemmas.Grind.{common_steps}
use Rattle.net_expr.proofs.arithmetic.turned.Goals as goal

pub overflow_sub-result : goal.overflow_sub-result
overflow_sub-result c = grind (arith, common_steps)

pub returns-else-minus : goal.returns-else-minus
returns-else-minus c = grind (arith, common_steps)

pub returns-then-minus : goal.returns-then-minus
returns-then-minus c = grind (arith, common_steps)
