use Rattle.std.proofs.Common.{arith}
use Rattle.std.proofs.lemmas.Grind.{common_steps}
use Rattle.net_dimacs.proofs.number_field.signed.Goals as goal

pub overflow_sub-result : goal.overflow_sub-result
overflow_sub-result c = grind (arith, common_steps)

pub returns-then-negative : goal.returns-then-negative
returns-then-negative c = grind (arith, common_steps)

pub returns-else-negative : goal.returns-else-negative
returns-else-negative c = grind (arith, common_steps)
