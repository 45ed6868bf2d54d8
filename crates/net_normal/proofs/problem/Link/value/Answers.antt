use Rattle.std.proofs.Common.{arith}
use Rattle.std.proofs.lemmas.Grind.{common_steps}
use Rattle.net_normal.proofs.problem.Link.value.Goals as goal

pub returns-in-Maximise : goal.returns-in-Maximise
returns-in-Maximise c = grind (arith, common_steps)

pub overflow_add-result : goal.overflow_add-result
overflow_add-result c = grind (arith, common_steps)

pub overflow_sub-result : goal.overflow_sub-result
overflow_sub-result c = grind (arith, common_steps)

pub returns-in-Minimise : goal.returns-in-Minimise
returns-in-Minimise c = grind (arith, common_steps)
