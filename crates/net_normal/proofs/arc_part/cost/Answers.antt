use Rattle.std.proofs.Common.{arith}
use Rattle.std.proofs.lemmas.Grind.{common_steps}
use Rattle.net_normal.proofs.arc_part.cost.Goals as goal

pub overflow_sub-result : goal.overflow_sub-result
overflow_sub-result c = grind (arith, common_steps)

pub returns-in-Minimise : goal.returns-in-Minimise
returns-in-Minimise c = grind (arith, common_steps)

pub returns-in-Maximise : goal.returns-in-Maximise
returns-in-Maximise c = grind (arith, common_steps)
