use Rattle.std.proofs.Common.{arith}
use Rattle.std.proofs.lemmas.Grind.{common_steps}
use Rattle.net_normal.proofs.limits.is_sized.Goals as goal

pub overflow_sub-limit : goal.overflow_sub-limit
overflow_sub-limit c = grind (arith, common_steps)

pub returns-else-limit-number : goal.returns-else-limit-number
returns-else-limit-number c = grind (arith, common_steps)

pub returns-then-limit-number : goal.returns-then-limit-number
returns-then-limit-number c = grind (arith, common_steps)
