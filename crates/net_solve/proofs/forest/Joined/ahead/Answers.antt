use Rattle.std.proofs.Common.{arith}
use Rattle.std.proofs.lemmas.Grind.{common_steps}
use Rattle.net_solve.proofs.forest.Joined.ahead.Goals as goal

pub returns-else-self : goal.returns-else-self
returns-else-self c = grind (arith, common_steps)

pub overflow_sub-result : goal.overflow_sub-result
overflow_sub-result c = grind (arith, common_steps)

pub returns-then-self : goal.returns-then-self
returns-then-self c = grind (arith, common_steps)
