use Rattle.std.proofs.Common.{arith}
use Rattle.std.proofs.lemmas.Grind.{common_steps}
use Rattle.net_solve.proofs.sending.amount_of.Goals as goal

pub overflow_cast-result : goal.overflow_cast-result
overflow_cast-result c = grind (arith, common_steps)

pub returns-then-wanted-from-clause-within : goal.returns-then-wanted-from-clause-within
returns-then-wanted-from-clause-within c = grind (arith, common_steps)

pub overflow_sub-wanted : goal.overflow_sub-wanted
overflow_sub-wanted c = grind (arith, common_steps)

pub returns-else-wanted-from-clause-positive : goal.returns-else-wanted-from-clause-positive
returns-else-wanted-from-clause-positive c = grind (arith, common_steps)

pub returns-else-wanted-from-clause-within : goal.returns-else-wanted-from-clause-within
returns-else-wanted-from-clause-within c = grind (arith, common_steps)

pub returns-then-wanted-from-clause-positive : goal.returns-then-wanted-from-clause-positive
returns-then-wanted-from-clause-positive c = grind (arith, common_steps)

pub returns-else-wanted-from-clause-wanted : goal.returns-else-wanted-from-clause-wanted
returns-else-wanted-from-clause-wanted c = grind (arith, common_steps)

pub returns-then-wanted-from-clause-wanted : goal.returns-then-wanted-from-clause-wanted
returns-then-wanted-from-clause-wanted c = grind (arith, common_steps)
