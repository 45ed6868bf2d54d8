use Rattle.std.proofs.Common.{arith}
use Rattle.std.proofs.lemmas.Grind.{common_steps}
use Rattle.net_dimacs.proofs.problem_draft.is_past.Goals as goal

pub overflow_sub-result : goal.overflow_sub-result
overflow_sub-result c = grind (arith, common_steps)

pub returns-else-number-limit : goal.returns-else-number-limit
returns-else-number-limit c = grind (arith, common_steps)
