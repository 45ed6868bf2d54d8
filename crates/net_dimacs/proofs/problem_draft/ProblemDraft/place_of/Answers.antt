use Rattle.std.proofs.Common.{arith}
use Rattle.std.proofs.lemmas.Grind.{common_steps}
use Rattle.net_dimacs.proofs.problem_draft.ProblemDraft.place_of.Goals as goal

pub overflow_cast-result : goal.overflow_cast-result
overflow_cast-result c = grind (arith, common_steps)

pub returns-else-node-ge1-clause-value : goal.returns-else-node-ge1-clause-value
returns-else-node-ge1-clause-value c = grind (arith, common_steps)

pub returns-then-node-len-clause-value : goal.returns-then-node-len-clause-value
returns-then-node-len-clause-value c = grind (arith, common_steps)

pub overflow_sub-result : goal.overflow_sub-result
overflow_sub-result c = grind (arith, common_steps)

pub returns-then-node-len-clause-within : goal.returns-then-node-len-clause-within
returns-then-node-len-clause-within c = grind (arith, common_steps)
