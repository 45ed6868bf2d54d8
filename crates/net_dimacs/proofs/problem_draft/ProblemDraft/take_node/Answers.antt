use Rattle.std.proofs.Common.{arith}
use Rattle.std.proofs.lemmas.Grind.{common_steps}
use Rattle.net_dimacs.proofs.problem_draft.ProblemDraft.take_node.Goals as goal

pub overflow_cast-place : goal.overflow_cast-place
overflow_cast-place c = grind (arith, common_steps)

pub set_supply-requires-clause-sized : goal.set_supply-requires-clause-sized
set_supply-requires-clause-sized c = grind (arith, common_steps)

pub index-requires : goal.index-requires
index-requires c = grind (arith, common_steps)

pub returns-in_default : goal.returns-in_default
returns-in_default c = grind (arith, common_steps)

pub set_supply-requires-clause-within : goal.set_supply-requires-clause-within
set_supply-requires-clause-within c = grind (arith, common_steps)

pub overflow_cast-place-2 : goal.overflow_cast-place-2
overflow_cast-place-2 c = grind (arith, common_steps)

pub returns : goal.returns
returns c = grind (arith)
