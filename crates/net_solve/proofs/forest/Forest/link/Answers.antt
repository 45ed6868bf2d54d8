use Rattle.std.proofs.Common.{arith}
use Rattle.std.proofs.lemmas.Grind.{common_steps}
use Rattle.net_solve.proofs.forest.Forest.link.Goals as goal

pub returns-clause-forwards : goal.returns-clause-forwards
returns-clause-forwards c = grind (arith, common_steps)

pub returns-clause-parent : goal.returns-clause-parent
returns-clause-parent c = grind (arith, common_steps)

pub overflow_cast-tail : goal.overflow_cast-tail
overflow_cast-tail c = grind (arith, common_steps)

pub index-requires : goal.index-requires
index-requires c = grind (arith, common_steps)

pub returns-clause-node : goal.returns-clause-node
returns-clause-node c = grind (arith, common_steps)
