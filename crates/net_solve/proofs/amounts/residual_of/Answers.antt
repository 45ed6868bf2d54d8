use Rattle.std.proofs.Common.{arith}
use Rattle.net_solve.proofs.amounts.residual_of.Goals as goal

pub overflow_sub-result : goal.overflow_sub-result
overflow_sub-result c = grind (arith)

pub overflow_sub-result-else-forwards : goal.overflow_sub-result-else-forwards
overflow_sub-result-else-forwards c = grind (arith)

pub returns-else-forwards : goal.returns-else-forwards
returns-else-forwards c = grind (arith)

pub returns-then-forwards : goal.returns-then-forwards
returns-then-forwards c = grind (arith)
