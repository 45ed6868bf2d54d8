use Rattle.std.proofs.Common.{arith}
use Rattle.std.proofs.lemmas.Grind.{common_steps}
use Rattle.net_expr.proofs.arithmetic.gathered_two.Goals as goal

pub returns-in-Max-clause-small : goal.returns-in-Max-clause-small
returns-in-Max-clause-small c = grind (arith, common_steps)

pub returns-in-Min-clause-small : goal.returns-in-Min-clause-small
returns-in-Min-clause-small c = grind (arith, common_steps)

pub returns-in-Sum-clause-small : goal.returns-in-Sum-clause-small
returns-in-Sum-clause-small c = grind (arith, common_steps)

pub returns-in-Min-clause-value : goal.returns-in-Min-clause-value
returns-in-Min-clause-value c = grind (arith, common_steps)

pub returns-in-Max-clause-value : goal.returns-in-Max-clause-value
returns-in-Max-clause-value c = grind (arith, common_steps)

pub returns-in-Sum-clause-value : goal.returns-in-Sum-clause-value
returns-in-Sum-clause-value c = grind (arith, common_steps)

pub overflow_add-result : goal.overflow_add-result
overflow_add-result c = grind (arith, common_steps)
