use Rattle.std.proofs.Common.{arith}
use Rattle.std.proofs.lemmas.Grind.{common_steps}
use Rattle.net_expr.proofs.range_operator.check_size.Goals as goal

pub returns-then-are_small-clause-value : goal.returns-then-are_small-clause-value
returns-then-are_small-clause-value c = grind (arith, common_steps)

pub returns-then-are_small-clause-small : goal.returns-then-are_small-clause-small
returns-then-are_small-clause-small c = grind (arith, common_steps)

pub returns-else-are_small-clause-value : goal.returns-else-are_small-clause-value
returns-else-are_small-clause-value c = grind (arith, common_steps)
