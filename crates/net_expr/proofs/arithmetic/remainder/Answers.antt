use Rattle.std.proofs.Common.{arith}
use Rattle.std.proofs.lemmas.Grind.{common_steps}
use Rattle.net_expr.proofs.arithmetic.remainder.Goals as goal

pub returns-else-divides : goal.returns-else-divides
returns-else-divides c = grind (arith, common_steps)

pub returns-then-divides : goal.returns-then-divides
returns-then-divides c = grind (arith, common_steps)

pub nonzero_rem-result : goal.nonzero_rem-result
nonzero_rem-result c = grind (arith, common_steps)
