use Rattle.std.proofs.Common.{arith}
use Rattle.std.proofs.lemmas.Grind.{common_steps}
use Rattle.net_expr.proofs.arithmetic.quotient.Goals as goal

pub returns-else-divides : goal.returns-else-divides
returns-else-divides c = grind (arith, common_steps)

pub returns-then-divides : goal.returns-then-divides
returns-then-divides c = grind (arith, common_steps)

pub nonzero_div-result : goal.nonzero_div-result
nonzero_div-result c = grind (arith, common_steps)
