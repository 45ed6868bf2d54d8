use Rattle.std.proofs.Common.{arith}
use Rattle.std.proofs.lemmas.Grind.{common_steps}
use Rattle.net_expr.proofs.set_operator.among.Goals as goal

pub returns-then-fits : goal.returns-then-fits
returns-then-fits c = grind (arith, common_steps)

pub returns-else-fits : goal.returns-else-fits
returns-else-fits c = grind (arith, common_steps)
