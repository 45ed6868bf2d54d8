use Rattle.std.proofs.Common.{arith}
use Rattle.std.proofs.lemmas.Grind.{common_steps}
use Rattle.net_expr.proofs.arithmetic.nothing_reduced.Goals as goal

pub returns-in-Sum : goal.returns-in-Sum
returns-in-Sum c = grind (arith, common_steps)

pub returns-in-Min : goal.returns-in-Min
returns-in-Min c = grind (arith, common_steps)
