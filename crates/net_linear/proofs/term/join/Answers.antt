use Rattle.std.proofs.Common.{arith}
use Rattle.std.proofs.lemmas.Grind.{common_steps}
use Rattle.net_linear.proofs.term.join.Goals as goal

pub returns-in-None : goal.returns-in-None
returns-in-None c = grind (arith, common_steps)

pub returns-in-Some-right : goal.returns-in-Some-right
returns-in-Some-right c = grind (arith, common_steps)

pub returns-in-None-right : goal.returns-in-None-right
returns-in-None-right c = grind (arith, common_steps)
