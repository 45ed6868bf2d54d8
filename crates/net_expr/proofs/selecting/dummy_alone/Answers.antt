use Rattle.std.proofs.Common.{arith}
use Rattle.std.proofs.lemmas.Grind.{common_steps}
use Rattle.net_expr.proofs.selecting.dummy_alone.Goals as goal

pub returns-in-None-get : goal.returns-in-None-get
returns-in-None-get c = grind (arith, common_steps)

pub returns-in-None : goal.returns-in-None
returns-in-None c = grind (arith, common_steps)

pub returns-in-Some-get : goal.returns-in-Some-get
returns-in-Some-get c = grind (arith, common_steps)
