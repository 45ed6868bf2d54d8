use Rattle.std.proofs.Common.{arith}
use Rattle.std.proofs.lemmas.Grind.{common_steps}
use Rattle.net_names.proofs.declaration_names.declared.Goals as goal

pub returns-in-None : goal.returns-in-None
returns-in-None c = grind (arith, common_steps)

pub returns-in-Some : goal.returns-in-Some
returns-in-Some c = grind (arith, common_steps)

pub returns-in-Arc : goal.returns-in-Arc
returns-in-Arc c = grind (arith, common_steps)

pub returns-in-Param : goal.returns-in-Param
returns-in-Param c = grind (arith, common_steps)

pub returns-in-Check : goal.returns-in-Check
returns-in-Check c = grind (arith, common_steps)

pub returns-in-Node : goal.returns-in-Node
returns-in-Node c = grind (arith, common_steps)

pub returns-in-Set : goal.returns-in-Set
returns-in-Set c = grind (arith, common_steps)
