use Rattle.std.proofs.Common.{arith}
use Rattle.std.proofs.lemmas.Grind.{common_steps}
use Rattle.net_names.proofs.declaration_names.read_declaration.Goals as goal

pub returns-in-Set-clause-grown : goal.returns-in-Set-clause-grown
returns-in-Set-clause-grown c = grind (arith, common_steps)

pub returns-in-Arc-clause-value : goal.returns-in-Arc-clause-value
returns-in-Arc-clause-value c = grind (arith, common_steps)

pub returns-in-Objective-clause-grown : goal.returns-in-Objective-clause-grown
returns-in-Objective-clause-grown c = grind (arith, common_steps)

pub returns-in-Check-clause-value : goal.returns-in-Check-clause-value
returns-in-Check-clause-value c = grind (arith, common_steps)

pub returns-in-Objective-clause-value : goal.returns-in-Objective-clause-value
returns-in-Objective-clause-value c = grind (arith, common_steps)

pub returns-in-Node-clause-value : goal.returns-in-Node-clause-value
returns-in-Node-clause-value c = grind (arith, common_steps)

pub returns-in-Param-clause-grown : goal.returns-in-Param-clause-grown
returns-in-Param-clause-grown c = grind (arith, common_steps)

pub returns-in-Check-clause-grown : goal.returns-in-Check-clause-grown
returns-in-Check-clause-grown c = grind (arith, common_steps)

pub returns-in-Arc-clause-grown : goal.returns-in-Arc-clause-grown
returns-in-Arc-clause-grown c = grind (arith, common_steps)

pub returns-in-Param-clause-value : goal.returns-in-Param-clause-value
returns-in-Param-clause-value c = grind (arith, common_steps)

pub returns-in-Set-clause-value : goal.returns-in-Set-clause-value
returns-in-Set-clause-value c = grind (arith, common_steps)

pub returns-in-Node-clause-grown : goal.returns-in-Node-clause-grown
returns-in-Node-clause-grown c = grind (arith, common_steps)
