use Rattle.std.proofs.Common.{arith}
use Rattle.std.proofs.lemmas.Grind.{common_steps}
use Rattle.net_model.specs.Declarations.{declared_at}
use Rattle.net_model.proofs.declarations.declared_at.Goals as goal

pub returns-in-Set-clause-value : goal.returns-in-Set-clause-value
unfolding declared_at
returns-in-Set-clause-value c = grind (arith, common_steps)

pub returns-in-Node-clause-value : goal.returns-in-Node-clause-value
unfolding declared_at
returns-in-Node-clause-value c = grind (arith, common_steps)

pub returns-in-Param-clause-value : goal.returns-in-Param-clause-value
unfolding declared_at
returns-in-Param-clause-value c = grind (arith, common_steps)

pub returns-in-Arc-clause-value : goal.returns-in-Arc-clause-value
unfolding declared_at
returns-in-Arc-clause-value c = grind (arith, common_steps)

pub returns-in-Objective-clause-value : goal.returns-in-Objective-clause-value
unfolding declared_at
returns-in-Objective-clause-value c = grind (arith, common_steps)

pub returns-in-Check-clause-value : goal.returns-in-Check-clause-value
unfolding declared_at
returns-in-Check-clause-value c = grind (arith, common_steps)
