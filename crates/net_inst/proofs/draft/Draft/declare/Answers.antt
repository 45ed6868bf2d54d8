use Rattle.std.proofs.Common.{arith}
use Rattle.std.proofs.lemmas.Grind.{common_steps}
use Rattle.net_inst.proofs.draft.Draft.declare.Goals as goal

pub returns-in-Node-clause-value : goal.returns-in-Node-clause-value
returns-in-Node-clause-value c = grind (arith, common_steps)

pub returns-in-Node-clause-known : goal.returns-in-Node-clause-known
returns-in-Node-clause-known c = grind (arith, common_steps)

pub returns-in-Set-clause-value : goal.returns-in-Set-clause-value
returns-in-Set-clause-value c = grind (arith, common_steps)

pub returns-in-Check-clause-value : goal.returns-in-Check-clause-value
returns-in-Check-clause-value c = grind (arith, common_steps)

pub returns-in-Objective-clause-known : goal.returns-in-Objective-clause-known
returns-in-Objective-clause-known c = grind (arith, common_steps)

pub returns-in-Objective-clause-value : goal.returns-in-Objective-clause-value
returns-in-Objective-clause-value c = grind (arith, common_steps)

pub returns-in-Arc-clause-known : goal.returns-in-Arc-clause-known
returns-in-Arc-clause-known c = grind (arith, common_steps)

pub returns-in-Arc-clause-value : goal.returns-in-Arc-clause-value
returns-in-Arc-clause-value c = grind (arith, common_steps)

pub returns-in-Set-clause-known : goal.returns-in-Set-clause-known
returns-in-Set-clause-known c = grind (arith, common_steps)
