use Rattle.std.proofs.Common.{arith}
use Rattle.std.proofs.lemmas.Grind.{common_steps}
use Rattle.net_bind.proofs.check.check_one.Goals as goal

pub overflow_add-result : goal.overflow_add-result
overflow_add-result c = grind (arith, common_steps)

pub returns-in-Objective-clause-value : goal.returns-in-Objective-clause-value
returns-in-Objective-clause-value c = grind (arith, common_steps)

pub returns-in-Node-clause-value : goal.returns-in-Node-clause-value
returns-in-Node-clause-value c = grind (arith, common_steps)

pub returns-in_ok-checked-in-Check-clause-value : goal.returns-in_ok-checked-in-Check-clause-value
returns-in_ok-checked-in-Check-clause-value c = grind (arith, common_steps)

pub returns-in-Param-clause-value : goal.returns-in-Param-clause-value
returns-in-Param-clause-value c = grind (arith, common_steps)

pub returns-in-Arc-clause-value : goal.returns-in-Arc-clause-value
returns-in-Arc-clause-value c = grind (arith, common_steps)

pub overflow_add-result-in-Param : goal.overflow_add-result-in-Param
overflow_add-result-in-Param c = grind (arith, common_steps)

pub returns-in_ok-checked-in-Check-clause-few : goal.returns-in_ok-checked-in-Check-clause-few
returns-in_ok-checked-in-Check-clause-few c = grind (arith, common_steps)

pub returns-in-Set-clause-value : goal.returns-in-Set-clause-value
returns-in-Set-clause-value c = grind (arith, common_steps)
