use Rattle.std.proofs.Common.{arith}
use Rattle.std.proofs.lemmas.Grind.{common_steps}
use Rattle.net_bind.proofs.bind_world.declare.Goals as goal

pub returns-in-Arc-clause-value : goal.returns-in-Arc-clause-value
returns-in-Arc-clause-value c = grind (arith, common_steps)

pub returns-in-Objective-clause-kept : goal.returns-in-Objective-clause-kept
returns-in-Objective-clause-kept c = grind (arith, common_steps)

pub returns-in-Param-clause-value : goal.returns-in-Param-clause-value
returns-in-Param-clause-value c =
    let reported = c.with_entry-in-Param.ensures.value _ c.entry_of_parameter-entry.ensures in
    rw (← c.whole-earlier-in-Param.ensures.world) (grind (arith, reported))

pub returns-in-Set-clause-kept : goal.returns-in-Set-clause-kept
returns-in-Set-clause-kept c = grind (arith, common_steps)

pub returns-in-Param-clause-kept : goal.returns-in-Param-clause-kept
returns-in-Param-clause-kept c = grind (arith, common_steps)

pub returns-in-Objective-clause-value : goal.returns-in-Objective-clause-value
returns-in-Objective-clause-value c = grind (arith, common_steps)

pub returns-in-Arc-clause-kept : goal.returns-in-Arc-clause-kept
returns-in-Arc-clause-kept c = grind (arith, common_steps)

pub returns-in-Check-clause-kept : goal.returns-in-Check-clause-kept
returns-in-Check-clause-kept c = grind (arith, common_steps)

pub returns-in-Node-clause-kept : goal.returns-in-Node-clause-kept
returns-in-Node-clause-kept c = grind (arith, common_steps)

pub returns-in-Set-clause-value : goal.returns-in-Set-clause-value
returns-in-Set-clause-value c =
    let reported = c.with_entry.ensures.value _ c.entry_of_set-entry.ensures in
    rw (← c.whole-earlier.ensures.world) (grind (arith, reported))

pub returns-in-Node-clause-value : goal.returns-in-Node-clause-value
returns-in-Node-clause-value c = grind (arith, common_steps)

pub returns-in-Check-clause-value : goal.returns-in-Check-clause-value
returns-in-Check-clause-value c = grind (arith, common_steps)
