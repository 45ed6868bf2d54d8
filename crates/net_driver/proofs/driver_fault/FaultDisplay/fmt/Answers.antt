use Rattle.std.proofs.Common.{arith}
use Rattle.std.proofs.lemmas.Grind.{common_steps}
use Rattle.net_driver.proofs.driver_fault.FaultDisplay.fmt.Goals as goal

pub returns-in-Unwritten-clause-writes : goal.returns-in-Unwritten-clause-writes
returns-in-Unwritten-clause-writes g c = grind (arith, common_steps)

pub returns-in-Unread-clause-writes : goal.returns-in-Unread-clause-writes
returns-in-Unread-clause-writes g c = grind (arith, common_steps)

pub returns-in-Rejected-clause-writes : goal.returns-in-Rejected-clause-writes
returns-in-Rejected-clause-writes g c = grind (arith, common_steps)

pub returns-in-OutOfMemory-clause-writes : goal.returns-in-OutOfMemory-clause-writes
returns-in-OutOfMemory-clause-writes g c = grind (arith, common_steps)

pub returns-in-RejectedLine-clause-writes : goal.returns-in-RejectedLine-clause-writes
returns-in-RejectedLine-clause-writes g c = grind (arith, common_steps)
