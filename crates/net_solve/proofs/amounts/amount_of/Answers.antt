use Rattle.std.proofs.Common.{arith}
use Rattle.std.proofs.lemmas.Grind.{common_steps}
use Rattle.net_solve.proofs.amounts.amount_of.Goals as goal

pub returns-else-from-excess-clause-room : goal.returns-else-from-excess-clause-room
returns-else-from-excess-clause-room c = grind (arith, common_steps)

pub returns-then-from-excess-clause-room : goal.returns-then-from-excess-clause-room
returns-then-from-excess-clause-room c = grind (arith, common_steps)
