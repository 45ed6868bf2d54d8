use Rattle.std.proofs.Common.{arith}
use Rattle.std.proofs.lemmas.Grind.{common_steps}
use Rattle.net_solve.proofs.amounts.saves.Goals as goal

pub returns-else-forwards : goal.returns-else-forwards
returns-else-forwards c = grind (arith, common_steps)

pub returns-then-forwards : goal.returns-then-forwards
returns-then-forwards c = grind (arith, common_steps)
