use Rattle.std.proofs.Common.{arith}
use Rattle.net_solve.proofs.amounts.change_of.Goals as goal

pub returns-else-forwards : goal.returns-else-forwards
returns-else-forwards c = grind (arith)
