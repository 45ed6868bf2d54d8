use Rattle.std.proofs.Common.{arith}
use Rattle.net_solve.proofs.rounding.lowest.Goals as goal

pub loop-node-preserved : goal.loop-node-preserved
loop-node-preserved c = grind (arith)

pub returns-clause-lowest : goal.returns-clause-lowest
returns-clause-lowest c = grind (arith)
