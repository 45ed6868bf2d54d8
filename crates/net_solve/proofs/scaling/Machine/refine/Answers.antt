use Rattle.std.proofs.Common.{arith}
use Rattle.net_solve.proofs.scaling.Machine.refine.Goals as goal

pub discharge-requires-clause-rows : goal.discharge-requires-clause-rows
discharge-requires-clause-rows c = grind (arith)

pub loop-preserved : goal.loop-preserved
loop-preserved c = grind (arith)
