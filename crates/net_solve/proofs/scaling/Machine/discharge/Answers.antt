use Rattle.std.proofs.Common.{arith}
use Rattle.std.proofs.lemmas.Grind.{common_steps}
use Rattle.net_solve.proofs.scaling.Machine.discharge.Goals as goal

pub least_out-least-requires-clause-rows : goal.least_out-least-requires-clause-rows
least_out-least-requires-clause-rows c = grind (arith)

pub loop-preserved : goal.loop-preserved
loop-preserved c = grind (arith)

pub push_out-requires-clause-rows : goal.push_out-requires-clause-rows
push_out-requires-clause-rows c = grind (arith)
