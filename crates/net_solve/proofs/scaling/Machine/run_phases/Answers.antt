use Rattle.std.proofs.Common.{arith}
use Rattle.net_solve.proofs.scaling.Machine.run_phases.Goals as goal

pub loop-init : goal.loop-init
loop-init c = grind (arith)

pub loop-preserved : goal.loop-preserved
loop-preserved c = grind (arith)

pub refine-requires-clause-rows : goal.refine-requires-clause-rows
refine-requires-clause-rows c = grind (arith)

pub returns-clause-ended : goal.returns-clause-ended
returns-clause-ended c = grind (arith)

pub returns-then-is_last-clause-ended : goal.returns-then-is_last-clause-ended
returns-then-is_last-clause-ended c = grind (arith)

pub returns-then-not-is_balanced-clause-ended : goal.returns-then-not-is_balanced-clause-ended
returns-then-not-is_balanced-clause-ended c = grind (arith)
