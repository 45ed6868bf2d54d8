use Rattle.std.proofs.Common.{arith}
use Rattle.std.proofs.lemmas.Grind.{common_steps}
use Rattle.net_solve.proofs.balancing.first_source.Goals as goal

pub loop-node-init : goal.loop-node-init
loop-node-init c = grind (arith, common_steps)

pub returns-clause-none : goal.returns-clause-none
returns-clause-none c = grind (arith, common_steps)

pub returns-then-amount-gt0-clause-some : goal.returns-then-amount-gt0-clause-some
returns-then-amount-gt0-clause-some c = grind (arith, common_steps)

pub loop-node-preserved : goal.loop-node-preserved
loop-node-preserved c = grind (arith, common_steps)

pub bounds-excess-node : goal.bounds-excess-node
bounds-excess-node c = grind (arith, common_steps)

pub offset_bounds-excess-node : goal.offset_bounds-excess-node
offset_bounds-excess-node c = grind (arith, common_steps)

pub overflow_cast-result : goal.overflow_cast-result
overflow_cast-result c = grind (arith, common_steps)
