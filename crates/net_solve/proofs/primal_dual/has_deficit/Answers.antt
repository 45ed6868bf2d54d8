use Rattle.std.proofs.Common.{arith}
use Rattle.std.proofs.lemmas.Grind.{common_steps}
use Rattle.net_solve.proofs.primal_dual.has_deficit.Goals as goal

pub returns-clause-none : goal.returns-clause-none
returns-clause-none c = grind (arith, common_steps)

pub loop-amount-preserved : goal.loop-amount-preserved
loop-amount-preserved c = grind (arith, common_steps)

pub returns-then-amount-lt0-clause-none : goal.returns-then-amount-lt0-clause-none
returns-then-amount-lt0-clause-none c = grind (arith, common_steps)

pub loop-amount-init : goal.loop-amount-init
loop-amount-init c = grind (arith, common_steps)

pub returns-clause-some : goal.returns-clause-some
returns-clause-some c = grind (arith, common_steps)

pub returns-then-amount-lt0-clause-some : goal.returns-then-amount-lt0-clause-some
returns-then-amount-lt0-clause-some c = grind (arith, common_steps)

pub offset_bounds-excess-amount-index : goal.offset_bounds-excess-amount-index
offset_bounds-excess-amount-index c = grind (arith, common_steps)
