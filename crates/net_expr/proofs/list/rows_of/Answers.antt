use Rattle.std.proofs.Common.{arith}
use Rattle.std.proofs.lemmas.Grind.{common_steps}
use Rattle.net_expr.proofs.list.rows_of.Goals as goal

pub loop-tuple-init : goal.loop-tuple-init
loop-tuple-init c = grind (arith, common_steps)

pub loop-tuple-preserved : goal.loop-tuple-preserved
loop-tuple-preserved c = grind (arith, common_steps)

pub returns : goal.returns
returns c = grind (arith, common_steps)
