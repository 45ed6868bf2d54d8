use Rattle.std.proofs.Common.{arith}
use Rattle.std.proofs.lemmas.Grind.{common_steps}
use Rattle.net_expr.proofs.list.tuples_in.Goals as goal

pub loop-value-init : goal.loop-value-init
loop-value-init c = grind (arith, common_steps)

pub loop-value-preserved : goal.loop-value-preserved
loop-value-preserved c = grind (arith, common_steps)

pub returns : goal.returns
returns c = grind (arith, common_steps)

pub returns-in_err-tuple : goal.returns-in_err-tuple
returns-in_err-tuple c = grind (arith, common_steps)
