use Rattle.std.proofs.Common.{arith}
use Rattle.std.proofs.lemmas.Grind.{common_steps}
use Rattle.net_expr.proofs.scope.copy_into.Goals as goal

pub returns : goal.returns
returns c = grind (arith, common_steps)

pub loop-binding-preserved : goal.loop-binding-preserved
loop-binding-preserved c = grind (arith, common_steps)
