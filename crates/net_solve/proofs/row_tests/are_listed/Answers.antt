use Rattle.std.proofs.Common.{arith}
use Rattle.net_solve.proofs.row_tests.are_listed.Goals as goal

pub loop-index-init : goal.loop-index-init
loop-index-init c = grind (arith)

pub loop-index-preserved : goal.loop-index-preserved
loop-index-preserved c = grind (arith)

pub returns-then-places-len : goal.returns-then-places-len
returns-then-places-len c = grind (arith)
