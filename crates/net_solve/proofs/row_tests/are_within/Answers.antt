use Rattle.std.proofs.Common.{arith}
use Rattle.net_solve.proofs.row_tests.are_within.Goals as goal

pub loop-start-preserved : goal.loop-start-preserved
loop-start-preserved c = grind (arith)

pub returns : goal.returns
returns c = grind (arith)

pub returns-then-start-entries : goal.returns-then-start-entries
returns-then-start-entries c = grind (arith)
