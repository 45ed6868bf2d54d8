use Rattle.std.proofs.Common.{arith}
use Rattle.net_solve.proofs.row_tests.are_same.Goals as goal

pub returns : goal.returns
returns c = grind (arith)
