use Rattle.std.proofs.Common.{arith}
use Rattle.net_check.proofs.cut.across.Goals as goal

pub returns-in-false-true-clause-value : goal.returns-in-false-true-clause-value
returns-in-false-true-clause-value c = grind (arith)

pub returns-in-true-false-clause-value : goal.returns-in-true-false-clause-value
returns-in-true-false-clause-value c = grind (arith)
