use Rattle.std.proofs.Common.{arith}
use Rattle.std.proofs.lemmas.Grind.{common_steps}
use Rattle.net_expr.proofs.operators.truth_at.Goals as goal

pub returns-in-Truth : goal.returns-in-Truth
returns-in-Truth c = grind (arith, common_steps)

pub returns-in-Ok : goal.returns-in-Ok
returns-in-Ok c = grind (arith, common_steps)

pub returns : goal.returns
returns c = grind (arith, common_steps)
