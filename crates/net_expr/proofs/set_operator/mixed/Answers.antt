use Rattle.std.proofs.Common.{arith}
use Rattle.std.proofs.lemmas.Grind.{common_steps}
use Rattle.net_expr.proofs.set_operator.mixed.Goals as goal

pub returns-in_ok-difference-in-Diff : goal.returns-in_ok-difference-in-Diff
returns-in_ok-difference-in-Diff c = grind (arith, common_steps)

pub returns-in_ok-intersection-in-Inter : goal.returns-in_ok-intersection-in-Inter
returns-in_ok-intersection-in-Inter c = grind (arith, common_steps)

pub returns-in_default : goal.returns-in_default
returns-in_default c = grind (arith, common_steps)
