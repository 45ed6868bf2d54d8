use Rattle.std.proofs.Common.{arith}
use Rattle.std.proofs.lemmas.Grind.{common_steps}
use Rattle.net_expr.proofs.selecting.selecting_first.Goals as goal

pub returns-then-is_new : goal.returns-then-is_new
returns-then-is_new c = grind (arith, common_steps)

pub returns-in-Some : goal.returns-in-Some
returns-in-Some c = grind (arith, common_steps)

pub returns-else-is_new : goal.returns-else-is_new
returns-else-is_new c = grind (arith, common_steps)
