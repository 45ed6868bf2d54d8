use Rattle.std.proofs.Common.{arith}
use Rattle.std.proofs.lemmas.Grind.{common_steps}
use Rattle.net_expr.proofs.arithmetic.of_two.Goals as goal

pub returns-in-Times : goal.returns-in-Times
returns-in-Times c = grind (arith, common_steps)

pub returns-in-Plus : goal.returns-in-Plus
returns-in-Plus c = grind (arith, common_steps)

pub returns-in-Minus : goal.returns-in-Minus
returns-in-Minus c = grind (arith, common_steps)

pub returns-in-Div : goal.returns-in-Div
returns-in-Div c = grind (arith, common_steps)

pub returns-in_default : goal.returns-in_default
returns-in_default c = grind (arith, common_steps)

pub returns-in-Less : goal.returns-in-Less
returns-in-Less c = grind (arith, common_steps)

pub returns-in-Mod : goal.returns-in-Mod
returns-in-Mod c = grind (arith, common_steps)
