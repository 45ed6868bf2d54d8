use Rattle.std.proofs.Common.{arith}
use Rattle.std.proofs.lemmas.Grind.{common_steps}
use Rattle.net_expr.specs.Limits.{is_small}
use Rattle.net_linear.proofs.term.joined.Goals as goal

pub returns-in-Minus : goal.returns-in-Minus
unfolding is_small
returns-in-Minus c = grind (arith, common_steps)

pub returns-in-Times : goal.returns-in-Times
unfolding is_small
returns-in-Times c = grind (arith, common_steps)

pub returns-in-Mod : goal.returns-in-Mod
unfolding is_small
returns-in-Mod c = grind (arith, common_steps)

pub returns-in-Div : goal.returns-in-Div
unfolding is_small
returns-in-Div c = grind (arith, common_steps)

pub returns-in_default : goal.returns-in_default
unfolding is_small
returns-in_default c = grind (arith)

pub returns-in-Plus : goal.returns-in-Plus
unfolding is_small
returns-in-Plus c = grind (arith)
