use Rattle.std.proofs.Common.{arith}
use Rattle.std.proofs.lemmas.Grind.{common_steps}
use Rattle.net_linear.proofs.objectives.indexed.Goals as goal

pub returns-then-any_arc : goal.returns-then-any_arc
returns-then-any_arc c = grind (arith, common_steps)

pub returns-in_ok-key : goal.returns-in_ok-key
returns-in_ok-key c = grind (arith, common_steps)
