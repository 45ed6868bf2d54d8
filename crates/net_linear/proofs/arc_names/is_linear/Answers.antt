use Rattle.std.proofs.Common.{arith}
use Rattle.std.proofs.lemmas.Grind.{common_steps}
use Rattle.net_linear.proofs.arc_names.is_linear.Goals as goal

pub returns-then-are_signs : goal.returns-then-are_signs
returns-then-are_signs c = grind (arith, common_steps)

pub returns-else-are_signs : goal.returns-else-are_signs
returns-else-are_signs c = grind (arith, common_steps)
