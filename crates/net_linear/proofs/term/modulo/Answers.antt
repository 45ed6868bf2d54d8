use Rattle.std.proofs.Common.{arith}
use Rattle.std.proofs.lemmas.Grind.{common_steps}
use Rattle.net_linear.proofs.term.modulo.Goals as goal

pub returns-then-are_numbers : goal.returns-then-are_numbers
returns-then-are_numbers c = grind (arith, common_steps)

pub returns-else-are_numbers : goal.returns-else-are_numbers
returns-else-are_numbers c = grind (arith, common_steps)
