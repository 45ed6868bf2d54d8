use Rattle.std.proofs.Common.{arith}
use Rattle.std.proofs.lemmas.Grind.{common_steps}
use Rattle.net_linear.proofs.term.remainder.Goals as goal

pub returns-else-divides : goal.returns-else-divides
returns-else-divides c = grind (arith, common_steps)

pub returns-then-divides : goal.returns-then-divides
returns-then-divides c = grind (arith, common_steps)

pub remainder_of-requires : goal.remainder_of-requires
remainder_of-requires c = grind (arith, common_steps)
