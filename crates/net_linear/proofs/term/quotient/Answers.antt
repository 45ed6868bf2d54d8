use Rattle.std.proofs.Common.{arith}
use Rattle.std.proofs.lemmas.Grind.{common_steps}
use Rattle.net_linear.proofs.term.quotient.Goals as goal

pub returns-then-divides : goal.returns-then-divides
returns-then-divides c = grind (arith, common_steps)

pub quotient_of-requires : goal.quotient_of-requires
quotient_of-requires c = grind (arith, common_steps)

pub returns-else-divides : goal.returns-else-divides
returns-else-divides c = grind (arith, common_steps)
