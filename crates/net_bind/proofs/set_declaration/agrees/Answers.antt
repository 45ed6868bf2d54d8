use Rattle.std.proofs.Common.{arith}
use Rattle.std.proofs.lemmas.Grind.{common_steps}
use Rattle.net_bind.proofs.set_declaration.agrees.Goals as goal

pub returns-else-reported-own : goal.returns-else-reported-own
returns-else-reported-own c = grind (arith, common_steps)
