use Rattle.std.proofs.Common.{arith}
use Rattle.std.proofs.lemmas.Grind.{common_steps}
use Rattle.net_bind.proofs.restriction.restricted_in.Goals as goal

pub returns-in-Plain : goal.returns-in-Plain
returns-in-Plain c = grind (arith, common_steps)

pub returns-in-Priced : goal.returns-in-Priced
returns-in-Priced c = grind (arith, common_steps)

pub returns-in-Valued : goal.returns-in-Valued
returns-in-Valued c = grind (arith, common_steps)
