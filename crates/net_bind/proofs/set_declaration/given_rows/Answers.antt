use Rattle.std.proofs.Common.{arith}
use Rattle.std.proofs.lemmas.Grind.{common_steps}
use Rattle.net_bind.proofs.set_declaration.given_rows.Goals as goal

pub returns-in-Members : goal.returns-in-Members
returns-in-Members c = grind (arith, common_steps)

pub returns-in-Groups : goal.returns-in-Groups
returns-in-Groups c = grind (arith, common_steps)
