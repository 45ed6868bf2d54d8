use Rattle.std.proofs.Common.{arith}
use Rattle.std.proofs.lemmas.Grind.{common_steps}
use Rattle.net_bind.proofs.param_data.taken.Goals as goal

pub returns-in-Groups : goal.returns-in-Groups
returns-in-Groups c = grind (arith, common_steps)

pub returns-in-Grid : goal.returns-in-Grid
returns-in-Grid c = grind (arith, common_steps)
