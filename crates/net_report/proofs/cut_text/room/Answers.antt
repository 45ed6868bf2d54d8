use Rattle.std.proofs.Common.{arith}
use Rattle.std.proofs.lemmas.Grind.{common_steps}
use Rattle.net_report.proofs.cut_text.room.Goals as goal

pub returns-in-Over : goal.returns-in-Over
returns-in-Over c = grind (arith, common_steps)

pub returns-in-Under : goal.returns-in-Under
returns-in-Under c = grind (arith, common_steps)
