use Rattle.std.proofs.Common.{arith}
use Rattle.std.proofs.lemmas.Grind.{common_steps}
use Rattle.net_driver.proofs.reporting.name_of.Goals as goal

pub returns-in-Data : goal.returns-in-Data
returns-in-Data c = grind (arith, common_steps)
