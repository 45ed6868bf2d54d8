use Rattle.std.proofs.Common.{arith}
use Rattle.std.proofs.lemmas.Grind.{common_steps}
use Rattle.net_driver.proofs.answer.outcome_of.Goals as goal

pub returns-in-Optimal : goal.returns-in-Optimal
returns-in-Optimal c = grind (arith, common_steps)
