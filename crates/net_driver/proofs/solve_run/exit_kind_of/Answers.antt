use Rattle.std.proofs.Common.{arith}
use Rattle.std.proofs.lemmas.Grind.{common_steps}
use Rattle.net_driver.proofs.solve_run.exit_kind_of.Goals as goal

pub returns-in-Infeasible : goal.returns-in-Infeasible
returns-in-Infeasible c = grind (arith, common_steps)
