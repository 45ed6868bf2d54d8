use Rattle.std.proofs.Common.{arith}
use Rattle.std.proofs.lemmas.Grind.{common_steps}
use Rattle.net_driver.proofs.line_runs.exit_kind_of.Goals as goal

pub returns-in-No : goal.returns-in-No
returns-in-No c = grind (arith, common_steps)
