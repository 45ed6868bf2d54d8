use Rattle.std.proofs.Common.{arith}
use Rattle.std.proofs.lemmas.Grind.{common_steps}
use Rattle.net_driver.proofs.line_runs.settled_exit_kind.Goals as goal

pub returns-in-Cut : goal.returns-in-Cut
returns-in-Cut c = grind (arith, common_steps)
