use Rattle.std.proofs.Common.{arith}
use Rattle.std.proofs.lemmas.Grind.{common_steps}
use Rattle.net_inst.proofs.network.without_goal.Goals as goal

pub returns-then-not-has_objective : goal.returns-then-not-has_objective
returns-then-not-has_objective c = grind (arith, common_steps)

pub returns : goal.returns
returns c = grind (arith, common_steps)
