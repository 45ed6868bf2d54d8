use Rattle.std.proofs.Common.{arith}
use Rattle.std.proofs.lemmas.Grind.{common_steps}
use Rattle.net_check.proofs.checker.is_within.Goals as goal

pub returns-then-arc-flow : goal.returns-then-arc-flow
returns-then-arc-flow c = grind (arith, common_steps)

pub returns-else-arc-flow : goal.returns-else-arc-flow
returns-else-arc-flow c = grind (arith, common_steps)
