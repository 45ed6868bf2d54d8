use Rattle.std.proofs.Common.{arith}
use Rattle.std.proofs.lemmas.Grind.{common_steps}
use Rattle.net_model.specs.Conditions.{middle_at}
use Rattle.net_model.proofs.conditions.middle_at.Goals as goal

pub returns-clause-shorter : goal.returns-clause-shorter
unfolding middle_at
returns-clause-shorter c = grind (arith, common_steps)

pub returns-then-free-clause-value : goal.returns-then-free-clause-value
unfolding middle_at
returns-then-free-clause-value c = grind (arith, common_steps)

pub returns-clause-value : goal.returns-clause-value
unfolding middle_at
returns-clause-value c = grind (arith, common_steps)
