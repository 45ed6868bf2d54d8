use Rattle.std.proofs.Common.{arith}
use Rattle.std.proofs.lemmas.Grind.{common_steps}
use Rattle.net_model.specs.Conditions.{condition_at}
use Rattle.net_model.proofs.conditions.condition_at.Goals as goal

pub returns-then-next_is-clause-shorter : goal.returns-then-next_is-clause-shorter
unfolding condition_at
returns-then-next_is-clause-shorter c = grind (arith, common_steps)

pub returns-then-next_is-clause-value : goal.returns-then-next_is-clause-value
unfolding condition_at
returns-then-next_is-clause-value c = grind (arith, common_steps)

pub returns-else-next_is-clause-shorter : goal.returns-else-next_is-clause-shorter
unfolding condition_at
returns-else-next_is-clause-shorter c = grind (arith, common_steps)

pub returns-else-next_is-clause-value : goal.returns-else-next_is-clause-value
unfolding condition_at
returns-else-next_is-clause-value c = grind (arith, common_steps)
