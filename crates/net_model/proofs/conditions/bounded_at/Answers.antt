use Rattle.std.proofs.Common.{arith}
use Rattle.std.proofs.lemmas.Grind.{common_steps}
use Rattle.net_model.specs.Conditions.{bounded_at}
use Rattle.net_model.proofs.conditions.bounded_at.Goals as goal

pub returns-then-free-clause-value : goal.returns-then-free-clause-value
unfolding bounded_at
returns-then-free-clause-value c = grind (arith, common_steps)

pub returns-in_ok-one-clause-value : goal.returns-in_ok-one-clause-value
unfolding bounded_at
returns-in_ok-one-clause-value c = grind (arith, common_steps)

pub returns-then-free-clause-shorter : goal.returns-then-free-clause-shorter
unfolding bounded_at
returns-then-free-clause-shorter c = grind (arith, common_steps)

pub returns-in_ok-one-clause-shorter : goal.returns-in_ok-one-clause-shorter
unfolding bounded_at
returns-in_ok-one-clause-shorter c = grind (arith, common_steps)
