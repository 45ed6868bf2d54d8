use Rattle.std.proofs.Common.{arith}
use Rattle.std.proofs.lemmas.Grind.{common_steps}
use Rattle.net_model.specs.Conditions.{term_at}
use Rattle.net_model.proofs.conditions.term_at.Goals as goal

pub returns-then-next_is-clause-shorter : goal.returns-then-next_is-clause-shorter
unfolding term_at
returns-then-next_is-clause-shorter c = grind (arith, common_steps)

pub returns-in_ok-climb_to-clause-value : goal.returns-in_ok-climb_to-clause-value
unfolding term_at
returns-in_ok-climb_to-clause-value c = grind (arith, common_steps)

pub returns-then-next_is-clause-value : goal.returns-then-next_is-clause-value
unfolding term_at
returns-then-next_is-clause-value c = grind (arith, common_steps)

pub returns-in_ok-climb_to-clause-shorter : goal.returns-in_ok-climb_to-clause-shorter
unfolding term_at
returns-in_ok-climb_to-clause-shorter c = grind (arith, common_steps)
