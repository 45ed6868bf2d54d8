use Rattle.std.proofs.Common.{arith}
use Rattle.std.proofs.lemmas.Grind.{common_steps}
use Rattle.net_model.specs.Conditions.{first_term_at}
use Rattle.net_model.proofs.conditions.first_term_at.Goals as goal

pub returns-else-free-clause-shorter : goal.returns-else-free-clause-shorter
unfolding first_term_at
returns-else-free-clause-shorter c = grind (arith, common_steps)

pub returns-else-free-clause-value : goal.returns-else-free-clause-value
unfolding first_term_at
returns-else-free-clause-value c = grind (arith, common_steps)

pub returns-in_ok-signed_net_at-clause-shorter : goal.returns-in_ok-signed_net_at-clause-shorter
unfolding first_term_at
returns-in_ok-signed_net_at-clause-shorter c = grind (arith, common_steps)

pub returns-in_ok-signed_net_at-clause-value : goal.returns-in_ok-signed_net_at-clause-value
unfolding first_term_at
returns-in_ok-signed_net_at-clause-value c = grind (arith, common_steps)
