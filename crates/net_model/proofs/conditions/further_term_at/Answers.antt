use Rattle.std.proofs.Common.{arith}
use Rattle.std.proofs.lemmas.Grind.{common_steps}
use Rattle.net_model.specs.Conditions.{further_term_at}
use Rattle.net_tree.proofs.Views.{views}
use Rattle.net_model.proofs.Making.{link_made}
use Rattle.net_model.proofs.conditions.further_term_at.Goals as goal

pub returns-clause-shorter : goal.returns-clause-shorter
unfolding further_term_at
returns-clause-shorter c = grind (arith, common_steps, views, link_made)

pub returns-clause-value : goal.returns-clause-value
unfolding further_term_at
returns-clause-value c = grind (arith, common_steps, views, link_made)
