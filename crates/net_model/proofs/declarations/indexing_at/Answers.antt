use Rattle.std.proofs.Common.{arith}
use Rattle.std.proofs.lemmas.Grind.{common_steps}
use Rattle.net_model.specs.Declarations.{indexing_at}
use Rattle.net_model.proofs.declarations.indexing_at.Goals as goal

pub returns-else-next_is-clause-value : goal.returns-else-next_is-clause-value
unfolding indexing_at
returns-else-next_is-clause-value c = grind (arith, common_steps)

pub returns-else-next_is-clause-shorter : goal.returns-else-next_is-clause-shorter
unfolding indexing_at
returns-else-next_is-clause-shorter c = grind (arith, common_steps)

pub returns-in_ok-braces_of-clause-shorter : goal.returns-in_ok-braces_of-clause-shorter
returns-in_ok-braces_of-clause-shorter c = grind (arith)

pub returns-in_ok-braces_of-clause-value : goal.returns-in_ok-braces_of-clause-value
unfolding indexing_at
returns-in_ok-braces_of-clause-value c = grind (arith)
