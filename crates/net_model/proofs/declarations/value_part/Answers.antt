use Rattle.std.proofs.Common.{arith}
use Rattle.std.proofs.lemmas.Grind.{common_steps}
use Rattle.net_model.specs.Expressions.{part_at, present_at}
use Rattle.net_tree.proofs.Views.{views}
use Rattle.net_model.proofs.declarations.value_part.Goals as goal

pub returns-then-not-next_is-clause-value : goal.returns-then-not-next_is-clause-value
unfolding part_at present_at
returns-then-not-next_is-clause-value c = grind (arith, common_steps, views)

pub returns-in_default-clause-value : goal.returns-in_default-clause-value
unfolding part_at present_at
returns-in_default-clause-value c = grind (arith, common_steps, views)

pub returns-then-not-next_is-clause-shorter : goal.returns-then-not-next_is-clause-shorter
unfolding part_at present_at
returns-then-not-next_is-clause-shorter c = grind (arith, common_steps, views)

pub returns-clause-value : goal.returns-clause-value
unfolding part_at present_at
returns-clause-value c = grind (arith, views)

pub returns-clause-shorter : goal.returns-clause-shorter
returns-clause-shorter c = grind (arith)
