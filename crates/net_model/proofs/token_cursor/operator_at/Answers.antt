use Rattle.std.proofs.Common.{arith}
use Rattle.std.proofs.lemmas.Grind.{common_steps}
use Rattle.net_model.specs.Expressions.{operator_at}
use Rattle.net_model.proofs.token_cursor.operator_at.Goals as goal

pub returns-in_ok-second-in-Some-2-clause-shorter : goal.returns-in_ok-second-in-Some-2-clause-shorter
unfolding operator_at
returns-in_ok-second-in-Some-2-clause-shorter c = grind (arith, common_steps)

pub returns-else-is_not-clause-shorter : goal.returns-else-is_not-clause-shorter
unfolding operator_at
returns-else-is_not-clause-shorter c = grind (arith, common_steps)
