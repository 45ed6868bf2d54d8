use Rattle.std.proofs.Common.{arith}
use Rattle.std.proofs.lemmas.Grind.{common_steps}
use Rattle.net_model.specs.Conditions.{said_at}
use Rattle.net_model.proofs.conditions.said_at.Goals as goal

pub returns-clause-value : goal.returns-clause-value
unfolding said_at
returns-clause-value c = grind (arith, common_steps)

pub returns-clause-shorter : goal.returns-clause-shorter
returns-clause-shorter c = grind (arith)
