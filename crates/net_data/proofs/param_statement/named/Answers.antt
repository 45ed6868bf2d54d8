use Rattle.std.proofs.Common.{arith}
use Rattle.std.proofs.lemmas.Grind.{common_steps}
use Rattle.net_data.specs.Reading.{named}
use Rattle.net_data.proofs.param_statement.named.Goals as goal

pub returns-clause-value : goal.returns-clause-value
unfolding named
returns-clause-value c = grind (arith, common_steps)

pub returns-clause-shorter : goal.returns-clause-shorter
unfolding named
returns-clause-shorter c = grind (arith, common_steps)
