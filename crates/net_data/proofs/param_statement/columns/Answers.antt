use Rattle.std.proofs.Common.{arith}
use Rattle.std.proofs.lemmas.Grind.{common_steps}
use Rattle.net_data.specs.Reading.{columns}
use Rattle.net_data.proofs.param_statement.columns.Goals as goal

pub returns-clause-shorter : goal.returns-clause-shorter
unfolding columns
returns-clause-shorter c = grind (arith, common_steps)

pub returns-clause-value : goal.returns-clause-value
unfolding columns
returns-clause-value c = grind (arith, common_steps)
