use Rattle.std.proofs.Common.{arith}
use Rattle.std.proofs.lemmas.Grind.{common_steps}
use Rattle.net_data.specs.Reading.{param}
use Rattle.net_data.proofs.param_statement.param.Goals as goal

pub returns-in-Some-clause-shorter : goal.returns-in-Some-clause-shorter
unfolding param
returns-in-Some-clause-shorter c = grind (arith, common_steps)

pub returns-in-None-clause-value : goal.returns-in-None-clause-value
unfolding param
returns-in-None-clause-value c = grind (arith, common_steps)

pub returns-in-Some-clause-value : goal.returns-in-Some-clause-value
unfolding param
returns-in-Some-clause-value c = grind (arith, common_steps)
