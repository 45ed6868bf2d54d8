use Rattle.std.proofs.Common.{arith}
use Rattle.std.proofs.lemmas.Grind.{common_steps}
use Rattle.net_data.specs.Reading.{body}
use Rattle.net_data.proofs.param_statement.body.Goals as goal

pub returns-in-Some-met-clause-value : goal.returns-in-Some-met-clause-value
unfolding body
returns-in-Some-met-clause-value c = grind (arith, common_steps)

pub returns-in-Some-met-clause-shorter : goal.returns-in-Some-met-clause-shorter
unfolding body
returns-in-Some-met-clause-shorter c = grind (arith, common_steps)

pub returns-in-None-clause-value : goal.returns-in-None-clause-value
unfolding body
returns-in-None-clause-value c = grind (arith, common_steps)

pub returns-in-Some-clause-shorter : goal.returns-in-Some-clause-shorter
unfolding body
returns-in-Some-clause-shorter c = grind (arith, common_steps)

pub returns-in-Some-clause-value : goal.returns-in-Some-clause-value
unfolding body
returns-in-Some-clause-value c = grind (arith, common_steps)

pub returns-in-None-clause-shorter : goal.returns-in-None-clause-shorter
unfolding body
returns-in-None-clause-shorter c = grind (arith, common_steps)
