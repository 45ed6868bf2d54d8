use Rattle.std.proofs.Common.{arith}
use Rattle.std.proofs.lemmas.Grind.{common_steps}
use Rattle.net_data.specs.Reading.{default}
use Rattle.net_data.proofs.param_statement.default.Goals as goal

pub returns-in_ok-value-in-Some-clause-value : goal.returns-in_ok-value-in-Some-clause-value
unfolding default
returns-in_ok-value-in-Some-clause-value c = grind (arith, common_steps)

pub returns-in_ok-value-in-Some-clause-within : goal.returns-in_ok-value-in-Some-clause-within
unfolding default
returns-in_ok-value-in-Some-clause-within c = grind (arith, common_steps)
