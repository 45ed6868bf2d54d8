use Rattle.std.proofs.Common.{arith}
use Rattle.std.proofs.lemmas.Grind.{common_steps}
use Rattle.net_data.specs.Reading.{named_set}
use Rattle.net_data.proofs.param_statement.named_set.Goals as goal

pub returns-in-Some-met-clause-value : goal.returns-in-Some-met-clause-value
unfolding named_set
returns-in-Some-met-clause-value c = grind (arith, common_steps)

pub returns-in-Some-met-clause-within : goal.returns-in-Some-met-clause-within
unfolding named_set
returns-in-Some-met-clause-within c = grind (arith, common_steps)
