use Rattle.std.proofs.Common.{arith}
use Rattle.std.proofs.lemmas.Grind.{common_steps}
use Rattle.net_data.specs.Reading.{statement}
use Rattle.net_data.proofs.data_parser.Unread.statement.Goals as goal

pub returns-in-Some-clause-shorter : goal.returns-in-Some-clause-shorter
unfolding statement
returns-in-Some-clause-shorter c = grind (arith, common_steps)

pub returns-in-Some-met-clause-value : goal.returns-in-Some-met-clause-value
unfolding statement
returns-in-Some-met-clause-value c = grind (arith, common_steps)

pub returns-in-None-clause-left : goal.returns-in-None-clause-left
unfolding statement
returns-in-None-clause-left c = grind (arith, common_steps)

pub returns-in-Some-met-clause-shorter : goal.returns-in-Some-met-clause-shorter
unfolding statement
returns-in-Some-met-clause-shorter c = grind (arith, common_steps)

pub returns-in-Some-clause-value : goal.returns-in-Some-clause-value
unfolding statement
returns-in-Some-clause-value c = grind (arith, common_steps)

pub returns-in-None-clause-value : goal.returns-in-None-clause-value
unfolding statement
returns-in-None-clause-value c = grind (arith, common_steps)
