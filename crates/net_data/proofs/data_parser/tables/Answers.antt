use Rattle.std.proofs.Common.{arith}
use Rattle.std.proofs.lemmas.Grind.{common_steps}
use Rattle.net_data.specs.Reading.{tables, single}
use Rattle.net_data.proofs.data_parser.tables.Goals as goal

pub returns-in-Err-single : goal.returns-in-Err-single
unfolding tables single
returns-in-Err-single c = grind (arith, common_steps)

pub same-statements : goal.same-statements
unfolding tables single
same-statements c = grind (arith, common_steps)

pub returns : goal.returns
unfolding tables single
returns c = grind (arith, common_steps)

pub returns-in-Err : goal.returns-in-Err
unfolding tables single
returns-in-Err c = grind (arith, common_steps)

pub returns-in-Err-finished : goal.returns-in-Err-finished
unfolding tables single
returns-in-Err-finished c = grind (arith, common_steps)
