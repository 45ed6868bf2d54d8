use Rattle.std.proofs.Common.{arith}
use Rattle.std.proofs.lemmas.Grind.{common_steps}
use Rattle.net_bind.proofs.data_row.with_groups.Goals as goal

pub returns : goal.returns
returns c = grind (arith, common_steps)

pub loop-group-preserved : goal.loop-group-preserved
loop-group-preserved c = grind (arith, common_steps)

pub returns-in_err-with_cell : goal.returns-in_err-with_cell
returns-in_err-with_cell c = grind (arith, common_steps)
