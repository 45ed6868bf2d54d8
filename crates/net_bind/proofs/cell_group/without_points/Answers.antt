use Rattle.std.proofs.Common.{arith}
use Rattle.std.proofs.lemmas.Grind.{common_steps}
use Rattle.net_bind.proofs.cell_group.without_points.Goals as goal

pub returns-then-is_point : goal.returns-then-is_point
returns-then-is_point c = grind (arith, common_steps)

pub loop-cell-preserved : goal.loop-cell-preserved
loop-cell-preserved c = grind (arith, common_steps)

pub returns : goal.returns
returns c = grind (arith, common_steps)
