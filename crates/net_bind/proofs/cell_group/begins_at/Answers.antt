use Rattle.std.proofs.Common.{arith}
use Rattle.std.proofs.lemmas.Grind.{common_steps}
use Rattle.net_bind.proofs.cell_group.begins_at.Goals as goal

pub bounds-row-0 : goal.bounds-row-0
bounds-row-0 c = grind (arith, common_steps)
