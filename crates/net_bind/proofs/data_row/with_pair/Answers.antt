use Rattle.std.proofs.Common.{arith}
use Rattle.std.proofs.lemmas.Grind.{common_steps}
use Rattle.net_bind.proofs.data_row.with_pair.Goals as goal

pub returns-else-is_point : goal.returns-else-is_point
returns-else-is_point c = grind (arith, common_steps)
