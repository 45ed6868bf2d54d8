use Rattle.std.proofs.Common.{arith}
use Rattle.std.proofs.lemmas.Grind.{common_steps}
use Rattle.net_bind.proofs.set_declaration.member_rows.Goals as goal

pub same-rows : goal.same-rows
same-rows c = grind (arith, common_steps)
