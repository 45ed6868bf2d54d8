use Rattle.std.proofs.Common.{arith}
use Rattle.std.proofs.lemmas.Grind.{common_steps}
use Rattle.net_expr.proofs.index_item.new_dummy.Goals as goal

pub returns-then-is_known : goal.returns-then-is_known
returns-then-is_known c = grind (arith, common_steps)

pub returns-else-is_known : goal.returns-else-is_known
returns-else-is_known c = grind (arith, common_steps)

pub returns-in-None : goal.returns-in-None
returns-in-None c = grind (arith, common_steps)
