use Rattle.std.proofs.Common.{arith}
use Rattle.std.proofs.lemmas.Grind.{common_steps}
use Rattle.net_inst.proofs.price.number_in.Goals as goal

pub returns-else-is_small : goal.returns-else-is_small
returns-else-is_small c = grind (arith, common_steps)

pub returns-in-Name : goal.returns-in-Name
returns-in-Name c = grind (arith, common_steps)

pub returns-then-is_small : goal.returns-then-is_small
returns-then-is_small c = grind (arith, common_steps)
