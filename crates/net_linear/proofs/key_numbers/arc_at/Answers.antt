use Rattle.std.proofs.Common.{arith}
use Rattle.std.proofs.lemmas.Grind.{common_steps}
use Rattle.net_linear.proofs.key_numbers.arc_at.Goals as goal

pub returns-then-len-key_count : goal.returns-then-len-key_count
returns-then-len-key_count c = grind (arith, common_steps)

pub returns-in-None : goal.returns-in-None
returns-in-None c = grind (arith, common_steps)

pub returns-else-len-key_count : goal.returns-else-len-key_count
returns-else-len-key_count c = grind (arith, common_steps)
