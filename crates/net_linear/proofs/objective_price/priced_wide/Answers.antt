use Rattle.std.proofs.Common.{arith}
use Rattle.std.proofs.lemmas.Grind.{common_steps}
use Rattle.net_linear.proofs.objective_price.priced_wide.Goals as goal

pub plus_arc-requires : goal.plus_arc-requires
plus_arc-requires c = grind (arith, common_steps)

pub returns-in_ok-sum : goal.returns-in_ok-sum
returns-in_ok-sum c = grind (arith, common_steps)

pub returns-else-is_small_wide : goal.returns-else-is_small_wide
returns-else-is_small_wide c = grind (arith, common_steps)
