use Rattle.std.proofs.Common.{arith}
use Rattle.std.proofs.lemmas.Grind.{common_steps}
use Rattle.net_expr.proofs.arithmetic.sized.Goals as goal

pub returns-else-is_small_wide : goal.returns-else-is_small_wide
returns-else-is_small_wide c = grind (arith, common_steps)

pub returns-then-is_small_wide : goal.returns-then-is_small_wide
returns-then-is_small_wide c = grind (arith, common_steps)

pub narrow-requires : goal.narrow-requires
narrow-requires c = grind (arith, common_steps)
