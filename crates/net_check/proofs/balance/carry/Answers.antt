use Rattle.std.proofs.Common.{arith}
use Rattle.std.proofs.lemmas.Grind.{common_steps}
use Rattle.net_check.proofs.balance.carry.Goals as goal

pub add_at-requires : goal.add_at-requires
add_at-requires g c = grind (arith, common_steps)

pub overflow_sub-flow : goal.overflow_sub-flow
overflow_sub-flow g c = grind (arith, common_steps)
