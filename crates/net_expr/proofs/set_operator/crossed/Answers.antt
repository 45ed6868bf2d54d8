use Rattle.std.proofs.Common.{arith}
use Rattle.std.proofs.lemmas.Grind.{common_steps}
use Rattle.net_expr.proofs.set_operator.crossed.Goals as goal

pub overflow_add-widest : goal.overflow_add-widest
overflow_add-widest c = grind (arith, common_steps)

pub returns-in-Err-TooMany : goal.returns-in-Err-TooMany
returns-in-Err-TooMany c = grind (arith, common_steps)

pub returns-else-size-le-ARITY_LIMIT : goal.returns-else-size-le-ARITY_LIMIT
returns-else-size-le-ARITY_LIMIT c = grind (arith, common_steps)

pub cross-requires : goal.cross-requires
cross-requires c = grind (arith, common_steps)

pub overflow_cast-result : goal.overflow_cast-result
overflow_cast-result c = grind (arith, common_steps)

pub overflow_add-size : goal.overflow_add-size
overflow_add-size c = grind (arith, common_steps)
