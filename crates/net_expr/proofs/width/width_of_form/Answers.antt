use Rattle.std.proofs.Common.{arith}
use Rattle.std.proofs.lemmas.Grind.{common_steps}
use Rattle.net_expr.proofs.width.width_of_form.Goals as goal

pub returns-else-from-le-ARITY_LIMIT : goal.returns-else-from-le-ARITY_LIMIT
returns-else-from-le-ARITY_LIMIT c = grind (arith, common_steps)
