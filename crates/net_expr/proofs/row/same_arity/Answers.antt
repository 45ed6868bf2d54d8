use Rattle.std.proofs.Common.{arith}
use Rattle.std.proofs.lemmas.Grind.{common_steps}
use Rattle.net_expr.proofs.row.same_arity.Goals as goal

pub bounds-found-0 : goal.bounds-found-0
bounds-found-0 c = grind (arith, common_steps)
