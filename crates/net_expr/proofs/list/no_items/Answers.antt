use Rattle.std.proofs.Common.{arith}
use Rattle.std.proofs.lemmas.Grind.{common_steps}
use Rattle.net_expr.proofs.list.no_items.Goals as goal

pub returns-then-conditioned : goal.returns-then-conditioned
returns-then-conditioned c = grind (arith, common_steps)
