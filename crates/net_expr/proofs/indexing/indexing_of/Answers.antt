use Rattle.std.proofs.Common.{arith}
use Rattle.std.proofs.lemmas.Grind.{common_steps}
use Rattle.net_expr.proofs.indexing.indexing_of.Goals as goal

pub returns-in_ok-indexing-in-None : goal.returns-in_ok-indexing-in-None
returns-in_ok-indexing-in-None c = grind (arith, common_steps)
