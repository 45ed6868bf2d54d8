use Rattle.std.proofs.Common.{arith}
use Rattle.std.proofs.lemmas.Grind.{common_steps}
use Rattle.net_expr.proofs.index_item.fitting.Goals as goal

pub returns : goal.returns
returns c = grind (arith, common_steps)

pub returns-then-fits_needed : goal.returns-then-fits_needed
returns-then-fits_needed c = grind (arith, common_steps)
