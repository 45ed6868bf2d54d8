use Rattle.std.proofs.Common.{arith}
use Rattle.net_tree.proofs.Views.{views}
use Rattle.net_tree.proofs.span.closing_of.Goals as goal

pub returns-in-Empty : goal.returns-in-Empty
returns-in-Empty c = grind (arith, views)

pub returns-in-Filled : goal.returns-in-Filled
returns-in-Filled c = grind (arith, views)
