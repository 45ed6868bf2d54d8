use Rattle.std.proofs.Common.{arith}
use Rattle.net_tree.proofs.Views.{views}
use Rattle.net_tree.proofs.item.single_name.Goals as goal

pub returns-in-Braced : goal.returns-in-Braced
returns-in-Braced c = grind (arith, views)

pub returns-in-If : goal.returns-in-If
returns-in-If c = grind (arith, views)

pub returns-in-Indexed : goal.returns-in-Indexed
returns-in-Indexed c = grind (arith, views)

pub returns-in-Leaf : goal.returns-in-Leaf
returns-in-Leaf c = grind (arith, views)
