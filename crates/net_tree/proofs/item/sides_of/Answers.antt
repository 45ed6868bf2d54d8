use Rattle.std.proofs.Common.{arith}
use Rattle.net_tree.proofs.Views.{views}
use Rattle.net_tree.proofs.item.sides_of.Goals as goal

pub returns-in-If : goal.returns-in-If
returns-in-If c = grind (arith, views)

pub returns-in-Leaf : goal.returns-in-Leaf
returns-in-Leaf c = grind (arith, views)

pub returns-in-Negated : goal.returns-in-Negated
returns-in-Negated c = grind (arith, views)

pub returns-in-None : goal.returns-in-None
returns-in-None c = grind (arith, views)

pub returns-in-Some : goal.returns-in-Some
returns-in-Some c = grind (arith, views)
