use Rattle.std.proofs.Common.{arith}
use Rattle.net_tree.proofs.Views.{views}
use Rattle.net_model.proofs.chains.+is_sum.Goals as goal

pub returns-in-If : goal.returns-in-If
returns-in-If t c = grind (arith, views)

pub returns-in-If-2 : goal.returns-in-If-2
returns-in-If-2 t c = grind (arith, views)

pub returns-in-Leaf : goal.returns-in-Leaf
returns-in-Leaf t c = grind (arith, views)

pub returns-in-Leaf-2 : goal.returns-in-Leaf-2
returns-in-Leaf-2 t c = grind (arith, views)

pub returns-in-Leaf-3 : goal.returns-in-Leaf-3
returns-in-Leaf-3 t c = grind (arith, views)

pub returns-in-Leaf-4 : goal.returns-in-Leaf-4
returns-in-Leaf-4 t c = grind (arith, views)

pub returns-in-Negated : goal.returns-in-Negated
returns-in-Negated t c = grind (arith, views)

pub returns-in-Negated-2 : goal.returns-in-Negated-2
returns-in-Negated-2 t c = grind (arith, views)

pub returns-in-Negated-3 : goal.returns-in-Negated-3
returns-in-Negated-3 t c = grind (arith, views)

pub returns-in-Chain : goal.returns-in-Chain
returns-in-Chain t c = grind (arith, views)

pub returns-in-Signed : goal.returns-in-Signed
returns-in-Signed t c = grind (arith, views)
