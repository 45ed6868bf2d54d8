use Rattle.std.proofs.Common.{arith}
use Rattle.net_tree.proofs.Views.{views}
use Rattle.net_expr.proofs.width.+is_set_form.Goals as goal

pub returns-in-Braced : goal.returns-in-Braced
returns-in-Braced t c = grind (arith, views)

pub returns-in-Chain : goal.returns-in-Chain
returns-in-Chain t c = grind (arith, views)

pub returns-in-If : goal.returns-in-If
returns-in-If t c = grind (arith, views)

pub returns-in-Indexed : goal.returns-in-Indexed
returns-in-Indexed t c = grind (arith, views)

pub returns-in-Leaf : goal.returns-in-Leaf
returns-in-Leaf t c = grind (arith, views)

pub returns-in-Parens : goal.returns-in-Parens
returns-in-Parens t c = grind (arith, views)

pub returns-in-Reduction : goal.returns-in-Reduction
returns-in-Reduction t c = grind (arith, views)

pub returns-in-Indexed-2 : goal.returns-in-Indexed-2
returns-in-Indexed-2 t c = grind (arith, views)

pub returns-in-Indexed-3 : goal.returns-in-Indexed-3
returns-in-Indexed-3 t c = grind (arith, views)

pub returns-in-Indexed-4 : goal.returns-in-Indexed-4
returns-in-Indexed-4 t c = grind (arith, views)

pub returns-in-Reduction-2 : goal.returns-in-Reduction-2
returns-in-Reduction-2 t c = grind (arith, views)
