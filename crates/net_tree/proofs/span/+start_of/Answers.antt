use Rattle.std.proofs.Common.{arith}
use Rattle.net_tree.proofs.Views.{views}
use Rattle.net_tree.proofs.span.+start_of.Goals as goal

pub returns-in-Braced : goal.returns-in-Braced
returns-in-Braced t c = grind (arith, views)

pub returns-in-Chain : goal.returns-in-Chain
returns-in-Chain t c = grind (arith, views)

pub returns-in-If : goal.returns-in-If
returns-in-If t c = grind (arith, views)

pub returns-in-Indexed : goal.returns-in-Indexed
returns-in-Indexed t c = grind (arith, views)

pub returns-in-Leaf : goal.returns-in-Leaf
returns-in-Leaf t c = grind (arith, views)

pub returns-in-Negated : goal.returns-in-Negated
returns-in-Negated t c = grind (arith, views)

pub returns-in-Net : goal.returns-in-Net
returns-in-Net t c = grind (arith, views)

pub returns-in-Parens : goal.returns-in-Parens
returns-in-Parens t c = grind (arith, views)

pub returns-in-Reduction : goal.returns-in-Reduction
returns-in-Reduction t c = grind (arith, views)

pub returns-in-Signed : goal.returns-in-Signed
returns-in-Signed t c = grind (arith, views)

pub returns-in-Tuple : goal.returns-in-Tuple
returns-in-Tuple t c = grind (arith, views)
