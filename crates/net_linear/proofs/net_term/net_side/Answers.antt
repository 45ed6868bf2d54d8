use Rattle.std.proofs.Common.{arith}
use Rattle.std.proofs.lemmas.Grind.{common_steps}
use Rattle.net_tree.proofs.Views.{views}
use Rattle.net_linear.proofs.net_term.net_side.Goals as goal

pub returns-in-Leaf-2 : goal.returns-in-Leaf-2
returns-in-Leaf-2 c = grind (arith, common_steps, views)

pub returns-in-Leaf : goal.returns-in-Leaf
returns-in-Leaf c = grind (arith, common_steps, views)

pub returns-in-Negated-2 : goal.returns-in-Negated-2
returns-in-Negated-2 c = grind (arith, common_steps, views)

pub returns-in-Negated : goal.returns-in-Negated
returns-in-Negated c = grind (arith, common_steps, views)

pub returns-in-Negated-3 : goal.returns-in-Negated-3
returns-in-Negated-3 c = grind (arith, common_steps, views)

pub returns-in-Leaf-3 : goal.returns-in-Leaf-3
returns-in-Leaf-3 c = grind (arith, common_steps, views)

pub returns-in-Reduction : goal.returns-in-Reduction
returns-in-Reduction c = grind (arith, common_steps, views)

pub returns-in-Leaf-4 : goal.returns-in-Leaf-4
returns-in-Leaf-4 c = grind (arith, common_steps, views)

pub returns-in-Reduction-2 : goal.returns-in-Reduction-2
returns-in-Reduction-2 c = grind (arith, common_steps, views)

pub returns-in-Net : goal.returns-in-Net
returns-in-Net c = grind (arith, common_steps, views)

pub returns-in-Chain : goal.returns-in-Chain
returns-in-Chain c = grind (arith, common_steps, views)
