use Rattle.std.proofs.Common.{arith}
use Rattle.std.proofs.lemmas.Grind.{common_steps}
use Rattle.net_tree.proofs.Views.{views}
use Rattle.net_inst.proofs.node_name.name_in.Goals as goal

pub returns-in-Indexed : goal.returns-in-Indexed
returns-in-Indexed c = grind (arith, common_steps, views)

pub returns-in-Parens : goal.returns-in-Parens
returns-in-Parens c = grind (arith, common_steps, views)

pub returns-in-Signed : goal.returns-in-Signed
returns-in-Signed c = grind (arith, common_steps, views)

pub returns-in-If : goal.returns-in-If
returns-in-If c = grind (arith, common_steps, views)

pub returns-in-Leaf : goal.returns-in-Leaf
returns-in-Leaf c = grind (arith, common_steps, views)
