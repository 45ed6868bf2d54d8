use Rattle.std.proofs.Common.{arith}
use Rattle.std.proofs.lemmas.Grind.{common_steps}
use Rattle.net_tree.proofs.Views.{views}
use Rattle.net_names.proofs.Cases.{in_tuple}
use Rattle.net_names.proofs.name_scope.add_left.Goals as goal

pub returns-in-Signed-2 : goal.returns-in-Signed-2
returns-in-Signed-2 c = grind (arith, common_steps, views)

pub returns-in-Signed : goal.returns-in-Signed
returns-in-Signed c = grind (arith, common_steps, views)

pub returns-in-If : goal.returns-in-If
returns-in-If c = grind (arith, common_steps, views)

pub returns-in-Indexed : goal.returns-in-Indexed
returns-in-Indexed c = grind (arith, common_steps, views)

pub returns-in-Leaf : goal.returns-in-Leaf
returns-in-Leaf c = grind (arith, common_steps, views)

pub returns-in-Signed-3 : goal.returns-in-Signed-3
returns-in-Signed-3 c = grind (arith, common_steps, views)

pub returns-in-Indexed-4 : goal.returns-in-Indexed-4
returns-in-Indexed-4 c = grind (arith, common_steps, views)

pub returns-in-Indexed-3 : goal.returns-in-Indexed-3
returns-in-Indexed-3 c = grind (arith, common_steps, views)

pub returns-in-If-2 : goal.returns-in-If-2
returns-in-If-2 c = grind (arith, common_steps, views)

pub returns-in-Indexed-2 : goal.returns-in-Indexed-2
returns-in-Indexed-2 c = grind (arith, common_steps, views)

pub returns-in-Tuple : goal.returns-in-Tuple
returns-in-Tuple c = rw (in_tuple c.args.left.now c.in-Tuple.parts c.get.result.now c.as_slice.result.now c.in-Tuple.is c.get.ensures c.as_slice.ensures) c.add_tuple.ensures
