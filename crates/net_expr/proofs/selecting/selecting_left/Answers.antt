use Rattle.std.proofs.Common.{◌∙◌, arith}
use Rattle.std.proofs.lemmas.Grind.{common_steps}
use Rattle.net_tree.specs.View.{tree}
use Rattle.net_expr.proofs.Cases.{in_tuple}
use Rattle.net_expr.proofs.Passing.{left-tuple}
use Rattle.net_tree.proofs.Views.{views}
use Rattle.net_expr.proofs.selecting.selecting_left.Goals as goal

pub returns-in-Tuple : goal.returns-in-Tuple
returns-in-Tuple c =
    c.selecting_first.ensures
    ∙ left-tuple c.args.env.now c.args.scope.now (tree c.args.left.now) _ _ _ _ (in_tuple c.args.left.now c.in-Tuple.parts c.get.result.now c.as_slice.result.now c.in-Tuple.is c.get.ensures c.as_slice.ensures)

pub returns-in-Leaf : goal.returns-in-Leaf
returns-in-Leaf c = grind (arith, common_steps, views)

pub returns-in-If : goal.returns-in-If
returns-in-If c = grind (arith, common_steps, views)

pub returns-in-Braced : goal.returns-in-Braced
returns-in-Braced c = grind (arith, common_steps, views)
