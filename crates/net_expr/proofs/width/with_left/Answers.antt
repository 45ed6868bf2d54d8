use Rattle.std.proofs.Common.{ap, arith}
use Rattle.std.proofs.lemmas.Grind.{common_steps}
use Rattle.net_expr.specs.Widths.{with_left}
use Rattle.net_expr.proofs.Cases.{in_tuple}
use Rattle.net_expr.proofs.Walking.{ok_by}
use Rattle.net_tree.proofs.Views.{views}
use Rattle.net_expr.proofs.width.with_left.Goals as goal

pub returns-in-Tuple : goal.returns-in-Tuple
returns-in-Tuple c =
    ok_by _ _ _ (ap (with_left c.args.env.now c.args.form) (in_tuple c.args.left.now c.in-Tuple.parts c.get.result.now c.as_slice.result.now c.in-Tuple.is c.get.ensures c.as_slice.ensures)) c.with_tuple.ensures

pub returns-in-If : goal.returns-in-If
returns-in-If c = grind (arith, common_steps, views)

pub returns-in-Braced : goal.returns-in-Braced
returns-in-Braced c = grind (arith, views)

pub returns-in-Leaf : goal.returns-in-Leaf
returns-in-Leaf c = grind (arith, views)
