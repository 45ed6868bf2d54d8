use Rattle.std.proofs.Common.{ap, sym, subst, ◌∙◌, ◌&&◌, arith}
use Rattle.std.proofs.lemmas.Grind.{common_steps}
use Rattle.std.proofs.lemmas.Int.{to_z-of_z}
use mir.Syntax.{w128}
use Rattle.net_linear.proofs.Adding.{IsAdding, head_small, has_room, goes_on, missing}
use Rattle.net_linear.proofs.products.add_times.Goals as goal
use Rattle.net_linear.proofs.products.add_times.Goals.{in-Some+in_ok-here, in_default}

pub product_of-by-requires-clause-number : goal.product_of-by-requires-clause-number
product_of-by-requires-clause-number c =
    head_small c.args.left.now c.loop-index.left c.args.right.now c.args.factor.now c.loop-index.index c.loop-index.fits _ c.in-Some.coefficient.now c.loop-index.invariant c.in-Some.ensures

pub add_product-requires : goal.add_product-requires
add_product-requires c =
    has_room c.args.left.now c.loop-index.left c.args.right.now c.args.factor.now c.loop-index.index c.loop-index.fits c.in-Some.arc c.in-Some.coefficient.now _ c.loop-index.invariant c.in-Some.ensures c.requires.factor
    (to_z-of_z w128 c.product_of-by.result (record { sfits = c.product_of-by.type_inv }) ∙ c.product_of-by.ensures)

pub loop-index-preserved : goal.loop-index-preserved
loop-index-preserved c = elim c.match-entry.branch [
  | in-Some+in_ok-here w ↦
      subst (IsAdding c.args.left.now c.match-entry.left c.args.right.now c.args.factor.now _) (sym (w.fits-is ∙ w.both-fits.ensures))
      (goes_on c.args.left.now c.loop-index.left c.args.right.now c.match-entry.left c.args.factor.now c.loop-index.index c.loop-index.fits _ w.in-Some.arc w.in-Some.coefficient.now _ c.loop-index.invariant w.in-Some.ensures
      (to_z-of_z w128 w.product_of-by.result (record { sfits = w.product_of-by.type_inv }) ∙ w.product_of-by.ensures)
      w.in_ok-here.ensures.fits (w.left-is ∙ w.in_ok-here.ensures.adds))
  | in_default w ↦ missing c.args.right.now c.loop-index.index c.len-index-end.result c.len-index-end.ensures c.loop-index-test.true w.in_default.ensures
]

pub returns-clause-adds : goal.returns-clause-adds
returns-clause-adds c = grind (arith, common_steps)

pub returns-clause-fits : goal.returns-clause-fits
returns-clause-fits c = grind (arith, common_steps)
