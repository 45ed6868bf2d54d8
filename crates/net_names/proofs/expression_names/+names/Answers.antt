use Rattle.std.proofs.Common.{◌≡◌, false, rules, sym, ap, ◌∙◌, ◌+◌, drop, arith}
use Rattle.std.proofs.lemmas.Grind.{common_steps}
use Rattle.std.proofs.lemmas.Result.{err_from_is_err_and}
use Rattle.net_tree.specs.View.{tree, links_of, braces_of}
use Rattle.net_tree.proofs.Views.{next_link, views}
use Rattle.net_names.specs.Dummies.{with_items, with_components}
use Rattle.net_names.specs.Items.{left_fault}
use Rattle.net_names.specs.Names.{tree_fault, links_fault, items_fault, further_fault, is_tuple}
use Rattle.net_names.proofs.Cases.{in_indexed, in_parens, in_tuple, in_negated, in_signed, in_reduced, in_choice}
use Rattle.net_names.proofs.Walking.{walking, reports_by, left_other, forgotten_braces, forgotten_components, link_lighter, links_left, items_left, components_left, after_none, stops_first}
use Rattle.net_names.proofs.expression_names.+names.Goals as goal

pub check-returns-in-Indexed-clause-value : goal.check-returns-in-Indexed-clause-value
check-returns-in-Indexed-clause-value t c =
    reports_by _ _ _ (ap (tree_fault c.args.need c.args.scope.now) (in_indexed c.args.expr.now c.in-Indexed.parts c.get.result.now c.as_slice.result.now c.in-Indexed.is c.get.ensures c.as_slice.ensures)) c.check_subscripts.ensures.value

pub check-returns-in-Parens-clause-value : goal.check-returns-in-Parens-clause-value
check-returns-in-Parens-clause-value t c =
    reports_by _ _ _ (ap (tree_fault c.args.need c.args.scope.now) (in_parens c.args.expr.now c.in-Parens.parts c.get-in-Parens.result.now c.in-Parens.is c.get-in-Parens.ensures)) c.check.ensures.value

pub check-returns-in-Tuple-clause-value : goal.check-returns-in-Tuple-clause-value
check-returns-in-Tuple-clause-value t c =
    reports_by _ _ _ (ap (tree_fault c.args.need c.args.scope.now) (in_tuple c.args.expr.now c.in-Tuple.parts c.get-in-Tuple.result.now c.as_slice-in-Tuple.result.now c.in-Tuple.is c.get-in-Tuple.ensures c.as_slice-in-Tuple.ensures)) c.check_series.ensures.value

pub check-returns-in-Negated-clause-value : goal.check-returns-in-Negated-clause-value
check-returns-in-Negated-clause-value t c =
    reports_by _ _ _ (ap (tree_fault c.args.need c.args.scope.now) (in_negated c.args.expr.now c.in-Negated.parts c.get-in-Negated.result.now c.in-Negated.is c.get-in-Negated.ensures)) c.check-in-Negated.ensures.value

pub check-returns-in-Signed-clause-value : goal.check-returns-in-Signed-clause-value
check-returns-in-Signed-clause-value t c =
    reports_by _ _ _ (ap (tree_fault c.args.need c.args.scope.now) (in_signed c.args.expr.now c.in-Signed.parts c.get-in-Signed.result.now c.in-Signed.is c.get-in-Signed.ensures)) c.check-in-Signed.ensures.value

pub check-returns-in-Reduction-clause-value : goal.check-returns-in-Reduction-clause-value
check-returns-in-Reduction-clause-value t c =
    reports_by _ _ _ (ap (tree_fault c.args.need c.args.scope.now) (in_reduced c.args.expr.now c.in-Reduction.parts c.get-in-Reduction.result.now c.in-Reduction.body c.get-in-Reduction-2.result.now c.in-Reduction.is c.get-in-Reduction.ensures c.get-in-Reduction-2.ensures)) c.check_reduced.ensures.value

pub check-returns-in-If-clause-value : goal.check-returns-in-If-clause-value
check-returns-in-If-clause-value t c =
    reports_by _ _ _ (ap (tree_fault c.args.need c.args.scope.now) (in_choice c.args.expr.now c.in-If.condition c.in-If.branch c.get-in-If.result.now c.get-in-If-2.result.now c.in-If.otherwise c.in-If.is c.get-in-If.ensures c.get-in-If-2.ensures)) c.check_choice.ensures.value

pub check_braced-returns-clause-kept : goal.check_braced-returns-clause-kept
check_braced-returns-clause-kept t c = c.forget_after.ensures ∙ forgotten_braces c.args.scope.now c.read_braces.new.scope (braces_of c.args.braces.now) c.len-known.result c.len-known.ensures c.in_ok-read_braces.ensures.grown

pub check_links-check-requires : goal.check_links-check-requires
check_links-check-requires t c = omega (arith, link_lighter c.args.links.now c.loop-link.link-index c.link-item.result c.loop-link-test.true c.link-item.is)

pub check_links-returns-in_err-check-clause-value : goal.check_links-returns-in_err-check-clause-value
check_links-returns-in_err-check-clause-value t c =
    let y = err_from_is_err_and c.from_residual.result c.from_residual.ensures.1 in
    rw y.1 (rw y.2
    (stops_first _ _ (links_fault c.args.need c.args.scope.now (links_of c.args.links.now)) c.in_err-check.field-0.0
    (links_left c.args.need c.args.scope.now c.loop-link.scope c.args.links.now c.loop-link.link-index c.link-item.result _ c.loop-link-test.true c.link-item.is c.loop-link.invariant.kept c.loop-link.invariant.fault)
    c.in_err-check.ensures.value))

pub check_links-loop-link-preserved : goal.check_links-loop-link-preserved
check_links-loop-link-preserved t c = record {
  fault =
      after_none _ _ (links_fault c.args.need c.args.scope.now (links_of c.args.links.now))
      (links_left c.args.need c.args.scope.now c.loop-link.scope c.args.links.now c.loop-link.link-index c.link-item.result _ c.loop-link-test.true c.link-item.is c.loop-link.invariant.kept c.loop-link.invariant.fault)
      c.in_ok-check.ensures.value;
  kept = c.in_ok-check.ensures.kept ∙ c.loop-link.invariant.kept;
}

pub check_left-returns-in-Tuple-clause-value : goal.check_left-returns-in-Tuple-clause-value
check_left-returns-in-Tuple-clause-value t c =
    reports_by _ _ _ (ap (left_fault c.args.need c.args.scope.now) (in_tuple c.args.left.now c.in-Tuple.parts c.get.result.now c.as_slice.result.now c.in-Tuple.is c.get.ensures c.as_slice.ensures)) c.check_components.ensures.value

pub check_left-returns-in-Leaf-clause-value : goal.check_left-returns-in-Leaf-clause-value
check_left-returns-in-Leaf-clause-value t c =
    let other : is_tuple (tree c.args.left.now) ≡ false = search (rules, views) in
    reports_by _ _ _ (left_other c.args.need c.args.scope.now (tree c.args.left.now) other) c.check_component.ensures.value

pub read_more-read_item-requires : goal.read_more-read_item-requires
read_more-read_item-requires t c = omega (arith, link_lighter c.args.links.now c.loop-link.link-index c.link-item.result c.loop-link-test.true c.link-item.is)

pub read_more-returns-in_err-read_item-clause-value : goal.read_more-returns-in_err-read_item-clause-value
read_more-returns-in_err-read_item-clause-value t c =
    let y = err_from_is_err_and c.from_residual.result c.from_residual.ensures.1 in
    rw y.1 (rw y.2
    (stops_first _ _ (items_fault c.args.need c.args.scope.now (links_of c.args.links.now)) c.in_err-read_item.field-0.0
    (items_left c.args.need c.loop-link.scope c.args.links.now c.loop-link.link-index c.link-item.result _ c.loop-link-test.true c.link-item.is c.loop-link.invariant.fault)
    c.in_err-read_item.ensures.value))

pub read_more-loop-link-preserved : goal.read_more-loop-link-preserved
read_more-loop-link-preserved t c = record {
  fault =
      ap (λ s. items_fault c.args.need s (links_of (drop (c.loop-link.link-index + 1) c.args.links.now))) c.in_ok-read_item.ensures.grown
      ∙ after_none _ _ (items_fault c.args.need c.args.scope.now (links_of c.args.links.now))
      (items_left c.args.need c.loop-link.scope c.args.links.now c.loop-link.link-index c.link-item.result _ c.loop-link-test.true c.link-item.is c.loop-link.invariant.fault)
      c.in_ok-read_item.ensures.value;
  grown =
      ap (λ s. with_items s (links_of (drop (c.loop-link.link-index + 1) c.args.links.now))) c.in_ok-read_item.ensures.grown
      ∙ sym (ap (with_items c.loop-link.scope) (next_link c.args.links.now c.loop-link.link-index c.link-item.result c.loop-link-test.true c.link-item.is))
      ∙ c.loop-link.invariant.grown;
}

pub read_components-read_component-requires : goal.read_components-read_component-requires
read_components-read_component-requires t c = omega (arith, link_lighter c.args.links.now c.loop-link.link-index c.link-item.result c.loop-link-test.true c.link-item.is)

pub read_components-returns-in_err-read_component-clause-value : goal.read_components-returns-in_err-read_component-clause-value
read_components-returns-in_err-read_component-clause-value t c =
    let y = err_from_is_err_and c.from_residual.result c.from_residual.ensures.1 in
    rw y.1 (rw y.2
    (stops_first _ _ (further_fault c.args.need c.args.scope.now (links_of c.args.links.now)) c.in_err-read_component.field-0.0
    (components_left c.args.need c.loop-link.scope c.args.links.now c.loop-link.link-index c.link-item.result _ c.loop-link-test.true c.link-item.is c.loop-link.invariant.fault)
    c.in_err-read_component.ensures.value))

pub read_components-loop-link-preserved : goal.read_components-loop-link-preserved
read_components-loop-link-preserved t c = record {
  fault =
      ap (λ s. further_fault c.args.need s (links_of (drop (c.loop-link.link-index + 1) c.args.links.now))) c.in_ok-read_component.ensures.grown
      ∙ after_none _ _ (further_fault c.args.need c.args.scope.now (links_of c.args.links.now))
      (components_left c.args.need c.loop-link.scope c.args.links.now c.loop-link.link-index c.link-item.result _ c.loop-link-test.true c.link-item.is c.loop-link.invariant.fault)
      c.in_ok-read_component.ensures.value;
  grown =
      ap (λ s. with_components s (links_of (drop (c.loop-link.link-index + 1) c.args.links.now))) c.in_ok-read_component.ensures.grown
      ∙ sym (ap (with_components c.loop-link.scope) (next_link c.args.links.now c.loop-link.link-index c.link-item.result c.loop-link-test.true c.link-item.is))
      ∙ c.loop-link.invariant.grown;
}

pub check_part-returns-in-Some-clause-kept : goal.check_part-returns-in-Some-clause-kept
check_part-returns-in-Some-clause-kept c = grind (arith, common_steps)

pub check-returns-in-Reduction-clause-kept : goal.check-returns-in-Reduction-clause-kept
check-returns-in-Reduction-clause-kept c = grind (arith, common_steps)

pub check_part-returns-in-None-clause-value : goal.check_part-returns-in-None-clause-value
check_part-returns-in-None-clause-value c = grind (arith, common_steps)

pub read_item-returns-in-None-clause-grown : goal.read_item-returns-in-None-clause-grown
read_item-returns-in-None-clause-grown c = grind (arith, common_steps)

pub check_component-returns-else-is_new-clause-kept : goal.check_component-returns-else-is_new-clause-kept
check_component-returns-else-is_new-clause-kept c = grind (arith, common_steps)

pub check_links-loop-link-init : goal.check_links-loop-link-init
check_links-loop-link-init c = grind (arith, common_steps)

pub check_series-returns-clause-value : goal.check_series-returns-clause-value
check_series-returns-clause-value c = grind (arith, common_steps)

pub read_sides-returns-clause-value : goal.read_sides-returns-clause-value
read_sides-returns-clause-value c = grind (arith, common_steps)

pub read_more-loop-link-smaller : goal.read_more-loop-link-smaller
read_more-loop-link-smaller c = grind (arith, common_steps)

pub check_links-returns-clause-kept : goal.check_links-returns-clause-kept
check_links-returns-clause-kept c = grind (arith, common_steps)

pub check_braced-returns-clause-value : goal.check_braced-returns-clause-value
check_braced-returns-clause-value c = grind (arith, common_steps)

pub check-returns-in-Leaf-clause-kept : goal.check-returns-in-Leaf-clause-kept
check-returns-in-Leaf-clause-kept c = grind (arith, common_steps)

pub read_more-offset_bounds-links-link-index : goal.read_more-offset_bounds-links-link-index
read_more-offset_bounds-links-link-index c = grind (arith, common_steps)

pub check-returns-in-Signed-clause-kept : goal.check-returns-in-Signed-clause-kept
check-returns-in-Signed-clause-kept c = grind (arith, common_steps)

pub read_components-offset_bounds-links-link-index : goal.read_components-offset_bounds-links-link-index
read_components-offset_bounds-links-link-index c = grind (arith, common_steps)

pub check_component-returns-else-is_new-clause-value : goal.check_component-returns-else-is_new-clause-value
check_component-returns-else-is_new-clause-value c = grind (arith, common_steps)

pub check_components-returns-clause-value : goal.check_components-returns-clause-value
check_components-returns-clause-value c = grind (arith, common_steps)

pub check_reduced-returns-clause-value : goal.check_reduced-returns-clause-value
check_reduced-returns-clause-value c = grind (arith, common_steps)

pub check_component-returns-then-is_new-clause-value : goal.check_component-returns-then-is_new-clause-value
check_component-returns-then-is_new-clause-value c = grind (arith, common_steps)

pub check_series-returns-clause-kept : goal.check_series-returns-clause-kept
check_series-returns-clause-kept c = grind (arith, common_steps)

pub read_components-returns-clause-value : goal.read_components-returns-clause-value
read_components-returns-clause-value c = grind (arith, common_steps)

pub check_choice-returns-clause-kept : goal.check_choice-returns-clause-kept
check_choice-returns-clause-kept c = grind (arith, common_steps)

pub check_left-returns-in-Leaf-clause-kept : goal.check_left-returns-in-Leaf-clause-kept
check_left-returns-in-Leaf-clause-kept c = grind (arith, common_steps)

pub check_choice-returns-clause-value : goal.check_choice-returns-clause-value
check_choice-returns-clause-value c = grind (arith, common_steps)

pub read_components-returns-clause-grown : goal.read_components-returns-clause-grown
read_components-returns-clause-grown c = grind (arith, common_steps)

pub check_subscripts-returns-clause-value : goal.check_subscripts-returns-clause-value
check_subscripts-returns-clause-value c = grind (arith, common_steps)

pub read_component-returns-clause-grown : goal.read_component-returns-clause-grown
read_component-returns-clause-grown c = grind (arith, common_steps)

pub check-returns-in-Parens-clause-kept : goal.check-returns-in-Parens-clause-kept
check-returns-in-Parens-clause-kept c = grind (arith, common_steps)

pub check_subscripts-returns-clause-kept : goal.check_subscripts-returns-clause-kept
check_subscripts-returns-clause-kept c = grind (arith, common_steps)

pub read_sides-returns-clause-grown : goal.read_sides-returns-clause-grown
read_sides-returns-clause-grown c = grind (arith, common_steps)

pub read_items-returns-clause-grown : goal.read_items-returns-clause-grown
read_items-returns-clause-grown c = grind (arith, common_steps)

pub read_more-returns-clause-value : goal.read_more-returns-clause-value
read_more-returns-clause-value c = grind (arith, common_steps)

pub read_more-returns-clause-grown : goal.read_more-returns-clause-grown
read_more-returns-clause-grown c = grind (arith, common_steps)

pub check_links-offset_bounds-links-link-index : goal.check_links-offset_bounds-links-link-index
check_links-offset_bounds-links-link-index c = grind (arith, common_steps)

pub read_more-loop-link-init : goal.read_more-loop-link-init
read_more-loop-link-init c = grind (arith, common_steps)

pub check_links-returns-clause-value : goal.check_links-returns-clause-value
check_links-returns-clause-value c = grind (arith, common_steps)

pub check-returns-in-Indexed-clause-kept : goal.check-returns-in-Indexed-clause-kept
check-returns-in-Indexed-clause-kept c = grind (arith, common_steps)

pub read_item-returns-in-Some-clause-value : goal.read_item-returns-in-Some-clause-value
read_item-returns-in-Some-clause-value c = grind (arith, common_steps)

pub check-returns-in-Tuple-clause-kept : goal.check-returns-in-Tuple-clause-kept
check-returns-in-Tuple-clause-kept c = grind (arith, common_steps)

pub read_components-loop-link-init : goal.read_components-loop-link-init
read_components-loop-link-init c = grind (arith, common_steps)

pub read_components-loop-link-smaller : goal.read_components-loop-link-smaller
read_components-loop-link-smaller c = grind (arith, common_steps)

pub check-returns-in-Negated-clause-kept : goal.check-returns-in-Negated-clause-kept
check-returns-in-Negated-clause-kept c = grind (arith, common_steps)

pub read_component-returns-clause-value : goal.read_component-returns-clause-value
read_component-returns-clause-value c = grind (arith, common_steps)

pub check_left-returns-in-Tuple-clause-kept : goal.check_left-returns-in-Tuple-clause-kept
check_left-returns-in-Tuple-clause-kept c = grind (arith, common_steps)

pub read_items-returns-clause-value : goal.read_items-returns-clause-value
read_items-returns-clause-value c = grind (arith, common_steps)

pub read_item-returns-in-Some-clause-grown : goal.read_item-returns-in-Some-clause-grown
read_item-returns-in-Some-clause-grown c = grind (arith, common_steps)

pub check-returns-in-Braced-clause-kept : goal.check-returns-in-Braced-clause-kept
check-returns-in-Braced-clause-kept c = grind (arith, common_steps)

pub read_item-returns-in-None-clause-value : goal.read_item-returns-in-None-clause-value
read_item-returns-in-None-clause-value c = grind (arith, common_steps)

pub check_links-loop-link-smaller : goal.check_links-loop-link-smaller
check_links-loop-link-smaller c = grind (arith, common_steps)

pub check-check_choice-requires : goal.check-check_choice-requires
check-check_choice-requires c = grind (arith, common_steps, views, walking)

pub check-check_series-requires : goal.check-check_series-requires
check-check_series-requires c = grind (arith, common_steps, views, walking)

pub check-check_series-requires-in-Chain : goal.check-check_series-requires-in-Chain
check-check_series-requires-in-Chain c = grind (arith, common_steps, views, walking)

pub check-check_subscripts-requires : goal.check-check_subscripts-requires
check-check_subscripts-requires c = grind (arith, common_steps, views, walking)

pub check-check_reduced-requires : goal.check-check_reduced-requires
check-check_reduced-requires c = grind (arith, common_steps, views, walking)

pub read_braces-read_items-requires : goal.read_braces-read_items-requires
read_braces-read_items-requires c = grind (arith, common_steps, views, walking)

pub check_left-check_components-requires : goal.check_left-check_components-requires
check_left-check_components-requires c = grind (arith, common_steps, views, walking)

pub check_components-returns-clause-kept : goal.check_components-returns-clause-kept
check_components-returns-clause-kept t c =
    c.forget_after.ensures
    ∙ forgotten_components c.args.scope.now c.read_component.new.scope c.read_components.new.scope (tree c.args.component.now) (links_of c.args.more.now) c.len-before.result c.len-before.ensures c.in_ok-read_component.ensures.grown c.in_ok-read_components.ensures.grown

pub check_reduced-returns-clause-kept : goal.check_reduced-returns-clause-kept
check_reduced-returns-clause-kept t c =
    c.forget_after.ensures
    ∙ forgotten_braces c.args.scope.now c.check.new.scope (braces_of c.args.braces.now) c.len-outside.result c.len-outside.ensures (c.in_ok-check.ensures.kept ∙ c.in_ok-read_braces.ensures.grown)

pub check-check-requires-in-Negated : goal.check-check-requires-in-Negated
check-check-requires-in-Negated c = grind (arith, common_steps, views, walking)

pub check-check-requires-in-Signed : goal.check-check-requires-in-Signed
check-check-requires-in-Signed c = grind (arith, common_steps, views, walking)

pub check-check-requires : goal.check-check-requires
check-check-requires c = grind (arith, common_steps, views, walking)

pub check-check_braced-requires : goal.check-check_braced-requires
check-check_braced-requires c = grind (arith, common_steps, views, walking)

pub read_braces-check_part-requires : goal.read_braces-check_part-requires
read_braces-check_part-requires c = grind (arith, common_steps, views, walking)

pub check-returns-in-Net-clause-value : goal.check-returns-in-Net-clause-value
check-returns-in-Net-clause-value c = grind (arith, common_steps, views, walking)

pub check_part-check-requires : goal.check_part-check-requires
check_part-check-requires c = grind (arith, common_steps, views, walking)

pub check-returns-in-Chain-clause-value : goal.check-returns-in-Chain-clause-value
check-returns-in-Chain-clause-value c = grind (arith, common_steps, views, walking)

pub read_braces-returns-in-Filled-clause-grown : goal.read_braces-returns-in-Filled-clause-grown
read_braces-returns-in-Filled-clause-grown c = grind (arith, common_steps, views, walking)

pub read_braces-returns-in-Filled-clause-value : goal.read_braces-returns-in-Filled-clause-value
read_braces-returns-in-Filled-clause-value c = grind (arith, common_steps, views, walking)

pub check-returns-in-Braced-clause-value : goal.check-returns-in-Braced-clause-value
check-returns-in-Braced-clause-value c = grind (arith, common_steps, views, walking)

pub check-returns-in-Leaf-clause-value : goal.check-returns-in-Leaf-clause-value
check-returns-in-Leaf-clause-value c = grind (arith, common_steps, views, walking)

pub read_braces-returns-in-Empty-clause-grown : goal.read_braces-returns-in-Empty-clause-grown
read_braces-returns-in-Empty-clause-grown c = grind (arith, common_steps, views, walking)

pub read_braces-returns-in-Empty-clause-value : goal.read_braces-returns-in-Empty-clause-value
read_braces-returns-in-Empty-clause-value c = grind (arith, common_steps, views, walking)

pub check_part-returns-in-Some-clause-value : goal.check_part-returns-in-Some-clause-value
check_part-returns-in-Some-clause-value c = grind (arith, common_steps, views, walking)
