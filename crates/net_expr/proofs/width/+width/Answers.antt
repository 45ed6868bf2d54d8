use Rattle.std.proofs.Common.{ap, sym, ◌∙◌, ◌+◌, drop, arith}
use Rattle.std.proofs.lemmas.Grind.{common_steps}
use Rattle.net_tree.specs.View.{links_of}
use Rattle.net_tree.proofs.Views.{next_link, views}
use Rattle.net_tree.specs.Operations.{operation}
use Rattle.net_expr.specs.Widths.{chain_width, combined, with_items}
use Rattle.net_expr.proofs.Walking.{link_lighter}
use Rattle.net_expr.proofs.width.+width.Goals as goal

pub chain_width-tree_width-requires-in-loop-link : goal.chain_width-tree_width-requires-in-loop-link
chain_width-tree_width-requires-in-loop-link t c = omega (arith, link_lighter c.args.more.now c.loop-link.link-index c.link-item.result c.loop-link-test.true c.link-item.is)

pub chain_width-loop-link-preserved : goal.chain_width-loop-link-preserved
chain_width-loop-link-preserved t c =
    ap (λ d. chain_width c.args.env.now c.args.scope.now d (links_of (drop (c.loop-link.link-index + 1) c.args.more.now)))
    (c.combined-so_far.ensures ∙ ap (λ o. combined o c.loop-link.so_far c.in_ok-operand.operand) c.op.ensures ∙ ap (combined (operation c.link-item.result.operator) c.loop-link.so_far) c.in_ok-operand.ensures)
    ∙ sym (ap (chain_width c.args.env.now c.args.scope.now c.loop-link.so_far) (next_link c.args.more.now c.loop-link.link-index c.link-item.result c.loop-link-test.true c.link-item.is))
    ∙ c.loop-link.invariant

pub items_form-with_item-requires-in-loop-link : goal.items_form-with_item-requires-in-loop-link
items_form-with_item-requires-in-loop-link t c = omega (arith, link_lighter c.args.more.now c.loop-link.link-index c.link-item.result c.loop-link-test.true c.link-item.is)

pub items_form-loop-link-preserved : goal.items_form-loop-link-preserved
items_form-loop-link-preserved t c =
    ap (λ f. with_items c.args.env.now f (links_of (drop (c.loop-link.link-index + 1) c.args.more.now))) c.in_ok-form-2.ensures
    ∙ sym (ap (with_items c.args.env.now c.loop-link.form) (next_link c.args.more.now c.loop-link.link-index c.link-item.result c.loop-link-test.true c.link-item.is))
    ∙ c.loop-link.invariant

pub tree_width-returns-in-Braced : goal.tree_width-returns-in-Braced
tree_width-returns-in-Braced t c = grind (arith, views)

pub tree_width-returns-in-Chain : goal.tree_width-returns-in-Chain
tree_width-returns-in-Chain t c = grind (arith, views)

pub tree_width-returns-in-If : goal.tree_width-returns-in-If
tree_width-returns-in-If t c = grind (arith, views)

pub tree_width-returns-in-Indexed : goal.tree_width-returns-in-Indexed
tree_width-returns-in-Indexed t c = grind (arith, views)

pub tree_width-returns-in-Leaf : goal.tree_width-returns-in-Leaf
tree_width-returns-in-Leaf t c = grind (arith, views)

pub tree_width-returns-in-Parens : goal.tree_width-returns-in-Parens
tree_width-returns-in-Parens t c = grind (arith, views)

pub tree_width-returns-in-Reduction : goal.tree_width-returns-in-Reduction
tree_width-returns-in-Reduction t c = grind (arith, views)

pub tree_width-returns-in-Tuple : goal.tree_width-returns-in-Tuple
tree_width-returns-in-Tuple t c = grind (arith, views)

pub braces_width-returns-in-Empty : goal.braces_width-returns-in-Empty
braces_width-returns-in-Empty t c = grind (arith, views)

pub braces_width-returns-in-Filled : goal.braces_width-returns-in-Filled
braces_width-returns-in-Filled t c = grind (arith, views)

pub tree_width-tree_width-requires : goal.tree_width-tree_width-requires
tree_width-tree_width-requires t c = grind (arith, views)

pub tree_width-tree_width-requires-in-If : goal.tree_width-tree_width-requires-in-If
tree_width-tree_width-requires-in-If t c = grind (arith, views)

pub tree_width-braces_width-requires : goal.tree_width-braces_width-requires
tree_width-braces_width-requires t c = grind (arith, views)

pub tree_width-chain_width-requires : goal.tree_width-chain_width-requires
tree_width-chain_width-requires t c = grind (arith, views)

pub braces_width-filled_width-requires : goal.braces_width-filled_width-requires
braces_width-filled_width-requires t c = grind (arith, views)

pub items_form-returns : goal.items_form-returns
items_form-returns c = grind (arith, common_steps)

pub chain_width-returns : goal.chain_width-returns
chain_width-returns c = grind (arith, common_steps)

pub chain_width-loop-link-init : goal.chain_width-loop-link-init
chain_width-loop-link-init c = grind (arith, common_steps)

pub filled_width-returns-else-is_set_form : goal.filled_width-returns-else-is_set_form
filled_width-returns-else-is_set_form c = grind (arith, common_steps)

pub chain_width-offset_bounds-more-link-index : goal.chain_width-offset_bounds-more-link-index
chain_width-offset_bounds-more-link-index c = grind (arith, common_steps)

pub items_form-bounds-more-link-index : goal.items_form-bounds-more-link-index
items_form-bounds-more-link-index c = grind (arith, common_steps)

pub tree_width-returns-in-Indexed-2 : goal.tree_width-returns-in-Indexed-2
tree_width-returns-in-Indexed-2 t c = grind (arith, views)

pub tree_width-returns-in-Indexed-3 : goal.tree_width-returns-in-Indexed-3
tree_width-returns-in-Indexed-3 t c = grind (arith, views)

pub tree_width-returns-in-Reduction-2 : goal.tree_width-returns-in-Reduction-2
tree_width-returns-in-Reduction-2 t c = grind (arith, views)

pub filled_width-returns-in_ok-form : goal.filled_width-returns-in_ok-form
filled_width-returns-in_ok-form t c = grind (arith)

pub with_item-returns-in-Some : goal.with_item-returns-in-Some
with_item-returns-in-Some t c = grind (arith)

pub chain_width-loop-link-smaller : goal.chain_width-loop-link-smaller
chain_width-loop-link-smaller t c = grind (arith)

pub items_form-loop-link-init : goal.items_form-loop-link-init
items_form-loop-link-init t c = grind (arith)

pub items_form-loop-link-smaller : goal.items_form-loop-link-smaller
items_form-loop-link-smaller t c = grind (arith)

pub items_form-offset_bounds-more-link-index : goal.items_form-offset_bounds-more-link-index
items_form-offset_bounds-more-link-index t c = grind (arith)

pub with_item-returns-in_ok-dimension-in-None : goal.with_item-returns-in_ok-dimension-in-None
with_item-returns-in_ok-dimension-in-None t c = grind (arith)
