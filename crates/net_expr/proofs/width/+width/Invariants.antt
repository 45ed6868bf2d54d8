use Rattle.std.specs.Prelude.{◌≡◌, ◌+◌, ◌*◌, drop}
use Rattle.net_tree.specs.View.{tree, links_of, braces_of}
use Rattle.net_tree.specs.Weights.{weight, weights, braces_weight}
use Rattle.net_expr.specs.Widths as widths
use Rattle.net_expr.proofs.width.+width.Given as goal

abbrev pub decreases-tree_width : goal.decreases-tree_width
decreases-tree_width l = 6 * weight (tree l.expr.now)

abbrev pub decreases-chain_width : goal.decreases-chain_width
decreases-chain_width l = 6 * (weight (tree l.first.now) + weights (links_of l.more.now)) + 1

abbrev pub decreases-braces_width : goal.decreases-braces_width
decreases-braces_width l = 6 * braces_weight (braces_of l.braces.now)

abbrev pub decreases-filled_width : goal.decreases-filled_width
decreases-filled_width l = 6 * (weight (tree l.item.now) + weights (links_of l.more.now)) + 3

abbrev pub decreases-items_form : goal.decreases-items_form
decreases-items_form l = 6 * (weight (tree l.item.now) + weights (links_of l.more.now)) + 2

abbrev pub decreases-with_item : goal.decreases-with_item
decreases-with_item l = 6 * weight (tree l.item.now) + 1

abbrev pub invariant-chain_width-loop-link : goal.invariant-chain_width-loop-link
invariant-chain_width-loop-link l =
    widths.chain_width l.fn.env l.fn.scope l.so_far (links_of (drop l.link-index l.more)) ≡ widths.chain_width l.fn.env l.fn.scope (widths.width l.fn.env l.fn.scope (tree l.fn.first)) (links_of l.fn.more)

abbrev pub invariant-items_form-loop-link : goal.invariant-items_form-loop-link
invariant-items_form-loop-link l =
    widths.with_items l.fn.env l.form (links_of (drop l.link-index l.more)) ≡ widths.with_items l.fn.env (widths.with_item l.fn.env (widths.begin l.fn.scope) (tree l.fn.item)) (links_of l.fn.more)
