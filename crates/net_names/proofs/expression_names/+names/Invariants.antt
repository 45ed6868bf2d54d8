use Rattle.std.proofs.Common.{◌≡◌, ◌+◌, ◌*◌, drop}
use Rattle.net_tree.specs.View.{tree, links_of, braces_of, option_part}
use Rattle.net_tree.specs.Weights.{weight, weights, braces_weight, part_weight}
use Rattle.net_names.specs.Dummies.{with_items, with_components}
use Rattle.net_names.specs.Names.{links_fault, items_fault, further_fault}
use Rattle.net_names.proofs.expression_names.+names.Given as goal

abbrev pub decreases-check : goal.decreases-check
decreases-check l = 8 * weight (tree l.expr.now)

abbrev pub decreases-check_subscripts : goal.decreases-check_subscripts
decreases-check_subscripts l = 8 * (weight (tree l.first.now) + weights (links_of l.more.now)) + 3

abbrev pub decreases-check_series : goal.decreases-check_series
decreases-check_series l = 8 * (weight (tree l.first.now) + weights (links_of l.more.now)) + 2

abbrev pub decreases-check_links : goal.decreases-check_links
decreases-check_links l = 8 * weights (links_of l.links.now) + 1

abbrev pub decreases-check_choice : goal.decreases-check_choice
decreases-check_choice l = 8 * (weight (tree l.condition.now) + weight (tree l.branch.now) + part_weight (option_part l.otherwise.now)) + 2

abbrev pub decreases-check_part : goal.decreases-check_part
decreases-check_part l = 8 * part_weight (option_part l.part.now) + 1

abbrev pub decreases-check_braced : goal.decreases-check_braced
decreases-check_braced l = 8 * braces_weight (braces_of l.braces.now) + 2

abbrev pub decreases-check_reduced : goal.decreases-check_reduced
decreases-check_reduced l = 8 * (braces_weight (braces_of l.braces.now) + weight (tree l.body.now)) + 2

abbrev pub decreases-read_braces : goal.decreases-read_braces
decreases-read_braces l = 8 * braces_weight (braces_of l.braces.now) + 1

abbrev pub decreases-read_items : goal.decreases-read_items
decreases-read_items l = 8 * (weight (tree l.item.now) + weights (links_of l.more.now) + part_weight (option_part l.condition.now)) + 7

abbrev pub decreases-read_more : goal.decreases-read_more
decreases-read_more l = 8 * weights (links_of l.links.now) + 6

abbrev pub decreases-read_item : goal.decreases-read_item
decreases-read_item l = 8 * weight (tree l.item.now) + 5

abbrev pub decreases-read_sides : goal.decreases-read_sides
decreases-read_sides l = 8 * (weight (tree l.left.now) + weight (tree l.set.now)) + 6

abbrev pub decreases-check_left : goal.decreases-check_left
decreases-check_left l = 8 * weight (tree l.left.now) + 2

abbrev pub decreases-check_components : goal.decreases-check_components
decreases-check_components l = 8 * (weight (tree l.component.now) + weights (links_of l.more.now)) + 4

abbrev pub decreases-read_components : goal.decreases-read_components
decreases-read_components l = 8 * weights (links_of l.links.now) + 3

abbrev pub decreases-read_component : goal.decreases-read_component
decreases-read_component l = 8 * weight (tree l.component.now) + 2

abbrev pub decreases-check_component : goal.decreases-check_component
decreases-check_component l = 8 * weight (tree l.component.now) + 1

-- the fault of the links that are left is that of all, and the scope is as it was
abbrev pub invariant-check_links-loop-link : goal.invariant-check_links-loop-link
invariant-check_links-loop-link l = record {
  fault : links_fault l.need l.fn.scope (links_of (drop l.link-index l.links)) ≡ links_fault l.need l.fn.scope (links_of l.fn.links);
  kept : l.scope ≡ l.fn.scope;
}

abbrev pub invariant-read_more-loop-link : goal.invariant-read_more-loop-link
invariant-read_more-loop-link l = record {
  fault : items_fault l.need l.scope (links_of (drop l.link-index l.links)) ≡ items_fault l.need l.fn.scope (links_of l.fn.links);
  grown : with_items l.scope (links_of (drop l.link-index l.links)) ≡ with_items l.fn.scope (links_of l.fn.links);
}

abbrev pub invariant-read_components-loop-link : goal.invariant-read_components-loop-link
invariant-read_components-loop-link l = record {
  fault : further_fault l.need l.scope (links_of (drop l.link-index l.links)) ≡ further_fault l.need l.fn.scope (links_of l.fn.links);
  grown : with_components l.scope (links_of (drop l.link-index l.links)) ≡ with_components l.fn.scope (links_of l.fn.links);
}
