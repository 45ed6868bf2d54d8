use Rattle.std.specs.Prelude.{◌≡◌, ◌≤◌, ◌+◌, ◌*◌, drop}
use Rattle.net_tree.specs.View.{tree, links_of, braces_of, option_part}
use Rattle.net_tree.specs.Weights.{weight, weights, braces_weight, part_weight}
use Rattle.net_linear.specs.Objectives.{any_arc}
use Rattle.net_linear.proofs.arc_names.+names.Given as goal

abbrev pub decreases-names_arc : goal.decreases-names_arc
decreases-names_arc l = 4 * weight (tree l.expr.now)

abbrev pub decreases-any_arc : goal.decreases-any_arc
decreases-any_arc l = 4 * (weight (tree l.first.now) + weights (links_of l.more.now)) + 2

abbrev pub decreases-links_arc : goal.decreases-links_arc
decreases-links_arc l = 4 * weights (links_of l.links.now) + 1

abbrev pub decreases-part_arc : goal.decreases-part_arc
decreases-part_arc l = 4 * part_weight (option_part l.part.now) + 1

abbrev pub decreases-braces_arc : goal.decreases-braces_arc
decreases-braces_arc l = 4 * braces_weight (braces_of l.braces.now)

abbrev pub invariant-links_arc-loop-link : goal.invariant-links_arc-loop-link
invariant-links_arc-loop-link l = any_arc l.arcs (links_of (drop l.link-index l.links)) ≡ any_arc l.fn.arcs (links_of l.fn.links)
