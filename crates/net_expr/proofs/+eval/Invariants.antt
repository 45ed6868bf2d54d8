use Rattle.std.specs.Prelude.{length, ◌≡◌, ◌≤◌, ◌+◌, ◌*◌, ◌^◌, drop, [], ◌∷◌, None, IfSome, unsigned_abs}
use Rattle.std.specs.Vec.Iter.{into_iter_items, into_iter_len}
use Rattle.net_tree.specs.View.{tree, links_of, braces_of, option_part}
use Rattle.net_tree.specs.Weights.{weight, weights, braces_weight, part_weight}
use Rattle.net_tree.specs.Spans.{span_of}
use Rattle.net_tree.specs.declared.expr.Operands.{out-Operands}
use Rattle.net_expr.specs.Frames.{still, steps_still, weight_of}
use Rattle.net_base.specs.Outcomes.{and_then}
use Rattle.net_expr.specs.Rows.{filter_rows, gathered_over}
use Rattle.net_expr.specs.Operators.{tuple_of}
use Rattle.net_expr.specs.Values as values
use Rattle.net_expr.proofs.Subscripting.{rest}
use Rattle.net_expr.proofs.Framing.{still_below, steps_below, AreLight}
use Rattle.net_expr.proofs.+eval.Given as goal

abbrev pub decreases-eval::evaluate : goal.decreases-eval::evaluate
decreases-eval::evaluate l = 12 * weight (tree l.expr.now)

abbrev pub decreases-eval::subscripted : goal.decreases-eval::subscripted
decreases-eval::subscripted l = 12 * (weight (tree (out-Operands l.subscripts.now).first) + weights (links_of (out-Operands l.subscripts.now).more)) + 3

abbrev pub decreases-eval::tupled : goal.decreases-eval::tupled
decreases-eval::tupled l = 12 * (weight (tree (out-Operands l.components.now).first) + weights (links_of (out-Operands l.components.now).more)) + 3

abbrev pub decreases-subscripts::key_of : goal.decreases-subscripts::key_of
decreases-subscripts::key_of l = 12 * (weight (tree l.first.now) + weights (links_of l.more.now)) + 2

abbrev pub decreases-subscripts::put : goal.decreases-subscripts::put
decreases-subscripts::put l = 12 * weight (tree l.component.now) + 1

abbrev pub decreases-eval::is_met : goal.decreases-eval::is_met
decreases-eval::is_met l = 12 * weight (tree l.condition.now) + 1

abbrev pub decreases-eval::negated : goal.decreases-eval::negated
decreases-eval::negated l = 12 * weight (tree l.condition.now) + 2

abbrev pub decreases-eval::braced : goal.decreases-eval::braced
decreases-eval::braced l = 12 * braces_weight (braces_of l.braces.now) + 3

abbrev pub decreases-eval::signed : goal.decreases-eval::signed
decreases-eval::signed l = 12 * weight (tree l.operand.now) + 1

abbrev pub decreases-eval::reduced : goal.decreases-eval::reduced
decreases-eval::reduced l = 12 * (braces_weight (braces_of l.front.now.1) + weight (tree l.body.now)) + 3

abbrev pub decreases-eval::chain : goal.decreases-eval::chain
decreases-eval::chain l = 12 * (weight (tree (out-Operands l.operands.now).first) + weights (links_of (out-Operands l.operands.now).more)) + 3

abbrev pub decreases-eval::choice : goal.decreases-eval::choice
decreases-eval::choice l = 12 * (weight (tree l.condition.now) + weight (tree l.branches.first.now) + part_weight (option_part l.branches.otherwise.now)) + 2

abbrev pub decreases-eval::other_branch : goal.decreases-eval::other_branch
decreases-eval::other_branch l = 12 * part_weight (option_part l.otherwise.now) + 1

abbrev pub decreases-eval::evaluate_more : goal.decreases-eval::evaluate_more
decreases-eval::evaluate_more l = 12 * weights (links_of l.more.now) + 1

abbrev pub decreases-eval::chained : goal.decreases-eval::chained
decreases-eval::chained l = 12 * weights (links_of l.links.now) + 1

abbrev pub decreases-eval::joined : goal.decreases-eval::joined
decreases-eval::joined l = 12 * weight (tree l.link.now.operand) + 1

abbrev pub decreases-keys::index : goal.decreases-keys::index
decreases-keys::index l = 12 * braces_weight (braces_of l.braces.now)

abbrev pub decreases-keys::index_items : goal.decreases-keys::index_items
decreases-keys::index_items l = 12 * (weight (tree l.items.now.first.now) + weights (links_of l.items.now.more.now) + part_weight (option_part l.items.now.condition.now)) + 11

abbrev pub decreases-keys::open : goal.decreases-keys::open
decreases-keys::open l = 12 * (weight (tree l.items.now.first.now) + weights (links_of l.items.now.more.now) + part_weight (option_part l.items.now.condition.now)) + 10

abbrev pub decreases-keys::select : goal.decreases-keys::select
decreases-keys::select l = 12 * (weight (tree l.items.now.first.now) + weights (links_of l.items.now.more.now) + part_weight (option_part l.items.now.condition.now)) + 9

abbrev pub decreases-keys::collect : goal.decreases-keys::collect
decreases-keys::collect l = 12 * (weight (tree l.items.now.first.now) + weights (links_of l.items.now.more.now)) + 8

abbrev pub decreases-fitting::fit_all : goal.decreases-fitting::fit_all
decreases-fitting::fit_all l = 12 * (weight (tree l.components.first.now) + weights (links_of l.components.more.now)) + 2

abbrev pub decreases-keys::walk : goal.decreases-keys::walk
decreases-keys::walk l = 12 * weight_of l.first + 7

abbrev pub decreases-keys::onward : goal.decreases-keys::onward
decreases-keys::onward l = 12 * weights (links_of l.items.now) + 6

abbrev pub decreases-keys::entered : goal.decreases-keys::entered
decreases-keys::entered l = 12 * weight (tree l.item.now) + 3

abbrev pub decreases-keys::item_tuples : goal.decreases-keys::item_tuples
decreases-keys::item_tuples l = 12 * weight (tree l.item.now) + 2

abbrev pub decreases-keys::choose : goal.decreases-keys::choose
decreases-keys::choose l = 12 * weight (tree l.set.now) + 1

abbrev pub decreases-fitting::place_at : goal.decreases-fitting::place_at
decreases-fitting::place_at l = 12 * weight (tree l.item.now) + 1

abbrev pub decreases-fitting::left_place : goal.decreases-fitting::left_place
decreases-fitting::left_place l = 12 * weight (tree l.left.now) + 2

abbrev pub decreases-fitting::alone : goal.decreases-fitting::alone
decreases-fitting::alone l = 12 * weight (tree l.left.now) + 1

abbrev pub decreases-fitting::components : goal.decreases-fitting::components
decreases-fitting::components l = 12 * (weight (tree (out-Operands l.series.now).first) + weights (links_of (out-Operands l.series.now).more)) + 3

abbrev pub decreases-fitting::places : goal.decreases-fitting::places
decreases-fitting::places l = 12 * weights (links_of l.links.now)

abbrev pub decreases-fitting::fit : goal.decreases-fitting::fit
decreases-fitting::fit l = 12 * weight (tree l.component.now) + 1

abbrev pub decreases-keys::keep : goal.decreases-keys::keep
decreases-keys::keep l = 12 * part_weight (option_part l.condition.now) + 2

abbrev pub decreases-keys::holds : goal.decreases-keys::holds
decreases-keys::holds l = 12 * part_weight (option_part l.condition.now) + 1

abbrev pub decreases-eval::gather : goal.decreases-eval::gather
decreases-eval::gather l = 12 * weight (tree l.body.now) + 1

-- what is left, behind what was found, comes to the same as all
abbrev pub invariant-eval::evaluate_more-loop-link : goal.invariant-eval::evaluate_more-loop-link
invariant-eval::evaluate_more-loop-link l =
    values.values l.env l.scope (links_of (drop l.link-index l.more)) l.found.items ≡ values.values l.fn.env l.fn.scope (links_of l.fn.more) (l.fn.first ∷ [])

abbrev pub invariant-eval::chained-loop-link : goal.invariant-eval::chained-loop-link
invariant-eval::chained-loop-link l =
    values.chained (span_of (tree l.fn.whole)) l.fn.env l.fn.scope (links_of (drop l.link-index l.links)) l.value ≡ values.chained (span_of (tree l.fn.whole)) l.fn.env l.fn.scope (links_of l.fn.links) l.fn.value

-- what the item has still to give, and then those that were left before it, comes to the same as all
abbrev pub invariant-keys::walk-tuples : goal.invariant-keys::walk-tuples
invariant-keys::walk-tuples l = record {
  same : and_then (still l.fn.at l.fn.env l.top l.found.items) (still_below l.fn.at l.fn.env l.below.items) ≡ still l.fn.at l.fn.env l.fn.first l.fn.found.items;
  light : weight_of l.top ≤ weight_of l.fn.first;
  below : AreLight (weight_of l.fn.first) l.below.items;
}

abbrev pub decreases-keys::walk-tuples : goal.decreases-keys::walk-tuples
decreases-keys::walk-tuples l = steps_still l.fn.at l.fn.env l.top + steps_below l.fn.at l.fn.env l.below.items

abbrev pub invariant-keys::keep-loop-row : goal.invariant-keys::keep-loop-row
invariant-keys::keep-loop-row l = record {
  same : filter_rows (λ q. values.holds l.fn.at l.fn.env q (option_part l.fn.condition)) (into_iter_items l.row-iterator) l.kept.items
      ≡ filter_rows (λ q. values.holds l.fn.at l.fn.env q (option_part l.fn.condition)) l.fn.found [];
  counted : into_iter_len l.row-iterator ≡ length (into_iter_items l.row-iterator);
}

abbrev pub invariant-eval::gather-loop-row : goal.invariant-eval::gather-loop-row
invariant-eval::gather-loop-row l = record {
  same : gathered_over (span_of (tree l.fn.whole)) l.fn.reduction (λ q. values.value l.fn.env q (tree l.fn.body)) (drop l.row-index l.rows) l.so_far
      ≡ gathered_over (span_of (tree l.fn.whole)) l.fn.reduction (λ q. values.value l.fn.env q (tree l.fn.body)) l.fn.keys.rows None;
  small : IfSome l.so_far (λ a. unsigned_abs a ≤ l.row-index * 2 ^ 63);
}

-- the key of the subscripts so far and of those left is the key of all
abbrev pub invariant-subscripts::key_of-loop-link : goal.invariant-subscripts::key_of-loop-link
invariant-subscripts::key_of-loop-link l =
    rest (span_of (tree l.fn.whole)) l.fn.env l.fn.scope (links_of (drop l.link-index l.more)) l.so_far
    ≡ and_then (and_then (values.value l.fn.env l.fn.scope (tree l.fn.first)) (λ v. values.values l.fn.env l.fn.scope (links_of l.fn.more) (v ∷ []))) (tuple_of (span_of (tree l.fn.whole)))
