use Rattle.std.specs.Prelude.{◌≡◌, ◌≤◌, ◌+◌, ◌*◌, drop, pos}
use Rattle.net_tree.specs.View.{tree, links_of, option_part}
use Rattle.net_tree.specs.Weights.{weight, weights, part_weight}
use Rattle.net_tree.specs.Spans.{span_of}
use Rattle.net_tree.specs.declared.expr.Operands.{out-Operands}
use Rattle.net_linear.specs.Forms.{AreWithin, gathered_over, just}
use Rattle.net_linear.specs.Objectives as objectives
use Rattle.net_linear.proofs.objectives.+forms.Given as goal

abbrev pub decreases-term_of : goal.decreases-term_of
decreases-term_of l = 12 * weight (tree l.expr.now) + 1

abbrev pub decreases-arcs_term : goal.decreases-arcs_term
decreases-arcs_term l = 12 * weight (tree l.expr.now)

abbrev pub decreases-signed : goal.decreases-signed
decreases-signed l = 12 * weight (tree l.operand.now) + 2

abbrev pub decreases-reduced : goal.decreases-reduced
decreases-reduced l = 12 * weight (tree l.body.now) + 3

abbrev pub decreases-total : goal.decreases-total
decreases-total l = 12 * weight (tree l.body.now) + 2

abbrev pub decreases-chain : goal.decreases-chain
decreases-chain l = 12 * (weight (tree (out-Operands l.operands.now).first) + weights (links_of (out-Operands l.operands.now).more)) + 4

abbrev pub decreases-chained : goal.decreases-chained
decreases-chained l = 12 * weights (links_of l.links.now) + 3

abbrev pub decreases-joined : goal.decreases-joined
decreases-joined l = 12 * weight (tree l.link.now.operand) + 2

abbrev pub decreases-choice : goal.decreases-choice
decreases-choice l = 12 * (weight (tree l.branch.now) + part_weight (option_part l.otherwise.now)) + 3

abbrev pub decreases-other_branch : goal.decreases-other_branch
decreases-other_branch l = 12 * part_weight (option_part l.otherwise.now) + 2

abbrev pub invariant-chained-loop-link : goal.invariant-chained-loop-link
invariant-chained-loop-link l =
    objectives.chained l.fn.among.arcs.now (span_of (tree l.fn.whole)) l.fn.among.env.now l.fn.among.scope.now (links_of (drop l.link-index l.links)) l.term ≡ objectives.chained l.fn.among.arcs.now (span_of (tree l.fn.whole)) l.fn.among.env.now l.fn.among.scope.now (links_of l.fn.links) l.fn.first

abbrev pub invariant-total-loop-row : goal.invariant-total-loop-row
invariant-total-loop-row l = record {
  same : gathered_over (span_of (tree l.fn.whole)) (λ row. objectives.objective l.fn.among.arcs.now l.fn.among.env.now row.scope (tree l.fn.body)) (drop l.row-index l.rows) l.sum
      ≡ gathered_over (span_of (tree l.fn.whole)) (λ row. objectives.objective l.fn.among.arcs.now l.fn.among.env.now row.scope (tree l.fn.body)) l.fn.keys.rows (just (pos 0));
  room : AreWithin (l.row-index * 1000000000000) l.sum;
}
