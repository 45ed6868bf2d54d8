use Rattle.std.proofs.Common.{ap, sym, ◌∙◌, ◌*◌, ◌+◌, drop, refl, arith}
use Rattle.std.proofs.lemmas.Grind.{common_steps}
use Rattle.std.proofs.lemmas.Result.{err_from_is_err_and}
use Rattle.net_tree.proofs.Views.{tree-tuple, tree-negated, views}
use Rattle.net_tree.specs.Spans.{span_of}
use Rattle.net_tree.specs.View.{tree}
use Rattle.net_expr.specs.declared.row.Row.{Row}
use Rattle.net_expr.proofs.Cases.{in_indexed, in_parens, in_signed, in_reduced, in_choice}
use Rattle.net_expr.proofs.Walking.{link_lighter}
use Rattle.net_linear.specs.Forms.{AreWithin}
use Rattle.net_linear.specs.Objectives.{objective, with_arcs}
use Rattle.net_linear.proofs.Converting.{answers_by, stops, goes, with-indexed, with-signed, with-reduced, with-choice, with-tuple, with-negated, rejects, chained-left, rows-left}
use Rattle.net_linear.proofs.FormSizes.{grown}
use Rattle.net_linear.proofs.objectives.+forms.Goals as goal

pub arcs_term-returns-in-Indexed : goal.arcs_term-returns-in-Indexed
arcs_term-returns-in-Indexed t c =
    answers_by _ _ _ (with-indexed c.args.among.now.arcs.now c.args.among.now.env.now c.args.among.now.scope.now (tree c.args.expr.now) _ _ _ _ _ (in_indexed c.args.expr.now c.in-Indexed.parts c.get.result.now _ c.in-Indexed.is c.get.ensures refl)) c.indexed.ensures

pub arcs_term-returns-in-Parens : goal.arcs_term-returns-in-Parens
arcs_term-returns-in-Parens t c =
    answers_by _ _ _ (ap (with_arcs c.args.among.now.arcs.now c.args.among.now.env.now c.args.among.now.scope.now) (in_parens c.args.expr.now c.in-Parens.parts c.get-in-Parens.result.now c.in-Parens.is c.get-in-Parens.ensures)) c.term_of.ensures

pub arcs_term-returns-in-Signed : goal.arcs_term-returns-in-Signed
arcs_term-returns-in-Signed t c =
    answers_by _ _ _ (with-signed c.args.among.now.arcs.now c.args.among.now.env.now c.args.among.now.scope.now (tree c.args.expr.now) _ _ (in_signed c.args.expr.now c.in-Signed.parts c.get-in-Signed.result.now c.in-Signed.is c.get-in-Signed.ensures)) c.signed.ensures

pub arcs_term-returns-in-Reduction : goal.arcs_term-returns-in-Reduction
arcs_term-returns-in-Reduction t c =
    answers_by _ _ _ (with-reduced c.args.among.now.arcs.now c.args.among.now.env.now c.args.among.now.scope.now (tree c.args.expr.now) _ _ _ (in_reduced c.args.expr.now c.in-Reduction.front c.get-in-Reduction.result.now c.in-Reduction.body c.get-in-Reduction-2.result.now c.in-Reduction.is c.get-in-Reduction.ensures c.get-in-Reduction-2.ensures)) c.reduced.ensures

pub arcs_term-returns-in-If : goal.arcs_term-returns-in-If
arcs_term-returns-in-If t c =
    answers_by _ _ _ (with-choice c.args.among.now.arcs.now c.args.among.now.env.now c.args.among.now.scope.now (tree c.args.expr.now) _ _ _ _ _ (in_choice c.args.expr.now c.in-If.condition c.in-If.branch c.get-in-If.result.now c.get-in-If-2.result.now c.in-If.otherwise c.in-If.is c.get-in-If.ensures c.get-in-If-2.ensures)) c.choice.ensures

pub arcs_term-returns-in-Tuple : goal.arcs_term-returns-in-Tuple
arcs_term-returns-in-Tuple t c =
    rejects _ c.reject_tree.result _ (with-tuple c.args.among.now.arcs.now c.args.among.now.env.now c.args.among.now.scope.now (tree c.args.expr.now) _ _ _ _ (ap tree c.in-Tuple.is ∙ tree-tuple c.in-Tuple.field-0.0 c.in-Tuple.field-0.1 c.in-Tuple.field-0.2)) c.reject_tree.ensures

pub arcs_term-returns-in-Negated : goal.arcs_term-returns-in-Negated
arcs_term-returns-in-Negated t c =
    rejects _ c.reject_tree-in-Negated.result _ (with-negated c.args.among.now.arcs.now c.args.among.now.env.now c.args.among.now.scope.now (tree c.args.expr.now) _ _ _ _ (ap tree c.in-Negated.is ∙ tree-negated c.in-Negated.field-0.0 c.in-Negated.field-0.1 c.in-Negated.field-0.2 c.in-Negated.field-0.3)) c.reject_tree-in-Negated.ensures

pub chained-joined-requires : goal.chained-joined-requires
chained-joined-requires t c = omega (arith, link_lighter c.args.links.now c.loop-link.link-index c.link-item.result c.loop-link-test.true c.link-item.is)

pub chained-returns-in_err-term : goal.chained-returns-in_err-term
chained-returns-in_err-term t c =
    let y = err_from_is_err_and c.from_residual.result c.from_residual.ensures.1 in
    rw y.1 (rw y.2
    (stops _ _ _ c.in_err-term.field-0.0
    (chained-left c.args.among.now.arcs.now (span_of (tree c.args.whole.now)) c.args.among.now.env.now c.args.among.now.scope.now c.args.links.now c.loop-link.link-index c.link-item.result c.loop-link.term _ c.loop-link-test.true c.link-item.is c.loop-link.invariant)
    c.in_err-term.ensures))

pub chained-loop-link-preserved : goal.chained-loop-link-preserved
chained-loop-link-preserved t c =
    sym (goes _ _ _ _
    (chained-left c.args.among.now.arcs.now (span_of (tree c.args.whole.now)) c.args.among.now.env.now c.args.among.now.scope.now c.args.links.now c.loop-link.link-index c.link-item.result c.loop-link.term _ c.loop-link-test.true c.link-item.is c.loop-link.invariant)
    c.in_ok-term.ensures)

pub total-loop-row-preserved : goal.total-loop-row-preserved
total-loop-row-preserved t c = record {
  same = sym (goes _ _ _ _
      (goes _ _ _ _
      (rows-left (span_of (tree c.args.whole.now)) (λ (row : Row). objective c.args.among.now.arcs.now c.args.among.now.env.now row.scope (tree c.args.body.now)) c.as_slice-rows.result.now c.loop-row.row-index c.row-item.result c.loop-row.sum _ c.loop-row-test.true c.row-item.is c.loop-row.invariant.same)
      c.in_ok-term.ensures)
      c.in_ok-sum.ensures.value);
  room = grown c.loop-row.row-index c.in_ok-sum.sum (c.in_ok-sum.ensures.room (c.loop-row.row-index * 1000000000000) c.loop-row.invariant.room);
}

pub chain-returns-else-is_linear : goal.chain-returns-else-is_linear
chain-returns-else-is_linear c = grind (arith, common_steps)

pub other_branch-returns-in-None : goal.other_branch-returns-in-None
other_branch-returns-in-None c = grind (arith, common_steps)

pub signed-returns : goal.signed-returns
signed-returns c = grind (arith, common_steps)

pub term_of-returns-then-names_arc : goal.term_of-returns-then-names_arc
term_of-returns-then-names_arc c = grind (arith, common_steps)

pub total-returns-in_err-term : goal.total-returns-in_err-term
total-returns-in_err-term c = grind (arith, common_steps)

pub choice-returns-then-names_arc : goal.choice-returns-then-names_arc
choice-returns-then-names_arc c = grind (arith, common_steps)

pub total-returns : goal.total-returns
total-returns c = grind (arith, common_steps)

pub choice-returns-then-holds : goal.choice-returns-then-holds
choice-returns-then-holds c = grind (arith, common_steps)

pub chain-returns-in_ok-term : goal.chain-returns-in_ok-term
chain-returns-in_ok-term c = grind (arith, common_steps)

pub reduced-returns-in_ok-keys : goal.reduced-returns-in_ok-keys
reduced-returns-in_ok-keys c = grind (arith, common_steps)

pub reduced-returns-else-is_sum : goal.reduced-returns-else-is_sum
reduced-returns-else-is_sum c = grind (arith, common_steps)

pub chained-returns : goal.chained-returns
chained-returns c = grind (arith, common_steps)

pub total-offset_bounds-rows-row-index : goal.total-offset_bounds-rows-row-index
total-offset_bounds-rows-row-index c = grind (arith, common_steps)

pub choice-returns-else-holds : goal.choice-returns-else-holds
choice-returns-else-holds c = grind (arith, common_steps)

pub chained-offset_bounds-links-link-index : goal.chained-offset_bounds-links-link-index
chained-offset_bounds-links-link-index c = grind (arith, common_steps)

pub total-returns-in_err-sum : goal.total-returns-in_err-sum
total-returns-in_err-sum c = grind (arith, common_steps)

pub arcs_term-chain-requires : goal.arcs_term-chain-requires
arcs_term-chain-requires t c = grind (arith, views)

pub arcs_term-choice-requires : goal.arcs_term-choice-requires
arcs_term-choice-requires t c = grind (arith, views)

pub arcs_term-reduced-requires : goal.arcs_term-reduced-requires
arcs_term-reduced-requires t c = grind (arith, views)

pub arcs_term-returns-in-Braced : goal.arcs_term-returns-in-Braced
arcs_term-returns-in-Braced t c = grind (arith, views)

pub arcs_term-returns-in-Chain : goal.arcs_term-returns-in-Chain
arcs_term-returns-in-Chain t c = grind (arith, views)

pub arcs_term-returns-in-Leaf : goal.arcs_term-returns-in-Leaf
arcs_term-returns-in-Leaf t c = grind (arith, views)

pub arcs_term-returns-in-Net : goal.arcs_term-returns-in-Net
arcs_term-returns-in-Net t c = grind (arith, views)

pub arcs_term-signed-requires : goal.arcs_term-signed-requires
arcs_term-signed-requires t c = grind (arith, views)

pub arcs_term-term_of-requires : goal.arcs_term-term_of-requires
arcs_term-term_of-requires t c = grind (arith, views)

pub other_branch-returns-in-Some : goal.other_branch-returns-in-Some
other_branch-returns-in-Some t c = grind (arith, views)

pub other_branch-term_of-requires : goal.other_branch-term_of-requires
other_branch-term_of-requires t c = grind (arith, views)

pub joined-returns : goal.joined-returns
joined-returns t c = grind (arith)

pub term_of-returns-in_ok-number : goal.term_of-returns-in_ok-number
term_of-returns-in_ok-number t c = grind (arith)

pub total-gather-requires : goal.total-gather-requires
total-gather-requires t c = grind (arith)
