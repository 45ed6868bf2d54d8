use Rattle.std.specs.Prelude.{List}
use Rattle.net_tree.specs.declared.expr.LinkedOperand.{LinkedOperand}
use Rattle.std.proofs.Common.{◌≡◌, ◌*◌, ◌^◌, ◌∷◌, ◌++◌, [], false, rules, refl, Ok, length, take, ◌-◌, sym, subst, ap, ◌∙◌, ◌+◌, drop, arith}
use Rattle.std.proofs.lemmas.Grind.{common_steps}
use Rattle.std.proofs.lemmas.Result.{err_from_is_err_and}
use Rattle.std.specs.Vec.Iter.{into_iter_items}
use Rattle.net_tree.specs.declared.expr.Operands.{out-Operands}
use Rattle.net_tree.specs.View.{tree, links_of, option_part}
use Rattle.net_tree.proofs.Views.{views}
use Rattle.net_tree.specs.Spans.{span_of}
use Rattle.net_base.specs.Outcomes.{and_then}
use Rattle.net_expr.specs.Rows.{filter_rows, match_component, match_whole, reduce, reduced_to, keys}
use Rattle.net_expr.specs.Operators.{tuple_of}
use Rattle.net_expr.specs.Subscripts.{with_value}
use Rattle.net_expr.specs.Worlds.{bound, name_at}
use Rattle.net_expr.specs.Values.{value, values, index, places, holds, with_sign}
use Rattle.net_tree.specs.Tree.{link}
use Rattle.net_tree.specs.Weights.{weights}
use Rattle.net_expr.specs.Walks.{joined, by_sides, index_items, component_places}
use Rattle.net_expr.proofs.Cases.{in_indexed, in_parens, in_tuple, in_negated, in_signed, in_reduced, in_chain, in_choice, in_filled}
use Rattle.net_expr.proofs.Walking.{answers_by, and_then-assoc, is_tuple, value-indexed, value-tuple, value-negated, value-signed, value-reduced, value-chain, value-choice, index-filled, left-tuple, left-other, place-sides, link_lighter, stops, goes, leaves_answers, from_start, ok_same, split_first, rest_first, chained-left, values-left, kept-next, kept-all, gathered-left, if_some_by, unconditioned}
use Rattle.net_expr.specs.Frames.{weight_of}
use Rattle.net_expr.proofs.Framing.{AreLight, none_to_come, one_to_come, no_frames, light_last, light_apart, lighter_still, after_first, entering_stops, entering_leads, entering_lighter, entering_steps, ended, gives_way, led, to_item, fault_of_place, way_shorter, item_shorter}
use Rattle.net_expr.proofs.Passing.{selected_from}
use Rattle.net_expr.proofs.Subscripting.{dummy_value, from_none, one-left, none-left, answers_decided}
use Rattle.net_expr.proofs.+eval.Goals as goal

pub eval::evaluate-returns-in-Indexed : goal.eval::evaluate-returns-in-Indexed
eval::evaluate-returns-in-Indexed t c =
    answers_by _ _ _ (value-indexed c.args.env.now c.args.scope.now (tree c.args.expr.now) _ _ _ _ _ (in_indexed c.args.expr.now c.in-Indexed.parts c.get.result.now _ c.in-Indexed.is c.get.ensures refl)) c.subscripted.ensures

pub eval::evaluate-returns-in-Parens : goal.eval::evaluate-returns-in-Parens
eval::evaluate-returns-in-Parens t c =
    answers_by _ _ _ (ap (value c.args.env.now c.args.scope.now) (in_parens c.args.expr.now c.in-Parens.parts c.get-in-Parens.result.now c.in-Parens.is c.get-in-Parens.ensures)) c.evaluate.ensures

pub eval::evaluate-returns-in-Tuple : goal.eval::evaluate-returns-in-Tuple
eval::evaluate-returns-in-Tuple t c =
    answers_by _ _ _ (value-tuple c.args.env.now c.args.scope.now (tree c.args.expr.now) _ _ _ _ (in_tuple c.args.expr.now c.in-Tuple.parts c.get-in-Tuple.result.now _ c.in-Tuple.is c.get-in-Tuple.ensures refl)) c.tupled.ensures

pub eval::evaluate-returns-in-Negated : goal.eval::evaluate-returns-in-Negated
eval::evaluate-returns-in-Negated t c =
    answers_by _ _ _ (value-negated c.args.env.now c.args.scope.now (tree c.args.expr.now) _ _ _ _ (in_negated c.args.expr.now c.in-Negated.parts c.get-in-Negated.result.now c.in-Negated.is c.get-in-Negated.ensures)) c.negated.ensures

pub eval::evaluate-returns-in-Signed : goal.eval::evaluate-returns-in-Signed
eval::evaluate-returns-in-Signed t c =
    answers_by _ _ _ (value-signed c.args.env.now c.args.scope.now (tree c.args.expr.now) _ _ (in_signed c.args.expr.now c.in-Signed.parts c.get-in-Signed.result.now c.in-Signed.is c.get-in-Signed.ensures)) c.signed.ensures

pub eval::evaluate-returns-in-Reduction : goal.eval::evaluate-returns-in-Reduction
eval::evaluate-returns-in-Reduction t c =
    answers_by _ _ _ (value-reduced c.args.env.now c.args.scope.now (tree c.args.expr.now) _ _ _ (in_reduced c.args.expr.now c.in-Reduction.front c.get-in-Reduction.result.now c.in-Reduction.body c.get-in-Reduction-2.result.now c.in-Reduction.is c.get-in-Reduction.ensures c.get-in-Reduction-2.ensures)) c.reduced.ensures

pub eval::evaluate-returns-in-Chain : goal.eval::evaluate-returns-in-Chain
eval::evaluate-returns-in-Chain t c =
    answers_by _ _ _ (value-chain c.args.env.now c.args.scope.now (tree c.args.expr.now) _ _ _ (in_chain c.args.expr.now _ c.in-Chain.operands c.get-in-Chain.result.now _ c.in-Chain.is c.get-in-Chain.ensures refl)) c.chain.ensures

pub eval::evaluate-returns-in-If : goal.eval::evaluate-returns-in-If
eval::evaluate-returns-in-If t c =
    answers_by _ _ _ (value-choice c.args.env.now c.args.scope.now (tree c.args.expr.now) _ _ _ _ _ (in_choice c.args.expr.now c.in-If.condition c.in-If.branch c.get-in-If.result.now c.get-in-If-2.result.now c.in-If.otherwise c.in-If.is c.get-in-If.ensures c.get-in-If-2.ensures)) c.choice.ensures

pub fitting::left_place-returns-in-Tuple : goal.fitting::left_place-returns-in-Tuple
fitting::left_place-returns-in-Tuple t c =
    answers_by _ _ _ (left-tuple _ c.args.env.now (tree c.args.left.now) _ _ _ _ _ c.args.tuple.now c.args.partial.now (in_tuple c.args.left.now c.in-Tuple.parts c.get.result.now _ c.in-Tuple.is c.get.ensures refl)) c.components.ensures

pub fitting::left_place-returns-in-Leaf : goal.fitting::left_place-returns-in-Leaf
fitting::left_place-returns-in-Leaf t c =
    let other : is_tuple (tree c.args.left.now) ≡ false = search (rules, views) in
    answers_by _ _ _ (left-other _ c.args.env.now (tree c.args.left.now) _ c.args.tuple.now c.args.partial.now other) c.alone-in-Leaf.ensures

pub fitting::left_place-returns-in-Braced : goal.fitting::left_place-returns-in-Braced
fitting::left_place-returns-in-Braced t c =
    let other : is_tuple (tree c.args.left.now) ≡ false = search (rules, views) in
    answers_by _ _ _ (left-other _ c.args.env.now (tree c.args.left.now) _ c.args.tuple.now c.args.partial.now other) c.alone-in-Braced.ensures

pub keys::index-returns-in-Filled : goal.keys::index-returns-in-Filled
keys::index-returns-in-Filled t c =
    let first = (out-Operands c.in-Filled.series).first in
    answers_by _ _ _
    (ap (index c.args.env.now c.args.scope.now) (in_filled c.args.braces.now c.in-Filled.open c.in-Filled.series c.in-Filled.condition c.in-Filled.close c.as_slice.result.now c.in-Filled.is c.as_slice.ensures)
    ∙ index-filled c.args.env.now c.args.scope.now c.in-Filled.open (tree first) (links_of c.as_slice.result.now) (option_part c.in-Filled.condition) c.in-Filled.close
    ∙ ap (λ at. index_items at c.args.env.now c.args.scope.now (tree first) (links_of c.as_slice.result.now) (option_part c.in-Filled.condition)) (sym c.span_between-in-Filled.ensures))
    c.index_items.ensures

pub eval::chained-joined-requires : goal.eval::chained-joined-requires
eval::chained-joined-requires t c = omega (arith, link_lighter c.args.links.now c.loop-link.link-index c.link-item.result c.loop-link-test.true c.link-item.is)

pub eval::evaluate_more-evaluate-requires : goal.eval::evaluate_more-evaluate-requires
eval::evaluate_more-evaluate-requires t c = omega (arith, link_lighter c.args.more.now c.loop-link.link-index c.link-item.result c.loop-link-test.true c.link-item.is)

pub eval::chained-returns-in_err-value : goal.eval::chained-returns-in_err-value
eval::chained-returns-in_err-value t c =
    let y = err_from_is_err_and c.from_residual.result c.from_residual.ensures.1 in
    rw y.1 (rw y.2
    (stops _ _ _ c.in_err-value.field-0.0
    (chained-left _ c.args.env.now c.args.scope.now c.args.links.now c.loop-link.link-index c.link-item.result c.loop-link.value _ c.loop-link-test.true c.link-item.is c.loop-link.invariant)
    c.in_err-value.ensures))

pub eval::chained-loop-link-preserved : goal.eval::chained-loop-link-preserved
eval::chained-loop-link-preserved t c =
    sym (goes _ _ _ _
    (chained-left _ c.args.env.now c.args.scope.now c.args.links.now c.loop-link.link-index c.link-item.result c.loop-link.value _ c.loop-link-test.true c.link-item.is c.loop-link.invariant)
    c.in_ok-value.ensures)

pub eval::evaluate_more-returns-in_err-value : goal.eval::evaluate_more-returns-in_err-value
eval::evaluate_more-returns-in_err-value t c =
    let y = err_from_is_err_and c.from_residual-in_err-value.result c.from_residual-in_err-value.ensures.1 in
    rw y.1 (rw y.2
    (stops _ _ _ c.in_err-value.field-0.0
    (values-left c.args.env.now c.args.scope.now c.args.more.now c.loop-link.link-index c.link-item.result c.loop-link.found.items _ c.loop-link-test.true c.link-item.is c.loop-link.invariant)
    c.in_err-value.ensures))

pub eval::evaluate_more-loop-link-preserved : goal.eval::evaluate_more-loop-link-preserved
eval::evaluate_more-loop-link-preserved t c =
    ap (values c.args.env.now c.args.scope.now (links_of (drop (c.loop-link.link-index + 1) c.args.more.now))) c.in_ok-push-2.ensures.items
    ∙ sym (goes _ _ _ _
    (values-left c.args.env.now c.args.scope.now c.args.more.now c.loop-link.link-index c.link-item.result c.loop-link.found.items _ c.loop-link-test.true c.link-item.is c.loop-link.invariant)
    c.in_ok-value.ensures)

pub keys::onward-entered-requires : goal.keys::onward-entered-requires
keys::onward-entered-requires t c = omega (arith, ap weights (rest_first c.args.items.now c.link-item.result c.in-len1-up.len_at_least c.link-item.is))

pub keys::onward-returns-in_err-frame-in-len1-up-clause-leads : goal.keys::onward-returns-in_err-frame-in-len1-up-clause-leads
keys::onward-returns-in_err-frame-in-len1-up-clause-leads t c =
    let y = err_from_is_err_and c.from_residual-in_err-frame-in-len1-up.result c.from_residual-in_err-frame-in-len1-up.ensures.1 in
    rw y.1 (rw y.2
    (entering_stops c.args.at c.args.env.now c.args.items.now c.link-item.result c.args.partial c.in-Some.partial c.args.found.now.items _ c.in_err-frame-in-len1-up.field-0.0 c.in-Some.is c.in-len1-up.len_at_least c.link-item.is c.in_err-frame-in-len1-up.ensures))

pub keys::onward-returns-in_ok-frame-in-len1-up-clause-leads : goal.keys::onward-returns-in_ok-frame-in-len1-up-clause-leads
keys::onward-returns-in_ok-frame-in-len1-up-clause-leads t c =
    entering_leads c.args.at c.args.env.now c.args.items.now c.link-item.result c.args.partial c.in-Some.partial c.args.found.now.items _ c.in_ok-frame-in-len1-up.frame c.in-Some.is c.in-len1-up.len_at_least c.link-item.is (λ ts. refl) c.in_ok-frame-in-len1-up.ensures

pub keys::onward-returns-in_ok-frame-in-len1-up-clause-lighter : goal.keys::onward-returns-in_ok-frame-in-len1-up-clause-lighter
keys::onward-returns-in_ok-frame-in-len1-up-clause-lighter t c =
    entering_lighter c.args.at c.args.env.now c.args.items.now c.link-item.result c.in-Some.partial _ c.in_ok-frame-in-len1-up.frame c.in-len1-up.len_at_least c.link-item.is (λ ts. refl) c.in_ok-frame-in-len1-up.ensures

pub keys::onward-returns-in_ok-frame-in-len1-up-clause-steps : goal.keys::onward-returns-in_ok-frame-in-len1-up-clause-steps
keys::onward-returns-in_ok-frame-in-len1-up-clause-steps t c =
    entering_steps c.args.at c.args.env.now c.args.items.now c.link-item.result c.args.partial c.in-Some.partial _ c.in_ok-frame-in-len1-up.frame c.in-Some.is c.in-len1-up.len_at_least c.link-item.is (λ ts. refl) c.in_ok-frame-in-len1-up.ensures

pub keys::walk-returns-in-None-pop : goal.keys::walk-returns-in-None-pop
keys::walk-returns-in-None-pop t c =
    ended c.args.at c.args.env.now c.tuples.top c.tuples.below.items c.tuples.found.items _ c.tuples.invariant.same
    (none_to_come c.tuples.top.left _ c.first.ensures c.in-None.is)
    (no_frames c.tuples.below.items (sym c.tuples.below.ok.0 ∙ c.in-None-pop.ensures.cases.0))

pub keys::walk-tuples-smaller-in-Some-pop : goal.keys::walk-tuples-smaller-in-Some-pop
keys::walk-tuples-smaller-in-Some-pop t c =
    way_shorter c.args.at c.args.env.now c.tuples.top c.in-Some-pop.frame c.tuples.below.items c.pop.new.self.items
    (none_to_come c.tuples.top.left _ c.first.ensures c.in-None.is)
    c.in-Some-pop.ensures.items

pub keys::walk-tuples-preserved-in-Some-pop : goal.keys::walk-tuples-preserved-in-Some-pop
keys::walk-tuples-preserved-in-Some-pop t c =
    let apart = light_apart (weight_of c.args.first) c.pop.new.self.items c.in-Some-pop.frame (subst (AreLight (weight_of c.args.first)) c.in-Some-pop.ensures.items c.tuples.invariant.below) in
    record {
      same = gives_way c.args.at c.args.env.now c.tuples.top c.in-Some-pop.frame c.tuples.below.items c.pop.new.self.items c.tuples.found.items _ c.tuples.invariant.same (none_to_come c.tuples.top.left _ c.first.ensures c.in-None.is) c.in-Some-pop.ensures.items;
      light = apart.1;
      below = apart.0;
    }

pub keys::walk-returns-in_err-next-in-Some : goal.keys::walk-returns-in_err-next-in-Some
keys::walk-returns-in_err-next-in-Some t c =
    let y = err_from_is_err_and c.from_residual.result c.from_residual.ensures.1 in
    rw y.1 (rw y.2
    (fault_of_place c.args.at c.args.env.now c.tuples.top c.in-Some.tuple c.tuples.below.items c.tuples.found.items _ _ c.in_err-next-in-Some.field-0.0 c.tuples.invariant.same
    (one_to_come c.tuples.top.left _ c.in-Some.tuple c.first.ensures c.in-Some.is)
    c.in_err-next-in-Some.ensures))

pub keys::walk-tuples-smaller : goal.keys::walk-tuples-smaller
keys::walk-tuples-smaller t c =
    item_shorter c.args.at c.args.env.now c.tuples.top c.in-Some-2.deeper c.in-Some.tuple c.in_ok-next-in-Some.next c.in_ok-onward-in-Some.field-0 c.tuples.below.items c.push.new.self.items
    (one_to_come c.tuples.top.left _ c.in-Some.tuple c.first.ensures c.in-Some.is)
    c.in_ok-next-in-Some.ensures c.in_ok-onward-in-Some.ensures.steps c.in-Some-2.is
    (c.in_ok-push-in-Some-2.ensures.items ∙ ap (λ left. c.tuples.below.items ++ (record c.tuples.top { left = left }) ∷ []) c.pass.ensures)

pub keys::walk-tuples-preserved : goal.keys::walk-tuples-preserved
keys::walk-tuples-preserved t c =
    let pushed = c.in_ok-push-in-Some-2.ensures.items ∙ ap (λ left. c.tuples.below.items ++ (record c.tuples.top { left = left }) ∷ []) c.pass.ensures in
    record {
      same = to_item c.args.at c.args.env.now (after_first c.tuples.top) c.in-Some-2.deeper _ c.in_ok-onward-in-Some.field-0 c.tuples.below.items c.push.new.self.items c.onward.new.found.items _
          (led c.args.at c.args.env.now c.tuples.top c.in-Some.tuple c.in_ok-next-in-Some.next c.tuples.below.items c.tuples.found.items _ c.tuples.invariant.same (one_to_come c.tuples.top.left _ c.in-Some.tuple c.first.ensures c.in-Some.is) c.in_ok-next-in-Some.ensures)
          c.in_ok-onward-in-Some.ensures.leads c.in-Some-2.is pushed;
      light = lighter_still (weight_of c.args.first) c.tuples.top c.in-Some-2.deeper c.in_ok-onward-in-Some.field-0 c.tuples.invariant.light c.in_ok-onward-in-Some.ensures.lighter c.in-Some-2.is;
      below = subst (AreLight (weight_of c.args.first)) (sym pushed) (light_last (weight_of c.args.first) c.tuples.below.items (after_first c.tuples.top) c.tuples.invariant.below c.tuples.invariant.light);
    }

pub keys::collect-returns-in_err-walk : goal.keys::collect-returns-in_err-walk
keys::collect-returns-in_err-walk t c =
    let y = err_from_is_err_and c.from_residual-in_err-walk.result c.from_residual-in_err-walk.ensures.1 in
    rw y.1 (rw y.2
    (leaves_answers _ _ c.in_err-walk.field-0.0 _
    (from_start c.args.items.now.at c.args.env.now (tree c.args.items.now.first.now) (links_of c.args.items.now.more.now) c.args.scope.now c.in_ok-partial.partial c.args.tuples _ (ok_same _ _ _ _ refl refl c.in_ok-partial.ensures) c.new-found.ensures.items
    ∙ sym (selected_from c.args.env.now (tree c.args.items.now.first.now) _ c.in_ok-partial.partial c.args.tuples c.selected-left.result _ c.selected-left.ensures))
    c.in_err-walk.ensures))

pub keys::collect-returns : goal.keys::collect-returns
keys::collect-returns t c =
    from_start c.args.items.now.at c.args.env.now (tree c.args.items.now.first.now) (links_of c.args.items.now.more.now) c.args.scope.now c.in_ok-partial.partial c.args.tuples _ (ok_same _ _ _ _ refl refl c.in_ok-partial.ensures) c.new-found.ensures.items
    ∙ sym (selected_from c.args.env.now (tree c.args.items.now.first.now) _ c.in_ok-partial.partial c.args.tuples c.selected-left.result _ c.selected-left.ensures)
    ∙ c.in_ok-walk.ensures ∙ ap Ok (sym c.new.ensures)

pub fitting::places-fit_all-requires : goal.fitting::places-fit_all-requires
fitting::places-fit_all-requires t c = omega (arith, ap weights (rest_first c.args.links.now c.link-item.result c.in-len1-up.len_at_least c.link-item.is))

pub fitting::places-returns-in-len1-up-members : goal.fitting::places-returns-in-len1-up-members
fitting::places-returns-in-len1-up-members t c =
    answers_by _ _ _
    (ap (λ k. places (span_of (tree c.args.whole.now)) c.args.env.now k c.args.members.now c.args.partial) (rest_first c.args.links.now c.link-item.result c.in-len1-up.len_at_least c.link-item.is)
    ∙ ap (λ ms. places (span_of (tree c.args.whole.now)) c.args.env.now (link c.link-item.result.operator (tree c.link-item.result.operand) (links_of (take (length c.args.links.now - 1) (drop 1 c.args.links.now)))) ms c.args.partial)
    (split_first c.args.members.now c.member-item.result c.in-len1-up-members.len_at_least c.member-item.is))
    c.fit_all.ensures

pub fitting::place_at-returns-in-Some : goal.fitting::place_at-returns-in-Some
fitting::place_at-returns-in-Some t c =
    answers_by _ _ _ (place-sides c.args.env.now (tree c.args.item.now) (tree c.in-Some.left.now) _ c.args.tuple.now c.args.partial.now c.in-Some.ensures) c.left_place.ensures

pub keys::keep-loop-row-preserved : goal.keys::keep-loop-row-preserved
keys::keep-loop-row-preserved t c =
    let left = ap length c.in-Some.ensures.steps.0 in
    let more = c.in-Some.ensures.steps.1 in
    let counted = c.loop-row.invariant.counted in
    record {
      same =
          sym (goes _ _ _ _
          (kept-next (λ q. holds c.args.at c.args.env.now q (option_part c.args.condition.now)) (into_iter_items c.loop-row.row-iterator) (into_iter_items c.next.new.self) c.in-Some.row c.loop-row.kept.items _ c.in-Some.ensures.steps.0 c.loop-row.invariant.same)
          (c.in_ok-keep_if.ensures _ c.holds-holds.ensures));
      counted = omega (arith, left, more, counted);
    }

pub keys::keep-returns-then-not-has_part : goal.keys::keep-returns-then-not-has_part
keys::keep-returns-then-not-has_part t c = unconditioned c.args.at c.args.env.now (option_part c.args.condition.now) c.args.width c.args.found (sym c.has_part.ensures ∙ c.if-not-has_part.true) ∙ ap Ok (sym c.as_keys.ensures)

pub keys::keep-returns-in_err-keep_if : goal.keys::keep-returns-in_err-keep_if
keys::keep-returns-in_err-keep_if t c =
    let y = err_from_is_err_and c.from_residual.result c.from_residual.ensures.1 in
    rw y.1 (rw y.2
    (stops _ (λ left. Ok (keys c.args.width left)) _ c.in_err-keep_if.field-0.0 refl
    (stops _ _ _ c.in_err-keep_if.field-0.0
    (kept-next (λ q. holds c.args.at c.args.env.now q (option_part c.args.condition.now)) (into_iter_items c.loop-row.row-iterator) (into_iter_items c.next.new.self) c.in-Some.row c.loop-row.kept.items _ c.in-Some.ensures.steps.0 c.loop-row.invariant.same)
    (leaves_answers _ _ c.in_err-keep_if.field-0.0 _ refl (c.in_err-keep_if.ensures _ c.holds-holds.ensures)))))

pub eval::gather-returns-in_err-so_far : goal.eval::gather-returns-in_err-so_far
eval::gather-returns-in_err-so_far t c =
    let y = err_from_is_err_and c.from_residual.result c.from_residual.ensures.1 in
    rw y.1 (rw y.2
    (stops _ (reduced_to (span_of (tree c.args.whole.now)) c.args.reduction) _ c.in_err-so_far.field-0.0 refl
    (stops _ _ _ c.in_err-so_far.field-0.0
    (gathered-left (span_of (tree c.args.whole.now)) c.args.reduction (λ q. value c.args.env.now q (tree c.args.body.now)) c.as_slice-rows.result.now c.loop-row.row-index c.row-item.result c.loop-row.so_far _ c.loop-row-test.true c.row-item.is c.loop-row.invariant.same)
    (c.in_err-so_far.ensures.value _ c.evaluate-value.ensures))))

pub eval::gather-loop-row-preserved : goal.eval::gather-loop-row-preserved
eval::gather-loop-row-preserved t c =
    record {
      same =
          sym (goes _ _ _ _
          (gathered-left (span_of (tree c.args.whole.now)) c.args.reduction (λ q. value c.args.env.now q (tree c.args.body.now)) c.as_slice-rows.result.now c.loop-row.row-index c.row-item.result c.loop-row.so_far _ c.loop-row-test.true c.row-item.is c.loop-row.invariant.same)
          (c.in_ok-so_far.ensures.value _ c.evaluate-value.ensures));
      small = if_some_by c.in_ok-so_far.so_far (c.loop-row.row-index * 2 ^ 63 + 2 ^ 63) ((c.loop-row.row-index + 1) * 2 ^ 63) (omega arith) (c.in_ok-so_far.ensures.small (c.loop-row.row-index * 2 ^ 63) c.loop-row.invariant.small);
    }

pub fitting::components-returns-in_ok-here-in-len1-up : goal.fitting::components-returns-in_ok-here-in-len1-up
fitting::components-returns-in_ok-here-in-len1-up t c =
    answers_by _ _ _
    (ap (λ ms. component_places (span_of (tree c.args.whole.now)) c.args.env.now (tree (out-Operands c.args.series.now).first) (links_of (out-Operands c.args.series.now).more) ms c.args.partial.now)
    (sym c.as_slice.ensures.members ∙ split_first c.as_slice.result.now c.member-item.result c.in-len1-up.len_at_least c.member-item.is)
    ∙ ap
    (component_places (span_of (tree c.args.whole.now)) c.args.env.now (tree (out-Operands c.args.series.now).first) (links_of (out-Operands c.args.series.now).more) (c.member-item.result ∷ take (length c.as_slice.result.now - 1) (drop 1 c.as_slice.result.now)))
    (sym c.in_ok-here-in-len1-up.ensures)
    ∙ ap (λ (m : List LinkedOperand). component_places (span_of (tree c.args.whole.now)) c.args.env.now (tree (out-Operands c.args.series.now).first) (links_of m) (c.member-item.result ∷ take (length c.as_slice.result.now - 1) (drop 1 c.as_slice.result.now)) c.in_ok-here-in-len1-up.here) (sym c.as_slice-in-len1-up.ensures))
    c.fit_all.ensures

pub eval::is_met-returns : goal.eval::is_met-returns
eval::is_met-returns t c = c.truth_of.ensures _ c.evaluate.ensures

pub eval::negated-returns : goal.eval::negated-returns
eval::negated-returns t c = c.as_denial.ensures _ c.is_met.ensures

pub eval::signed-returns : goal.eval::signed-returns
eval::signed-returns t c =
    answers_by _ _ _ (ap (λ b. and_then (value c.args.env.now c.args.scope.now (tree c.args.operand.now)) (with_sign (span_of (tree c.args.whole.now)) b)) (sym c.is_minus.ensures)) (c.with_sign.ensures _ c.evaluate-value.ensures)

pub eval::chain-returns-then-begins_range : goal.eval::chain-returns-then-begins_range
eval::chain-returns-then-begins_range t c =
    let listed = c.range_of.ensures _ c.evaluate_more.ensures in search (rules, listed)

pub fitting::alone-returns-in-None : goal.fitting::alone-returns-in-None
fitting::alone-returns-in-None t c =
    answers_by _ _ _
    (ap (λ o. match_whole (span_of (tree c.args.item.now)) o (value c.args.env.now c.args.partial.now.scope (tree c.args.left.now)) c.args.tuple.now c.args.partial.now) (sym c.in-None.ensures))
    (c.matches_as_tuple.ensures _ c.evaluate-value.ensures)

pub fitting::fit-returns-in-None : goal.fitting::fit-returns-in-None
fitting::fit-returns-in-None t c =
    answers_by _ _ _
    (ap (λ o. match_component (span_of (tree c.args.whole.now)) o (value c.args.env.now c.args.partial.scope (tree c.args.component.now)) c.args.member.now c.args.partial) (sym c.in-None.ensures))
    (c.matches_member.ensures _ c.evaluate-value.ensures)

pub keys::choose-returns : goal.keys::choose-returns
keys::choose-returns t c = c.chosen.ensures _ c.evaluate.ensures

pub keys::holds-returns-in-Some : goal.keys::holds-returns-in-Some
keys::holds-returns-in-Some t c =
    let reported = c.truth_at.ensures _ c.evaluate.ensures in search (rules, views, reported)

pub keys::item_tuples-returns-in-None : goal.keys::item_tuples-returns-in-None
keys::item_tuples-returns-in-None t c =
    answers_by _ _ _ (ap (by_sides c.args.at c.args.env.now c.args.scope.now (tree c.args.item.now)) (sym c.in-None.ensures)) (c.tuples_of.ensures _ c.evaluate.ensures)

pub keys::open-returns-in_err-tuples : goal.keys::open-returns-in_err-tuples
keys::open-returns-in_err-tuples t c =
    let reported = c.in_err-tuples.ensures (Ok c.args.value) refl in search (rules, reported)

pub keys::open-returns-in_ok-tuples : goal.keys::open-returns-in_ok-tuples
keys::open-returns-in_ok-tuples t c =
    let reported = c.in_ok-tuples.ensures (Ok c.args.value) refl in search (rules, reported)

pub keys::open-returns-else-is_set : goal.keys::open-returns-else-is_set
keys::open-returns-else-is_set t c =
    let reported = c.listed.ensures _ c.evaluate_more-found.ensures in search (rules, reported)

pub eval::chained-loop-link-init : goal.eval::chained-loop-link-init
eval::chained-loop-link-init t c = grind (arith, common_steps)

pub eval::chained-returns : goal.eval::chained-returns
eval::chained-returns t c = grind (arith, common_steps)

pub eval::evaluate_more-loop-link-init : goal.eval::evaluate_more-loop-link-init
eval::evaluate_more-loop-link-init t c = grind (arith, common_steps)

pub eval::evaluate_more-returns : goal.eval::evaluate_more-returns
eval::evaluate_more-returns t c = grind (arith, common_steps)

pub eval::gather-loop-row-init : goal.eval::gather-loop-row-init
eval::gather-loop-row-init t c = grind (arith, common_steps)

pub eval::gather-returns : goal.eval::gather-returns
eval::gather-returns t c = grind (arith, common_steps)

pub keys::keep-loop-row-init : goal.keys::keep-loop-row-init
keys::keep-loop-row-init t c =
    let begins = c.into_iter-row-iterator.ensures.into_iter_gives.0 ∙ c.into_vec-row-items.ensures in
    record {
      same = ap (λ rows. filter_rows (λ q. holds c.args.at c.args.env.now q (option_part c.args.condition.now)) rows c.new-kept.result.items) begins ∙ ap (filter_rows (λ q. holds c.args.at c.args.env.now q (option_part c.args.condition.now)) c.args.found) c.new-kept.ensures.items;
      counted = c.into_iter-row-iterator.ensures.into_iter_gives.1 ∙ c.into_vec-row-items.result.ok.0 ∙ ap length (sym c.into_iter-row-iterator.ensures.into_iter_gives.0);
    }

pub keys::keep-returns : goal.keys::keep-returns
keys::keep-returns t c =
    let all = kept-all (λ q. holds c.args.at c.args.env.now q (option_part c.args.condition.now)) (into_iter_items c.loop-row.row-iterator) c.loop-row.kept.items _ (sym c.loop-row.invariant.counted ∙ c.in-None.ensures.steps.0) c.loop-row.invariant.same in
    search (rules, all)

pub keys::select-returns : goal.keys::select-returns
keys::select-returns t c = grind (arith, common_steps)

pub keys::select-returns-in_err-found : goal.keys::select-returns-in_err-found
keys::select-returns-in_err-found t c = grind (arith, common_steps)

pub keys::select-returns-in_err-width : goal.keys::select-returns-in_err-width
keys::select-returns-in_err-width t c = grind (arith, common_steps)

pub eval::evaluate-subscripted-requires : goal.eval::evaluate-subscripted-requires
eval::evaluate-subscripted-requires t c = grind (arith, views)

pub eval::evaluate-evaluate-requires : goal.eval::evaluate-evaluate-requires
eval::evaluate-evaluate-requires t c = grind (arith, views)

pub eval::evaluate-tupled-requires : goal.eval::evaluate-tupled-requires
eval::evaluate-tupled-requires t c = grind (arith, views)

pub eval::evaluate-negated-requires : goal.eval::evaluate-negated-requires
eval::evaluate-negated-requires t c = grind (arith, views)

pub eval::evaluate-braced-requires : goal.eval::evaluate-braced-requires
eval::evaluate-braced-requires t c = grind (arith, views)

pub eval::evaluate-signed-requires : goal.eval::evaluate-signed-requires
eval::evaluate-signed-requires t c = grind (arith, views)

pub eval::evaluate-reduced-requires : goal.eval::evaluate-reduced-requires
eval::evaluate-reduced-requires t c = grind (arith, views)

pub eval::evaluate-chain-requires : goal.eval::evaluate-chain-requires
eval::evaluate-chain-requires t c = grind (arith, views)

pub eval::evaluate-choice-requires : goal.eval::evaluate-choice-requires
eval::evaluate-choice-requires t c = grind (arith, views)

pub eval::other_branch-evaluate-requires : goal.eval::other_branch-evaluate-requires
eval::other_branch-evaluate-requires t c = grind (arith, views)

pub keys::index-index_items-requires : goal.keys::index-index_items-requires
keys::index-index_items-requires t c = grind (arith, views)

pub keys::holds-evaluate-requires : goal.keys::holds-evaluate-requires
keys::holds-evaluate-requires t c = grind (arith, views)

pub fitting::left_place-components-requires : goal.fitting::left_place-components-requires
fitting::left_place-components-requires t c = grind (arith, views)

pub eval::evaluate-returns-in-Braced : goal.eval::evaluate-returns-in-Braced
eval::evaluate-returns-in-Braced t c = grind (arith, views)

pub eval::evaluate-returns-in-Leaf : goal.eval::evaluate-returns-in-Leaf
eval::evaluate-returns-in-Leaf t c = grind (arith, views)

pub eval::evaluate-returns-in-Net : goal.eval::evaluate-returns-in-Net
eval::evaluate-returns-in-Net t c = grind (arith, views)

pub eval::other_branch-returns-in-Some : goal.eval::other_branch-returns-in-Some
eval::other_branch-returns-in-Some t c = grind (arith, views)

pub fitting::left_place-returns-in-If : goal.fitting::left_place-returns-in-If
fitting::left_place-returns-in-If t c = grind (arith, views)

pub fitting::places-returns-in-empty : goal.fitting::places-returns-in-empty
fitting::places-returns-in-empty t c = grind (arith, common_steps)

pub keys::index-returns-in-Empty : goal.keys::index-returns-in-Empty
keys::index-returns-in-Empty t c = grind (arith, views)

pub eval::braced-returns : goal.eval::braced-returns
eval::braced-returns t c = grind (arith)

pub eval::chain-returns-else-begins_range : goal.eval::chain-returns-else-begins_range
eval::chain-returns-else-begins_range t c = grind (arith)

pub eval::choice-returns-else-branch : goal.eval::choice-returns-else-branch
eval::choice-returns-else-branch t c = grind (arith)

pub eval::choice-returns-then-branch : goal.eval::choice-returns-then-branch
eval::choice-returns-then-branch t c = grind (arith)

pub eval::reduced-returns : goal.eval::reduced-returns
eval::reduced-returns t c =
    answers_by _ _ _
    (goes _ _ _ _ refl c.in_ok-keys.ensures
    ∙ ap (λ r. reduce (span_of (tree c.args.whole.now)) r (λ q. value c.args.env.now q (tree c.args.body.now)) c.in_ok-keys.keys) (sym c.reduction.ensures))
    c.gather.ensures

pub eval::subscripted-returns : goal.eval::subscripted-returns
eval::subscripted-returns t c =
    answers_by _ _ _
    (goes _ _ _ _
    (sym (and_then-assoc (and_then (value c.args.env.now c.args.scope.now (tree (out-Operands c.args.subscripts.now).first)) (λ v. values c.args.env.now c.args.scope.now (links_of (out-Operands c.args.subscripts.now).more) (v ∷ []))) (tuple_of (span_of (tree c.args.whole.now))) (name_at (span_of (tree c.args.whole.now)) c.args.env.now c.args.name.now.text (bound c.args.scope.now c.args.name.now.text))))
    (ap (λ (m : List LinkedOperand). and_then (and_then (value c.args.env.now c.args.scope.now (tree (out-Operands c.args.subscripts.now).first)) (λ v. values c.args.env.now c.args.scope.now (links_of m) (v ∷ []))) (tuple_of (span_of (tree c.args.whole.now)))) (sym c.as_slice.ensures)
    ∙ c.in_ok-key.ensures)
    ∙ ap (λ at. name_at at c.args.env.now c.args.name.now.text (bound c.args.scope.now c.args.name.now.text) c.in_ok-key.key) (sym c.span_of.ensures))
    c.name_at.ensures

pub fitting::components-returns-in-empty : goal.fitting::components-returns-in-empty
fitting::components-returns-in-empty t c = grind (arith)

pub fitting::fit-returns-in-Some : goal.fitting::fit-returns-in-Some
fitting::fit-returns-in-Some t c = grind (arith)

pub fitting::fit_all-returns-in-Err : goal.fitting::fit_all-returns-in-Err
fitting::fit_all-returns-in-Err t c = grind (arith)

pub fitting::fit_all-returns-in-Ok-Some : goal.fitting::fit_all-returns-in-Ok-Some
fitting::fit_all-returns-in-Ok-Some t c = grind (arith)

pub fitting::place_at-returns-in-None : goal.fitting::place_at-returns-in-None
fitting::place_at-returns-in-None t c = grind (arith)

pub fitting::places-returns-in-empty-members : goal.fitting::places-returns-in-empty-members
fitting::places-returns-in-empty-members t c = grind (arith)

pub keys::index_items-choose-requires : goal.keys::index_items-choose-requires
keys::index_items-choose-requires t c = grind (arith)

pub keys::index_items-returns-in_ok-tuples-in-Some : goal.keys::index_items-returns-in_ok-tuples-in-Some
keys::index_items-returns-in_ok-tuples-in-Some t c = grind (arith)

pub keys::index_items-returns-in_ok-value-in-None : goal.keys::index_items-returns-in_ok-value-in-None
keys::index_items-returns-in_ok-value-in-None t c = grind (arith)

pub keys::item_tuples-choose-requires : goal.keys::item_tuples-choose-requires
keys::item_tuples-choose-requires t c = grind (arith)

pub keys::item_tuples-returns-in-Some : goal.keys::item_tuples-returns-in-Some
keys::item_tuples-returns-in-Some t c = grind (arith)

pub eval::chained-loop-link-smaller : goal.eval::chained-loop-link-smaller
eval::chained-loop-link-smaller t c = grind (arith)

pub eval::chained-offset_bounds-links-link-index : goal.eval::chained-offset_bounds-links-link-index
eval::chained-offset_bounds-links-link-index t c = grind (arith)

pub eval::evaluate_more-loop-link-smaller : goal.eval::evaluate_more-loop-link-smaller
eval::evaluate_more-loop-link-smaller t c = grind (arith)

pub eval::evaluate_more-offset_bounds-more-link-index : goal.eval::evaluate_more-offset_bounds-more-link-index
eval::evaluate_more-offset_bounds-more-link-index t c = grind (arith)

pub eval::gather-loop-row-smaller : goal.eval::gather-loop-row-smaller
eval::gather-loop-row-smaller t c = grind (arith)

pub eval::gather-one_more-requires : goal.eval::gather-one_more-requires
eval::gather-one_more-requires t c = grind (arith)

pub eval::joined-returns-in-Some : goal.eval::joined-returns-in-Some
eval::joined-returns-in-Some t c = grind (arith)

pub eval::joined-returns : goal.eval::joined-returns
eval::joined-returns t c =
    answers_by _ _ _
    (ap (λ o. joined (span_of (tree c.args.whole.now)) o (value c.args.env.now c.args.scope.now (tree c.args.link.now.operand)) c.args.value) (sym c.op-operation.ensures)
    ∙ goes _ _ _ _ refl (c.in_ok-found.ensures ∙ ap Ok c.in-None.is))
    (c.apply_to.ensures _ c.evaluate-other.ensures)

pub eval::tupled-returns : goal.eval::tupled-returns
eval::tupled-returns t c = grind (arith)

pub fitting::alone-returns-in-Some : goal.fitting::alone-returns-in-Some
fitting::alone-returns-in-Some t c = grind (arith)

pub fitting::components-bounds-member-0 : goal.fitting::components-bounds-member-0
fitting::components-bounds-member-0 t c = grind (arith)

pub fitting::components-slice_bounds-others-count : goal.fitting::components-slice_bounds-others-count
fitting::components-slice_bounds-others-count t c = grind (arith)

pub fitting::components-slice_bounds-others-start : goal.fitting::components-slice_bounds-others-start
fitting::components-slice_bounds-others-start t c = grind (arith)

pub fitting::fit_all-returns-in-Ok-None : goal.fitting::fit_all-returns-in-Ok-None
fitting::fit_all-returns-in-Ok-None t c = grind (arith)

pub fitting::place_at-left_place-requires : goal.fitting::place_at-left_place-requires
fitting::place_at-left_place-requires t c = grind (arith)

pub fitting::places-bounds-links-0 : goal.fitting::places-bounds-links-0
fitting::places-bounds-links-0 t c = grind (arith)

pub fitting::places-bounds-members-0 : goal.fitting::places-bounds-members-0
fitting::places-bounds-members-0 t c = grind (arith)

pub fitting::places-slice_bounds-others-count : goal.fitting::places-slice_bounds-others-count
fitting::places-slice_bounds-others-count t c = grind (arith)

pub fitting::places-slice_bounds-others-start : goal.fitting::places-slice_bounds-others-start
fitting::places-slice_bounds-others-start t c = grind (arith)

pub fitting::places-slice_bounds-rest-count : goal.fitting::places-slice_bounds-rest-count
fitting::places-slice_bounds-rest-count t c = grind (arith)

pub fitting::places-slice_bounds-rest-start : goal.fitting::places-slice_bounds-rest-start
fitting::places-slice_bounds-rest-start t c = grind (arith)

pub keys::select-same-found : goal.keys::select-same-found
keys::select-same-found t c = grind (arith)

pub subscripts::put-returns-in-Some : goal.subscripts::put-returns-in-Some
subscripts::put-returns-in-Some t c =
    ap (λ o. and_then o (λ v. Ok (with_value v c.args.so_far.now))) (dummy_value c.args.env.now c.args.scope.now (tree c.args.component.now) c.in-Some.member.now c.in-Some.ensures)
    ∙ ap Ok (sym c.add.ensures)

pub subscripts::key_of-loop-link-init : goal.subscripts::key_of-loop-link-init
subscripts::key_of-loop-link-init t c =
    sym (goes _ _ _ _
    (from_none (span_of (tree c.args.whole.now)) c.args.env.now c.args.scope.now (tree c.args.first.now) (links_of c.args.more.now) c.new-so_far.result c.new-so_far.ensures)
    c.in_ok-put.ensures)

pub subscripts::key_of-loop-link-preserved : goal.subscripts::key_of-loop-link-preserved
subscripts::key_of-loop-link-preserved t c =
    sym (goes _ _ _ _
    (one-left (span_of (tree c.args.whole.now)) c.args.env.now c.args.scope.now c.args.more.now c.loop-link.link-index c.link-item.result c.loop-link.so_far _ c.loop-link-test.true c.link-item.is c.loop-link.invariant)
    c.in_ok-put-2.ensures)

pub subscripts::key_of-returns : goal.subscripts::key_of-returns
subscripts::key_of-returns t c =
    answers_decided _ _ _
    (none-left (span_of (tree c.args.whole.now)) c.args.env.now c.args.scope.now c.args.more.now c.loop-link.link-index c.loop-link.so_far _ c.loop-link-test.false c.loop-link.invariant)
    c.into_key.ensures

pub subscripts::key_of-put-requires-in-loop-link : goal.subscripts::key_of-put-requires-in-loop-link
subscripts::key_of-put-requires-in-loop-link t c = omega (arith, link_lighter c.args.more.now c.loop-link.link-index c.link-item.result c.loop-link-test.true c.link-item.is)

pub subscripts::key_of-returns-in_err-put-2 : goal.subscripts::key_of-returns-in_err-put-2
subscripts::key_of-returns-in_err-put-2 t c =
    let y = err_from_is_err_and c.from_residual-in_err-put-2.result c.from_residual-in_err-put-2.ensures.1 in
    rw y.1 (rw y.2
    (stops _ _ _ c.in_err-put-2.field-0.0
    (one-left (span_of (tree c.args.whole.now)) c.args.env.now c.args.scope.now c.args.more.now c.loop-link.link-index c.link-item.result c.loop-link.so_far _ c.loop-link-test.true c.link-item.is c.loop-link.invariant)
    (leaves_answers _ _ c.in_err-put-2.field-0.0 _ refl c.in_err-put-2.ensures)))
