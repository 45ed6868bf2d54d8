use Rattle.std.proofs.Common.{◌≡◌, ◌+◌, ◌-◌, sym, ap, ◌∙◌, arith, length, length-append, [], ◌∷◌}
use Rattle.std.proofs.lemmas.Result.{err_from_is_err_and}
use Rattle.net_tree.specs.WellFormed.{joins}
use Rattle.net_tree.specs.View.{tree, links_of}
use Rattle.net_model.specs.Expressions.{nested, climb, unary, links, part_at, present_at, inner_of, conditional_at, items_at, empty_braces_at, braces_at, reduction_at, chain_at, if_at, wide, named_at, parens_from, parens_at, subscripts_at, unary_at}
use Rattle.net_model.specs.Reading.{next_is, read_as}
use Rattle.net_model.proofs.Steps.{inside-none, inside-some, climb-low, climb-high, braces-opened, negated-opened}
use Rattle.net_model.proofs.Turning.{all_read, one_read, no_operator, no_operand}
use Rattle.net_tree.proofs.Views.{views}
use Rattle.net_model.proofs.Making.{makings}
use Rattle.net_model.proofs.+parser.Goals as goal

pub braces::braces_of-returns-in_err-open-clause-value : goal.braces::braces_of-returns-in_err-open-clause-value
braces::braces_of-returns-in_err-open-clause-value t c = let opened = braces-opened (nested c.args.depth) c.args.tokens.now in grind (arith, opened)

pub braces::braces_of-returns-then-depth-eq0-clause-value : goal.braces::braces_of-returns-then-depth-eq0-clause-value
braces::braces_of-returns-then-depth-eq0-clause-value t c = let opened = braces-opened (nested c.args.depth) c.args.tokens.now in let none = inside-none c.args.depth c.if-depth-eq0.true in grind (arith, opened, none)

pub braces::braces_of-returns-else-depth-eq0-clause-value : goal.braces::braces_of-returns-else-depth-eq0-clause-value
braces::braces_of-returns-else-depth-eq0-clause-value t c = let opened = braces-opened (nested c.args.depth) c.args.tokens.now in let some = inside-some c.args.depth c.if-depth-eq0.false in grind (arith, opened, some)

pub choices::if_of-returns-then-depth-eq0-clause-value : goal.choices::if_of-returns-then-depth-eq0-clause-value
unfolding if_at
choices::if_of-returns-then-depth-eq0-clause-value t c = let none = inside-none c.args.depth c.if-depth-eq0.true in grind (arith, none)

pub choices::if_of-returns-in-None-clause-value : goal.choices::if_of-returns-in-None-clause-value
unfolding if_at
choices::if_of-returns-in-None-clause-value t c = let some = inside-some c.args.depth c.if-depth-eq0.false in grind (arith, some)

pub choices::if_of-returns-in-Some-clause-value : goal.choices::if_of-returns-in-Some-clause-value
unfolding if_at
choices::if_of-returns-in-Some-clause-value t c = let some = inside-some c.args.depth c.if-depth-eq0.false in grind (arith, some)

pub expressions::named_of-returns-then-depth-eq0-clause-value : goal.expressions::named_of-returns-then-depth-eq0-clause-value
unfolding named_at
expressions::named_of-returns-then-depth-eq0-clause-value t c = let none = inside-none c.args.depth c.if-depth-eq0.true in grind (arith, none)

pub expressions::named_of-returns-else-depth-eq0-clause-value : goal.expressions::named_of-returns-else-depth-eq0-clause-value
unfolding named_at
expressions::named_of-returns-else-depth-eq0-clause-value t c = let some = inside-some c.args.depth c.if-depth-eq0.false in grind (arith, some)

pub expressions::negated_of-returns-in_err-open-clause-value : goal.expressions::negated_of-returns-in_err-open-clause-value
expressions::negated_of-returns-in_err-open-clause-value t c = let opened = negated-opened (nested c.args.depth) c.args.word c.args.tokens.now in grind (arith, opened)

pub expressions::negated_of-returns-then-depth-eq0-clause-value : goal.expressions::negated_of-returns-then-depth-eq0-clause-value
expressions::negated_of-returns-then-depth-eq0-clause-value t c = let opened = negated-opened (nested c.args.depth) c.args.word c.args.tokens.now in let none = inside-none c.args.depth c.if-depth-eq0.true in grind (arith, opened, none)

pub expressions::negated_of-returns-in_err-inner-clause-value : goal.expressions::negated_of-returns-in_err-inner-clause-value
unfolding inner_of
expressions::negated_of-returns-in_err-inner-clause-value t c = let opened = negated-opened (nested c.args.depth) c.args.word c.args.tokens.now in let some = inside-some c.args.depth c.if-depth-eq0.false in grind (arith, opened, some)

pub expressions::negated_of-returns-clause-value : goal.expressions::negated_of-returns-clause-value
unfolding inner_of
expressions::negated_of-returns-clause-value t c = let opened = negated-opened (nested c.args.depth) c.args.word c.args.tokens.now in let some = inside-some c.args.depth c.if-depth-eq0.false in grind (arith, opened, some)

pub expressions::unary_of-returns-in-Open-clause-value : goal.expressions::unary_of-returns-in-Open-clause-value
unfolding unary unary_at
expressions::unary_of-returns-in-Open-clause-value t c = let none = inside-none c.args.depth c.if-depth-eq0.true in grind (arith, none)

pub expressions::unary_of-returns-in-Open-2-clause-value : goal.expressions::unary_of-returns-in-Open-2-clause-value
unfolding unary unary_at
expressions::unary_of-returns-in-Open-2-clause-value t c = let some = inside-some c.args.depth c.if-depth-eq0.false in grind (arith, some)

pub expressions::unary_of-returns-in_err-braces-in-OpenBrace-clause-value : goal.expressions::unary_of-returns-in_err-braces-in-OpenBrace-clause-value
unfolding unary unary_at
expressions::unary_of-returns-in_err-braces-in-OpenBrace-clause-value t c = let some = inside-some c.args.depth c.if-depth-eq0.false in grind (arith, some)

pub expressions::unary_of-returns-in_ok-braces-in-OpenBrace-clause-value : goal.expressions::unary_of-returns-in_ok-braces-in-OpenBrace-clause-value
unfolding unary unary_at
expressions::unary_of-returns-in_ok-braces-in-OpenBrace-clause-value t c = let some = inside-some c.args.depth c.if-depth-eq0.false in grind (arith, some)

pub expressions::unary_of-returns-in_err-operand-in-Sign-clause-value : goal.expressions::unary_of-returns-in_err-operand-in-Sign-clause-value
unfolding unary unary_at inner_of
expressions::unary_of-returns-in_err-operand-in-Sign-clause-value t c = let some = inside-some c.args.depth c.if-depth-eq0.false in grind (arith, some)

pub expressions::unary_of-returns-in_ok-operand-in-Sign-clause-value : goal.expressions::unary_of-returns-in_ok-operand-in-Sign-clause-value
unfolding unary unary_at inner_of
expressions::unary_of-returns-in_ok-operand-in-Sign-clause-value t c = let some = inside-some c.args.depth c.if-depth-eq0.false in grind (arith, some)

pub expressions::unary_of-returns-in-Reduction-clause-value : goal.expressions::unary_of-returns-in-Reduction-clause-value
unfolding unary unary_at
expressions::unary_of-returns-in-Reduction-clause-value t c = let some = inside-some c.args.depth c.if-depth-eq0.false in grind (arith, some)

pub chains::climb_to-returns-then-max_precedence-lt-PRODUCT-clause-value : goal.chains::climb_to-returns-then-max_precedence-lt-PRODUCT-clause-value
chains::climb_to-returns-then-max_precedence-lt-PRODUCT-clause-value t c = rw (climb-low c.args.max_precedence (unary (nested c.args.depth)) c.if-max_precedence-lt-PRODUCT.true) c.unary_of.ensures.value

pub chains::climb_to-returns-else-max_precedence-lt-PRODUCT-clause-value : goal.chains::climb_to-returns-else-max_precedence-lt-PRODUCT-clause-value
chains::climb_to-returns-else-max_precedence-lt-PRODUCT-clause-value t c = rw (climb-high c.args.max_precedence (unary (nested c.args.depth)) c.if-max_precedence-lt-PRODUCT.false) c.chain_of.ensures.value

pub braces::body_inside-returns-clause-value : goal.braces::body_inside-returns-clause-value
braces::body_inside-returns-clause-value t c = rw c.max_precedence_in_body.ensures at c.climb_to.ensures.value

pub chains::chain_links-returns-clause-value : goal.chains::chain_links-returns-clause-value
chains::chain_links-returns-clause-value t c = rw c.max_precedence_at_right.ensures at c.links_from.ensures.value

pub chains::links_from-returns-in_err-operator-clause-value : goal.chains::links_from-returns-in_err-operator-clause-value
chains::links_from-returns-in_err-operator-clause-value t c =
    let same : c.len.result ≡ length c.loop-alloc.found.items = omega (arith, c.len.ensures, c.loop-alloc.found.ok) in
    let y = err_from_is_err_and c.from_residual.result c.from_residual.ensures.1 in
    rw y.1 (rw y.2 (no_operator c.loop-alloc.found.items (length c.args.tokens.now) c.args.joining c.len.result (climb c.args.max_precedence (unary (nested c.args.depth))) c.loop-alloc.tokens (links (length c.args.tokens.now) c.args.joining 0 (climb c.args.max_precedence (unary (nested c.args.depth))) c.args.tokens.now) c.in_err-operator.field-0.0
    same c.loop-alloc.invariant.room (sym c.next_joins.ensures ∙ c.loop-alloc-test.true) c.loop-alloc.invariant.read c.in_err-operator.ensures.value))

pub chains::links_from-returns-in_err-operand-clause-value : goal.chains::links_from-returns-in_err-operand-clause-value
chains::links_from-returns-in_err-operand-clause-value t c =
    let same : c.len.result ≡ length c.loop-alloc.found.items = omega (arith, c.len.ensures, c.loop-alloc.found.ok) in
    let y = err_from_is_err_and c.from_residual-in_err-operand.result c.from_residual-in_err-operand.ensures.1 in
    rw y.1 (rw y.2 (no_operand c.loop-alloc.found.items (length c.args.tokens.now) c.args.joining c.len.result (climb c.args.max_precedence (unary (nested c.args.depth))) c.loop-alloc.tokens c.in_ok-operator.operator c.operator_at.new.tokens (links (length c.args.tokens.now) c.args.joining 0 (climb c.args.max_precedence (unary (nested c.args.depth))) c.args.tokens.now) c.in_err-operand.field-0.0
    same c.loop-alloc.invariant.room (sym c.next_joins.ensures ∙ c.loop-alloc-test.true) c.in_ok-operator.ensures.value c.loop-alloc.invariant.read c.in_err-operand.ensures.value))

pub chains::links_from-returns-clause-value : goal.chains::links_from-returns-clause-value
chains::links_from-returns-clause-value t c =
    let same : c.len.result ≡ length c.loop-alloc.found.items = omega (arith, c.len.ensures, c.loop-alloc.found.ok) in
    all_read c.loop-alloc.found.items (length c.args.tokens.now - length c.loop-alloc.found.items) c.args.joining (length c.loop-alloc.found.items) (climb c.args.max_precedence (unary (nested c.args.depth))) c.loop-alloc.tokens (links (length c.args.tokens.now) c.args.joining 0 (climb c.args.max_precedence (unary (nested c.args.depth))) c.args.tokens.now)
    (sym (ap (λ n. next_is (joins c.args.joining n) c.loop-alloc.tokens) same) ∙ (sym c.next_joins.ensures ∙ c.loop-alloc-test.false)) c.loop-alloc.invariant.read
    ∙ ap (λ l. read_as (links_of l) c.loop-alloc.tokens) (sym (c.new-2.ensures ∙ c.new.ensures))

pub chains::links_from-loop-alloc-preserved : goal.chains::links_from-loop-alloc-preserved
chains::links_from-loop-alloc-preserved t c =
    let same : c.len.result ≡ length c.loop-alloc.found.items = omega (arith, c.len.ensures, c.loop-alloc.found.ok) in
    let more : length c.push.new.list.items ≡ length c.loop-alloc.found.items + 1 = omega (arith, ap length c.in_ok-push.ensures.items, length-append c.loop-alloc.found.items (c.in_ok-link.link ∷ [])) in
    record {
      read =
          one_read c.loop-alloc.found.items c.push.new.list.items c.in_ok-link.link
          (length c.args.tokens.now) c.args.joining c.len.result (climb c.args.max_precedence (unary (nested c.args.depth))) c.loop-alloc.tokens
          c.in_ok-operator.operator (tree c.in_ok-operand.operand) c.operator_at.new.tokens c.climb_to.new.tokens (links (length c.args.tokens.now) c.args.joining 0 (climb c.args.max_precedence (unary (nested c.args.depth))) c.args.tokens.now)
          same c.loop-alloc.invariant.room (sym c.next_joins.ensures ∙ c.loop-alloc-test.true) c.in_ok-operator.ensures.value c.in_ok-operand.ensures.value
          c.in_ok-link.ensures.value c.in_ok-push.ensures.items c.loop-alloc.invariant.read;
      room = omega (arith, more, c.in_ok-operator.ensures.shorter, c.in_ok-operand.ensures.shorter, c.loop-alloc.invariant.room);
    }

pub choices::introduced-returns-clause-mark : goal.choices::introduced-returns-clause-mark
choices::introduced-returns-clause-mark t c = grind (arith, views)

pub choices::introduced-returns-clause-value : goal.choices::introduced-returns-clause-value
choices::introduced-returns-clause-value t c = grind (arith, views)

pub choices::otherwise_of-returns-clause-value : goal.choices::otherwise_of-returns-clause-value
unfolding part_at present_at inner_of
choices::otherwise_of-returns-clause-value t c = grind (arith, views)

pub choices::choice_inside-returns-clause-value : goal.choices::choice_inside-returns-clause-value
unfolding conditional_at inner_of
choices::choice_inside-returns-clause-value t c = grind (arith, views)

pub braces::items_inside-returns-clause-value : goal.braces::items_inside-returns-clause-value
unfolding items_at inner_of
braces::items_inside-returns-clause-value t c = grind (arith, makings)

pub braces::hollow_inside-returns-clause-value : goal.braces::hollow_inside-returns-clause-value
unfolding empty_braces_at
braces::hollow_inside-returns-clause-value t c = grind (arith, views)

pub braces::items_inside-returns-clause-shorter : goal.braces::items_inside-returns-clause-shorter
braces::items_inside-returns-clause-shorter t c = grind (arith)

pub choices::choice_inside-returns-clause-shorter : goal.choices::choice_inside-returns-clause-shorter
choices::choice_inside-returns-clause-shorter t c = grind (arith)

pub chains::chain_of-returns-clause-shorter : goal.chains::chain_of-returns-clause-shorter
chains::chain_of-returns-clause-shorter t c = grind (arith)

pub expressions::subscripts_inside-returns-clause-shorter : goal.expressions::subscripts_inside-returns-clause-shorter
expressions::subscripts_inside-returns-clause-shorter t c = grind (arith)

pub braces::braces_inside-returns-else-next_ends_braces-clause-value : goal.braces::braces_inside-returns-else-next_ends_braces-clause-value
unfolding braces_at
braces::braces_inside-returns-else-next_ends_braces-clause-value t c = grind (arith)

pub braces::braces_inside-returns-then-next_ends_braces-clause-value : goal.braces::braces_inside-returns-then-next_ends_braces-clause-value
unfolding braces_at
braces::braces_inside-returns-then-next_ends_braces-clause-value t c = grind (arith)

pub braces::filter_of-returns-clause-shorter : goal.braces::filter_of-returns-clause-shorter
braces::filter_of-returns-clause-shorter t c = grind (arith)

pub braces::filter_of-returns-clause-value : goal.braces::filter_of-returns-clause-value
unfolding part_at present_at inner_of
braces::filter_of-returns-clause-value t c = grind (arith, views)

pub braces::filter_of-returns-in_default-clause-value : goal.braces::filter_of-returns-in_default-clause-value
unfolding part_at present_at inner_of
braces::filter_of-returns-in_default-clause-value t c = grind (arith, views)

pub braces::filter_of-returns-then-not-next_is-clause-value : goal.braces::filter_of-returns-then-not-next_is-clause-value
unfolding part_at present_at inner_of
braces::filter_of-returns-then-not-next_is-clause-value t c = grind (arith, views)

pub braces::hollow_inside-returns-clause-shorter : goal.braces::hollow_inside-returns-clause-shorter
braces::hollow_inside-returns-clause-shorter t c = grind (arith)

pub braces::reduced_inside-returns-clause-shorter : goal.braces::reduced_inside-returns-clause-shorter
braces::reduced_inside-returns-clause-shorter t c = grind (arith)

pub braces::reduced_inside-returns-clause-value : goal.braces::reduced_inside-returns-clause-value
unfolding reduction_at inner_of
braces::reduced_inside-returns-clause-value t c = grind (arith)

pub chains::chain_of-returns-clause-value : goal.chains::chain_of-returns-clause-value
unfolding chain_at
chains::chain_of-returns-clause-value t c = grind (arith)

pub chains::links_from-loop-alloc-init : goal.chains::links_from-loop-alloc-init
chains::links_from-loop-alloc-init t c = grind (arith)

pub chains::links_from-loop-alloc-smaller : goal.chains::links_from-loop-alloc-smaller
chains::links_from-loop-alloc-smaller t c = grind (arith)

pub choices::introduced-returns-clause-shorter : goal.choices::introduced-returns-clause-shorter
choices::introduced-returns-clause-shorter t c = grind (arith)

pub choices::otherwise_of-returns-clause-shorter : goal.choices::otherwise_of-returns-clause-shorter
choices::otherwise_of-returns-clause-shorter t c = grind (arith)

pub choices::otherwise_of-returns-in_default-clause-value : goal.choices::otherwise_of-returns-in_default-clause-value
unfolding part_at present_at inner_of
choices::otherwise_of-returns-in_default-clause-value t c = grind (arith, views)

pub choices::otherwise_of-returns-then-not-next_is-clause-value : goal.choices::otherwise_of-returns-then-not-next_is-clause-value
unfolding part_at present_at inner_of
choices::otherwise_of-returns-then-not-next_is-clause-value t c = grind (arith, views)

pub choices::wide_of-returns-then-next_is-clause-value : goal.choices::wide_of-returns-then-next_is-clause-value
unfolding wide
choices::wide_of-returns-then-next_is-clause-value t c = grind (arith)

pub expressions::parens_from-returns-else-is_sum-clause-value : goal.expressions::parens_from-returns-else-is_sum-clause-value
unfolding parens_from inner_of
expressions::parens_from-returns-else-is_sum-clause-value t c = grind (arith)

pub expressions::parens_from-returns-in_ok-more-clause-shorter : goal.expressions::parens_from-returns-in_ok-more-clause-shorter
expressions::parens_from-returns-in_ok-more-clause-shorter t c = grind (arith)

pub expressions::parens_from-returns-in_ok-more-clause-value : goal.expressions::parens_from-returns-in_ok-more-clause-value
unfolding parens_from inner_of
expressions::parens_from-returns-in_ok-more-clause-value t c = grind (arith)

pub expressions::parens_inside-returns-clause-shorter : goal.expressions::parens_inside-returns-clause-shorter
expressions::parens_inside-returns-clause-shorter t c = grind (arith)

pub expressions::parens_inside-returns-clause-value : goal.expressions::parens_inside-returns-clause-value
unfolding parens_at inner_of
expressions::parens_inside-returns-clause-value t c = grind (arith)

pub expressions::subscripts_inside-returns-clause-value : goal.expressions::subscripts_inside-returns-clause-value
unfolding subscripts_at inner_of
expressions::subscripts_inside-returns-clause-value t c = grind (arith)

pub expressions::subscripts_inside-returns-in_default-clause-value : goal.expressions::subscripts_inside-returns-in_default-clause-value
unfolding subscripts_at inner_of
expressions::subscripts_inside-returns-in_default-clause-value t c = grind (arith)

pub chains::links_from-returns-clause-shorter : goal.chains::links_from-returns-clause-shorter
chains::links_from-returns-clause-shorter t c = grind (arith)

pub choices::wide_of-returns-else-next_is-clause-value : goal.choices::wide_of-returns-else-next_is-clause-value
unfolding wide
choices::wide_of-returns-else-next_is-clause-value t c = grind (arith)

pub expressions::parens_from-returns-else-is_sum-clause-shorter : goal.expressions::parens_from-returns-else-is_sum-clause-shorter
expressions::parens_from-returns-else-is_sum-clause-shorter t c = grind (arith)
