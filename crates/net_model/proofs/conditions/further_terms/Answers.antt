use Rattle.std.proofs.Common.{◌≡◌, ◌+◌, ◌-◌, sym, ap, ◌∙◌, arith, length, length-append, map, [], ◌∷◌, true, Ok}
use Rattle.std.proofs.lemmas.Grind.{common_steps}
use Rattle.std.proofs.lemmas.Result.{err_from_is_err_and}
use Rattle.net_tree.specs.Role.{is_sign}
use Rattle.net_tree.specs.View.{link_of}
use Rattle.net_model.specs.Conditions.{further_term_at, sign_next, further_terms}
use Rattle.net_model.specs.Expressions.{nested}
use Rattle.net_model.specs.Rows.{row}
use Rattle.net_model.proofs.RowLemmas.{row_read, row_turn, row_stops}
use Rattle.net_model.proofs.Turning.{some_left}
use Rattle.net_model.proofs.conditions.further_terms.Goals as goal

pub returns-in_err-link-clause-value : goal.returns-in_err-link-clause-value
unfolding further_terms
returns-in_err-link-clause-value c =
    let on : sign_next c.loop-alloc.free c.loop-alloc.tokens ≡ true = sym c.next_is.ensures ∙ c.loop-alloc-test.true in
    let y = err_from_is_err_and c.from_residual.result c.from_residual.ensures.1 in
    rw y.1 (rw y.2
    (row_stops link_of c.loop-alloc.found.items (length c.args.tokens.now) (further_term_at (nested c.args.depth)) sign_next c.loop-alloc.free c.loop-alloc.tokens
    (row (length c.args.tokens.now) (further_term_at (nested c.args.depth)) sign_next c.args.first c.args.tokens.now) c.in_err-link.field-0.0
    (some_left is_sign c.loop-alloc.tokens on) c.loop-alloc.invariant.room on c.loop-alloc.invariant.read c.in_err-link.ensures.value))

pub returns-clause-value : goal.returns-clause-value
unfolding further_terms
returns-clause-value c =
    row_read link_of c.loop-alloc.found.items (length c.args.tokens.now - length c.loop-alloc.found.items) (further_term_at (nested c.args.depth)) sign_next c.loop-alloc.free c.loop-alloc.tokens
    (row (length c.args.tokens.now) (further_term_at (nested c.args.depth)) sign_next c.args.first c.args.tokens.now)
    (sym c.next_is.ensures ∙ c.loop-alloc-test.false) c.loop-alloc.invariant.read
    ∙ ap (λ l. Ok ((map link_of l, c.loop-alloc.free), c.loop-alloc.tokens)) (sym (c.new-2.ensures ∙ c.new.ensures))

pub loop-alloc-preserved : goal.loop-alloc-preserved
loop-alloc-preserved c =
    let on : sign_next c.loop-alloc.free c.loop-alloc.tokens ≡ true = sym c.next_is.ensures ∙ c.loop-alloc-test.true in
    let more : length c.push.new.list.items ≡ length c.loop-alloc.found.items + 1 = omega (arith, ap length c.in_ok-push.ensures.items, length-append c.loop-alloc.found.items (c.in_ok-link.link ∷ [])) in
    record {
      read =
          row_turn link_of c.loop-alloc.found.items c.push.new.list.items c.in_ok-link.link (length c.args.tokens.now) (further_term_at (nested c.args.depth)) sign_next c.loop-alloc.free c.in_ok-link.now
          c.loop-alloc.tokens c.further_term_at.new.tokens (row (length c.args.tokens.now) (further_term_at (nested c.args.depth)) sign_next c.args.first c.args.tokens.now)
          (some_left is_sign c.loop-alloc.tokens on) c.loop-alloc.invariant.room on c.in_ok-link.ensures.value c.in_ok-push.ensures.items c.loop-alloc.invariant.read;
      room = omega (arith, more, c.in_ok-link.ensures.shorter, c.loop-alloc.invariant.room);
    }

pub loop-alloc-smaller : goal.loop-alloc-smaller
unfolding further_terms
loop-alloc-smaller c = grind (arith, common_steps)

pub returns-clause-shorter : goal.returns-clause-shorter
unfolding further_terms
returns-clause-shorter c = grind (arith, common_steps)

pub loop-alloc-init : goal.loop-alloc-init
unfolding further_terms
loop-alloc-init c = grind (arith)
