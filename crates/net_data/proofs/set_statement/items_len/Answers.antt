use Rattle.std.proofs.Common.{◌∙◌, sym, arith, ap, length}
use Rattle.net_data.proofs.Items.{items_turn, counted_over, counted_stop, counted_end, counted_open}
use Rattle.net_data.proofs.set_statement.items_len.Goals as goal

pub returns-in-None-after-clause-value : goal.returns-in-None-after-clause-value
returns-in-None-after-clause-value c =
    counted_over c.args.tokens.now c.tokens.len _ c.tokens.spot c.in-Some.token c.tokens.token-iterator _ c.tokens.invariant.left c.in-Some.ensures.steps c.tokens.invariant.value
    (sym c.after.ensures ∙ c.in-None-after.is) (sym c.rests.ensures ∙ c.if-rests.true)

pub returns-in-None-2-clause-value : goal.returns-in-None-2-clause-value
returns-in-None-2-clause-value c =
    rw c.span.ensures (counted_stop c.args.tokens.now c.tokens.len _ c.tokens.spot c.in-Some.token c.tokens.token-iterator _ c.in-Some.ensures.steps c.tokens.invariant.value
    (sym c.after.ensures ∙ c.in-None-after.is) (sym c.rests.ensures ∙ c.if-rests.false))

pub tokens-preserved : goal.tokens-preserved
tokens-preserved c =
    let turn = items_turn c.args.tokens.now c.tokens.len _ c.tokens.spot c.in-Some-after.next c.in-Some.token c.tokens.token-iterator _ c.tokens.invariant.left c.in-Some.ensures.steps c.tokens.invariant.value
    (sym c.after.ensures ∙ c.in-Some-after.is) in
    record {
      value = turn.0;
      left = turn.1;
      within = omega (arith, c.tokens.invariant.within, ap length c.in-Some.ensures.steps);
    }

pub returns-then-rests-2-clause-value : goal.returns-then-rests-2-clause-value
returns-then-rests-2-clause-value c =
    counted_end c.args.tokens.now c.tokens.len _ c.tokens.spot c.tokens.token-iterator c.tokens.invariant.left c.in-None.ensures.steps.0 c.tokens.invariant.value (sym c.rests-2.ensures ∙ c.if-rests-2.true)

pub returns-clause-value : goal.returns-clause-value
returns-clause-value c =
    counted_open c.args.tokens.now c.tokens.len _ c.tokens.spot c.tokens.token-iterator c.in-None.ensures.steps.0 c.tokens.invariant.value (sym c.rests-2.ensures ∙ c.if-rests-2.false)
