use Rattle.std.proofs.Common.{◌≡◌, ◌+◌, ◌-◌, sym, ap, ◌∙◌, arith, length, length-append, map, [], ◌∷◌, true, Ok}
use Rattle.std.proofs.lemmas.Grind.{common_steps}
use Rattle.std.proofs.lemmas.Result.{err_from_is_err_and}
use Rattle.net_tree.specs.View.{phrase_of}
use Rattle.net_model.specs.Phrases.{phrase_at, phrase_next, goes_on, nothing_stood, phrases}
use Rattle.net_model.specs.Expressions.{nested}
use Rattle.net_model.specs.Rows.{row}
use Rattle.net_model.proofs.RowLemmas.{row_read, row_turn, row_stops}
use Rattle.net_model.proofs.Turning.{some_left}
use Rattle.net_model.proofs.phrases.phrases.Goals as goal

pub returns-in_err-phrase-clause-value : goal.returns-in_err-phrase-clause-value
unfolding phrases
returns-in_err-phrase-clause-value c =
    let on : phrase_next c.args.owner c.loop-alloc.stood c.loop-alloc.tokens ≡ true = sym c.phrase_next.ensures ∙ c.loop-alloc-test.true in
    let y = err_from_is_err_and c.from_residual.result c.from_residual.ensures.1 in
    rw y.1 (rw y.2
    (row_stops phrase_of c.loop-alloc.found.items (length c.args.tokens.now) (phrase_at (nested c.args.depth) c.args.owner) (phrase_next c.args.owner) c.loop-alloc.stood c.loop-alloc.tokens
    (row (length c.args.tokens.now) (phrase_at (nested c.args.depth) c.args.owner) (phrase_next c.args.owner) nothing_stood c.args.tokens.now) c.in_err-phrase.field-0.0
    (some_left (goes_on c.args.owner c.loop-alloc.stood) c.loop-alloc.tokens on) c.loop-alloc.invariant.room on c.loop-alloc.invariant.read c.in_err-phrase.ensures.value))

pub returns-clause-value : goal.returns-clause-value
unfolding phrases
returns-clause-value c =
    row_read phrase_of c.loop-alloc.found.items (length c.args.tokens.now - length c.loop-alloc.found.items) (phrase_at (nested c.args.depth) c.args.owner) (phrase_next c.args.owner) c.loop-alloc.stood c.loop-alloc.tokens
    (row (length c.args.tokens.now) (phrase_at (nested c.args.depth) c.args.owner) (phrase_next c.args.owner) nothing_stood c.args.tokens.now)
    (sym c.phrase_next.ensures ∙ c.loop-alloc-test.false) c.loop-alloc.invariant.read
    ∙ ap (λ l. Ok ((map phrase_of l, c.loop-alloc.stood), c.loop-alloc.tokens)) (sym (c.new-2.ensures ∙ c.new.ensures))

pub loop-alloc-preserved : goal.loop-alloc-preserved
loop-alloc-preserved c =
    let on : phrase_next c.args.owner c.loop-alloc.stood c.loop-alloc.tokens ≡ true = sym c.phrase_next.ensures ∙ c.loop-alloc-test.true in
    let more : length c.push.new.list.items ≡ length c.loop-alloc.found.items + 1 = omega (arith, ap length c.in_ok-push.ensures.items, length-append c.loop-alloc.found.items (c.in_ok-phrase.phrase ∷ [])) in
    record {
      read =
          row_turn phrase_of c.loop-alloc.found.items c.push.new.list.items c.in_ok-phrase.phrase (length c.args.tokens.now) (phrase_at (nested c.args.depth) c.args.owner) (phrase_next c.args.owner) c.loop-alloc.stood c.in_ok-phrase.now
          c.loop-alloc.tokens c.phrase_at.new.tokens (row (length c.args.tokens.now) (phrase_at (nested c.args.depth) c.args.owner) (phrase_next c.args.owner) nothing_stood c.args.tokens.now)
          (some_left (goes_on c.args.owner c.loop-alloc.stood) c.loop-alloc.tokens on) c.loop-alloc.invariant.room on c.in_ok-phrase.ensures.value c.in_ok-push.ensures.items c.loop-alloc.invariant.read;
      room = omega (arith, more, c.in_ok-phrase.ensures.shorter, c.loop-alloc.invariant.room);
    }

pub returns-clause-shorter : goal.returns-clause-shorter
unfolding phrases
returns-clause-shorter c = grind (arith, common_steps)

pub loop-alloc-smaller : goal.loop-alloc-smaller
unfolding phrases
loop-alloc-smaller c = grind (arith, common_steps)

pub loop-alloc-init : goal.loop-alloc-init
unfolding phrases
loop-alloc-init c = grind (arith)
