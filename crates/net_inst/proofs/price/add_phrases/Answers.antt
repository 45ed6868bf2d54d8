use Rattle.std.proofs.Common.{sym, arith}
use Rattle.std.proofs.lemmas.Grind.{common_steps}
use Rattle.std.proofs.lemmas.Result.{err_from_is_err_and}
use Rattle.net_inst.proofs.Steps.{goes, halts, prices-left}
use Rattle.net_inst.proofs.price.add_phrases.Goals as goal

pub returns-in_err-add_phrase : goal.returns-in_err-add_phrase
returns-in_err-add_phrase c =
    let y = err_from_is_err_and c.from_residual.result c.from_residual.ensures.1 in
    rw y.1 (rw y.2
    (halts _ _ _ c.in_err-add_phrase.field-0.0 _ _
    (prices-left c.args.visible.now.goal.now c.args.visible.now.env.now c.args.scope.now c.args.arc c.args.phrases.now c.loop-phrase.phrase-index c.phrase-item.result c.loop-phrase.form _ c.loop-phrase-test.true c.phrase-item.is c.loop-phrase.invariant)
    c.in_err-add_phrase.ensures))

pub loop-phrase-preserved : goal.loop-phrase-preserved
loop-phrase-preserved c =
    sym (goes _ _ _ _
    (prices-left c.args.visible.now.goal.now c.args.visible.now.env.now c.args.scope.now c.args.arc c.args.phrases.now c.loop-phrase.phrase-index c.phrase-item.result c.loop-phrase.form _ c.loop-phrase-test.true c.phrase-item.is c.loop-phrase.invariant)
    c.in_ok-add_phrase.ensures)

pub returns : goal.returns
returns c = grind (arith, common_steps)

pub offset_bounds-phrases-phrase-index : goal.offset_bounds-phrases-phrase-index
offset_bounds-phrases-phrase-index c = grind (arith, common_steps)
