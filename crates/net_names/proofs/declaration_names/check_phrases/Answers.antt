use Rattle.std.proofs.Common.{ap, ◌∙◌, map, arith}
use Rattle.std.proofs.lemmas.Grind.{common_steps}
use Rattle.std.proofs.lemmas.Result.{err_from_is_err_and}
use Rattle.net_tree.specs.View.{phrase_of}
use Rattle.net_names.specs.Names.{phrases_fault, need_after}
use Rattle.net_names.proofs.Walking.{after_none, stops_first}
use Rattle.net_names.proofs.Declaring.{phrases_left}
use Rattle.net_names.proofs.declaration_names.check_phrases.Goals as goal

pub returns-in_err-check_body-clause-value : goal.returns-in_err-check_body-clause-value
returns-in_err-check_body-clause-value c =
    let y = err_from_is_err_and c.from_residual.result c.from_residual.ensures.1 in
    rw y.1 (rw y.2
    (stops_first _ _ (phrases_fault c.args.scope.now (map phrase_of c.args.phrases.now)) c.in_err-check_body.field-0.0
    (phrases_left c.need_after.result c.args.scope.now c.loop-phrase.scope c.args.phrases.now c.loop-phrase.phrase-index c.phrase-item.result _ c.loop-phrase-test.true c.phrase-item.is c.loop-phrase.invariant.kept
    (c.need_after.ensures ∙ ap need_after c.role.ensures) c.loop-phrase.invariant.fault)
    c.in_err-check_body.ensures.value))

pub loop-phrase-preserved : goal.loop-phrase-preserved
loop-phrase-preserved c = record {
  fault =
      after_none _ _ (phrases_fault c.args.scope.now (map phrase_of c.args.phrases.now))
      (phrases_left c.need_after.result c.args.scope.now c.loop-phrase.scope c.args.phrases.now c.loop-phrase.phrase-index c.phrase-item.result _ c.loop-phrase-test.true c.phrase-item.is c.loop-phrase.invariant.kept
      (c.need_after.ensures ∙ ap need_after c.role.ensures) c.loop-phrase.invariant.fault)
      c.in_ok-check_body.ensures.value;
  kept = c.in_ok-check_body.ensures.kept ∙ c.loop-phrase.invariant.kept;
}

pub offset_bounds-phrases-phrase-index : goal.offset_bounds-phrases-phrase-index
offset_bounds-phrases-phrase-index c = grind (arith, common_steps)

pub returns-clause-value : goal.returns-clause-value
returns-clause-value c = grind (arith, common_steps)

pub loop-phrase-init : goal.loop-phrase-init
loop-phrase-init c = grind (arith, common_steps)

pub returns-clause-kept : goal.returns-clause-kept
returns-clause-kept c = grind (arith, common_steps)
