use Rattle.std.proofs.Common.{sym, map, arith}
use Rattle.std.proofs.lemmas.Grind.{common_steps}
use Rattle.std.proofs.lemmas.Result.{err_from_is_err_and}
use Rattle.net_tree.specs.View.{phrase_of}
use Rattle.net_inst.specs.Parts.{parts_seen}
use Rattle.net_inst.proofs.Steps.{goes, halts, one_more, arcs-left, row_is, there}
use Rattle.net_inst.proofs.arc_draft.ArcDraft.add_rows.Goals as goal

pub returns-in_err-add_arc-clause-value : goal.returns-in_err-add_arc-clause-value
returns-in_err-add_arc-clause-value c =
    let y = err_from_is_err_and c.from_residual-in_err-add_arc.result c.from_residual-in_err-add_arc.ensures.1 in
    rw y.1 (rw y.2
    (halts _ _ _ c.in_err-add_arc.field-0.0 _ _
    (arcs-left c.args.text.now.visible.goal.now c.args.text.now.visible.nodes.now c.args.text.now.visible.env.now c.args.text.now.name.now c.args.count.now (parts_seen c.args.text.now.parts) (map phrase_of c.args.text.now.phrases.now) c.args.rows.now c.loop-place.place c.get.result.now c.loop-place.self _ (there c.args.rows.now c.loop-place.place c.len-place-end.result c.loop-place-test.true c.len-place-end.ensures) (row_is c.args.rows.now c.loop-place.place c.get.result.now c.in_ok-row.row c.get.ensures c.in_ok-row.ensures) c.loop-place.invariant.0)
    c.in_err-add_arc.ensures.value))

pub loop-place-preserved : goal.loop-place-preserved
loop-place-preserved c = (
  sym (goes _ _ _ _
      (arcs-left c.args.text.now.visible.goal.now c.args.text.now.visible.nodes.now c.args.text.now.visible.env.now c.args.text.now.name.now c.args.count.now (parts_seen c.args.text.now.parts) (map phrase_of c.args.text.now.phrases.now) c.args.rows.now c.loop-place.place c.get.result.now c.loop-place.self _ (there c.args.rows.now c.loop-place.place c.len-place-end.result c.loop-place-test.true c.len-place-end.ensures) (row_is c.args.rows.now c.loop-place.place c.get.result.now c.in_ok-row.row c.get.ensures c.in_ok-row.ensures) c.loop-place.invariant.0)
      c.in_ok-add_arc.ensures.value),
  one_more _ _ _ c.loop-place.invariant.1 c.in_ok-add_arc.ensures.count,
)

pub returns-clause-value : goal.returns-clause-value
returns-clause-value c = grind (arith, common_steps)
