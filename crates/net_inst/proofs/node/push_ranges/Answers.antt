use Rattle.std.proofs.Common.{sym, map, arith}
use Rattle.std.proofs.lemmas.Grind.{common_steps}
use Rattle.std.proofs.lemmas.Result.{err_from_is_err_and}
use Rattle.net_tree.specs.View.{condition_of}
use Rattle.net_inst.specs.Nodes.{sides_of}
use Rattle.net_inst.proofs.Steps.{goes, halts, one_more, ranges-left, row_is, there}
use Rattle.net_inst.proofs.node.push_ranges.Goals as goal

pub returns-in_err-push_range-clause-value : goal.returns-in_err-push_range-clause-value
returns-in_err-push_range-clause-value c =
    let y = err_from_is_err_and c.from_residual-in_err-push_range.result c.from_residual-in_err-push_range.ensures.1 in
    rw y.1 (rw y.2
    (halts _ _ _ c.in_err-push_range.field-0.0 _ _
    (ranges-left c.args.env.now c.args.text.now.name.now c.args.count.now (condition_of c.args.text.now.condition.now) c.args.rows.now c.loop-place.place c.get.result.now (map sides_of c.loop-place.ranges.items) _ (there c.args.rows.now c.loop-place.place c.len-place-end.result c.loop-place-test.true c.len-place-end.ensures) (row_is c.args.rows.now c.loop-place.place c.get.result.now c.in_ok-row.row c.get.ensures c.in_ok-row.ensures) c.loop-place.invariant.0)
    c.in_err-push_range.ensures.value))

pub loop-place-preserved : goal.loop-place-preserved
loop-place-preserved c = (
  sym (goes _ _ _ _
      (ranges-left c.args.env.now c.args.text.now.name.now c.args.count.now (condition_of c.args.text.now.condition.now) c.args.rows.now c.loop-place.place c.get.result.now (map sides_of c.loop-place.ranges.items) _ (there c.args.rows.now c.loop-place.place c.len-place-end.result c.loop-place-test.true c.len-place-end.ensures) (row_is c.args.rows.now c.loop-place.place c.get.result.now c.in_ok-row.row c.get.ensures c.in_ok-row.ensures) c.loop-place.invariant.0)
      c.in_ok-push_range.ensures.value),
  c.push_range.ensures.few,
  one_more _ _ _ c.loop-place.invariant.2 c.in_ok-push_range.ensures.count,
)

pub returns-clause-value : goal.returns-clause-value
returns-clause-value c = grind (arith, common_steps)
