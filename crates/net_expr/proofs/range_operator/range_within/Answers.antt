use Rattle.std.proofs.Common.{rules, arith}
use Rattle.std.proofs.lemmas.Grind.{common_steps}
use Rattle.std.proofs.lemmas.Int.{to_z-of_z}
use mir.Val.{SFits}
use mir.Syntax.{w64}
use Rattle.net_tree.specs.Spans.{span_of}
use Rattle.net_tree.specs.View.{tree}
use Rattle.net_expr.proofs.Ranging.{range_made}
use Rattle.net_expr.proofs.Walking.{answers_by}
use Rattle.net_expr.specs.Limits.{is_small}
use Rattle.net_expr.proofs.range_operator.range_within.Goals as goal

pub returns : goal.returns
returns c =
    let a : SFits w64 c.args.first.now = search rules in
    let b : SFits w64 c.args.last.now = search rules in
    let d : SFits w64 c.args.by.now = search rules in
    answers_by _ _ _
    (range_made (span_of (tree c.args.whole.now)) c.args.first.now c.args.last.now c.args.by.now _ _ _ (to_z-of_z w64 c.args.first.now a) (to_z-of_z w64 c.args.last.now b) (to_z-of_z w64 c.args.by.now d))
    (c.made.ensures _ c.listed.ensures.value)

pub invariant_of-range : goal.invariant_of-range
unfolding is_small
invariant_of-range c = grind (arith, common_steps)
