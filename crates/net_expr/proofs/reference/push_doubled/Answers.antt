use Rattle.std.proofs.Common.{Some, None, ap, ◌∙◌, arith}
use Rattle.std.proofs.lemmas.Grind.{common_steps}
use Rattle.std.proofs.lemmas.Str.Pattern.{split_parts}
use Rattle.net_sets.proofs.Singles.{after_text}
use Rattle.net_expr.specs.References.{doubled}
use Rattle.net_expr.proofs.Doubling.{none_doubled, doubled_after}
use Rattle.net_expr.proofs.reference.push_doubled.Goals as goal

pub loop-before-preserved : goal.loop-before-preserved
loop-before-preserved c =
    let left = c.loop-before.left.now in
    let before = c.in-Some.before in
    let after = c.in-Some.after in
    let parts = split_parts 39 left (Some (before, after)) c.in-Some.ensures.cases (omega arith) in
    let text = after_text 39 left before.now after.now c.loop-before.invariant.0 (omega arith) parts.0 in
    let step = ap doubled parts.0 ∙ doubled_after before.now after.now parts.1 in
    (text, grind (arith, common_steps))

pub returns : goal.returns
returns c =
    let left = c.loop-before.left.now in
    let same = none_doubled left (split_parts 39 left None c.in_default.ensures.cases (omega arith)) in
    grind (arith, common_steps)
