use Rattle.std.proofs.Common.{sym, ◌∙◌, arith}
use Rattle.std.proofs.lemmas.Grind.{common_steps}
use Rattle.net_tree.specs.Spans.{span_of}
use Rattle.net_tree.specs.View.{tree}
use Rattle.net_linear.proofs.Terms.{times_left, times_right}
use Rattle.net_linear.proofs.term.times.Goals as goal

pub scaled-requires : goal.scaled-requires
scaled-requires c = grind (arith, common_steps)

pub scaled-requires-then-is_number-2 : goal.scaled-requires-then-is_number-2
scaled-requires-then-is_number-2 c = grind (arith, common_steps)

pub returns-else-is_number-2 : goal.returns-else-is_number-2
returns-else-is_number-2 c = grind (arith, common_steps)

pub returns-then-is_number : goal.returns-then-is_number
returns-then-is_number c =
    times_left (span_of (tree c.args.whole.now)) c.args.left.now c.args.right.now _ c.scaled.result (sym c.is_number.ensures ∙ c.if-is_number.true)
    (grind (arith, common_steps)) c.scaled.ensures

pub returns-then-is_number-2 : goal.returns-then-is_number-2
returns-then-is_number-2 c =
    times_right (span_of (tree c.args.whole.now)) c.args.left.now c.args.right.now _ c.scaled-then-is_number-2.result
    (sym c.is_number.ensures ∙ c.if-is_number.false) (sym c.is_number-else-is_number.ensures ∙ c.if-is_number-2.true) (grind (arith, common_steps))
    c.scaled-then-is_number-2.ensures
