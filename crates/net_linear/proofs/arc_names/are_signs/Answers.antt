use Rattle.std.proofs.Common.{◌∙◌, sym, arith}
use Rattle.std.proofs.lemmas.Grind.{common_steps}
use Rattle.net_linear.proofs.Naming.{signs_stop, signs_go}
use Rattle.net_linear.proofs.arc_names.are_signs.Goals as goal

pub returns-then-not-is_sign : goal.returns-then-not-is_sign
returns-then-not-is_sign c =
    signs_stop c.args.links.now c.loop-link.link-index c.link-item.result _ c.loop-link-test.true c.link-item.is c.op.ensures (sym c.is_sign.ensures ∙ c.if-not-is_sign.true) ∙ c.loop-link.invariant

pub loop-link-preserved : goal.loop-link-preserved
loop-link-preserved c =
    signs_go c.args.links.now c.loop-link.link-index c.link-item.result _ c.loop-link-test.true c.link-item.is c.op.ensures (sym c.is_sign.ensures ∙ c.if-not-is_sign.false) ∙ c.loop-link.invariant

pub offset_bounds-links-link-index : goal.offset_bounds-links-link-index
offset_bounds-links-link-index c = grind (arith, common_steps)

pub returns : goal.returns
returns c = grind (arith, common_steps)
