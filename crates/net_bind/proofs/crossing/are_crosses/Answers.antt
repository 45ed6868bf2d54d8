use Rattle.std.specs.Prelude.{◌+◌, ◌&&◌, drop}
use Rattle.std.proofs.Common.{ap, sym, ◌∙◌, arith}
use Rattle.std.proofs.lemmas.Grind.{common_steps}
use Rattle.net_tree.specs.View.{links_of}
use Rattle.net_tree.proofs.Views.{next_link}
use Rattle.net_bind.specs.Factors.{are_crosses}
use Rattle.net_bind.proofs.crossing.are_crosses.Goals as goal

pub returns-then-not-is_cross : goal.returns-then-not-is_cross
returns-then-not-is_cross c =
    let e = ap are_crosses (next_link c.args.links.now c.loop-link.link-index c.link-item.result c.loop-link-test.true c.link-item.is) in
    sym (ap (λ b. b && are_crosses (links_of (drop (c.loop-link.link-index + 1) c.args.links.now))) (sym c.is_cross.ensures ∙ c.if-not-is_cross.true)) ∙ sym e ∙ c.loop-link.invariant

pub loop-link-preserved : goal.loop-link-preserved
loop-link-preserved c =
    let e = ap are_crosses (next_link c.args.links.now c.loop-link.link-index c.link-item.result c.loop-link-test.true c.link-item.is) in
    sym (ap (λ b. b && are_crosses (links_of (drop (c.loop-link.link-index + 1) c.args.links.now))) (sym c.is_cross.ensures ∙ c.if-not-is_cross.false)) ∙ sym e ∙ c.loop-link.invariant

pub offset_bounds-links-link-index : goal.offset_bounds-links-link-index
offset_bounds-links-link-index c = grind (arith, common_steps)

pub returns : goal.returns
returns c = grind (arith, common_steps)
