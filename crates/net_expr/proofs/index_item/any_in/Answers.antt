use Rattle.std.specs.Prelude.{◌+◌, ◌||◌, drop}
use Rattle.std.proofs.Common.{ap, sym, ◌∙◌, arith}
use Rattle.std.proofs.lemmas.Grind.{common_steps}
use Rattle.net_tree.specs.View.{links_of}
use Rattle.net_tree.proofs.Views.{next_link}
use Rattle.net_expr.specs.Items.{any_in}
use Rattle.net_expr.proofs.index_item.any_in.Goals as goal

pub returns-then-has_in : goal.returns-then-has_in
returns-then-has_in c =
    let e = ap any_in (next_link c.args.links.now c.loop-link.link-index c.link-item.result c.loop-link-test.true c.link-item.is) in
    sym (ap (λ b. b || any_in (links_of (drop (c.loop-link.link-index + 1) c.args.links.now))) (sym c.has_in.ensures ∙ c.if-has_in.true)) ∙ sym e ∙ c.loop-link.invariant

pub loop-link-preserved : goal.loop-link-preserved
loop-link-preserved c =
    let e = ap any_in (next_link c.args.links.now c.loop-link.link-index c.link-item.result c.loop-link-test.true c.link-item.is) in
    sym (ap (λ b. b || any_in (links_of (drop (c.loop-link.link-index + 1) c.args.links.now))) (sym c.has_in.ensures ∙ c.if-has_in.false)) ∙ sym e ∙ c.loop-link.invariant

pub offset_bounds-links-link-index : goal.offset_bounds-links-link-index
offset_bounds-links-link-index c = grind (arith, common_steps)

pub returns : goal.returns
returns c = grind (arith, common_steps)
