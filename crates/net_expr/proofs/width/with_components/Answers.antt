use Rattle.std.proofs.Common.{ap, sym, ◌∙◌, ◌+◌, drop, arith}
use Rattle.std.proofs.lemmas.Grind.{common_steps}
use Rattle.net_tree.specs.View.{links_of}
use Rattle.net_tree.proofs.Views.{next_link}
use Rattle.net_expr.specs.Widths.{with_components}
use Rattle.net_expr.proofs.width.with_components.Goals as goal

pub loop-link-preserved : goal.loop-link-preserved
loop-link-preserved c =
    ap (λ f. with_components c.args.env.now f (links_of (drop (c.loop-link.link-index + 1) c.args.links.now))) c.in_ok-form.ensures
    ∙ sym (ap (with_components c.args.env.now c.loop-link.form) (next_link c.args.links.now c.loop-link.link-index c.link-item.result c.loop-link-test.true c.link-item.is))
    ∙ c.loop-link.invariant

pub offset_bounds-links-link-index : goal.offset_bounds-links-link-index
offset_bounds-links-link-index c = grind (arith, common_steps)

pub returns : goal.returns
returns c = grind (arith, common_steps)
