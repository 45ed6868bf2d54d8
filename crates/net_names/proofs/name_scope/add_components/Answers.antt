use Rattle.std.proofs.Common.{sym, ap, ◌∙◌, drop, ◌+◌, arith}
use Rattle.std.proofs.lemmas.Grind.{common_steps}
use Rattle.net_tree.specs.View.{links_of}
use Rattle.net_tree.proofs.Views.{next_link}
use Rattle.net_names.specs.Dummies.{with_components}
use Rattle.net_names.proofs.name_scope.add_components.Goals as goal

pub loop-link-preserved : goal.loop-link-preserved
loop-link-preserved c =
    let e = ap (with_components c.loop-link.scope) (next_link c.args.links.now c.loop-link.link-index c.link-item.result c.loop-link-test.true c.link-item.is) in
    ap (λ s. with_components s (links_of (drop (c.loop-link.link-index + 1) c.args.links.now))) c.in_ok-add_component.ensures ∙ sym e ∙ c.loop-link.invariant

pub returns : goal.returns
returns c = grind (arith, common_steps)

pub offset_bounds-links-link-index : goal.offset_bounds-links-link-index
offset_bounds-links-link-index c = grind (arith, common_steps)
