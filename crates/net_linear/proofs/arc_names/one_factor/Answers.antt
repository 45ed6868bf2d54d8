use Rattle.std.proofs.Common.{ap, sym, ◌∙◌, ◌+◌, drop, arith}
use Rattle.std.proofs.lemmas.Grind.{common_steps}
use Rattle.net_tree.specs.View.{links_of}
use Rattle.net_linear.specs.Objectives.{one_factor}
use Rattle.net_linear.proofs.Naming.{factor_stops, factor_goes}
use Rattle.net_linear.proofs.arc_names.one_factor.Goals as goal

pub returns-then-not-may_join : goal.returns-then-not-may_join
returns-then-not-may_join c =
    factor_stops c.args.arcs.now c.args.links.now c.loop-link.link-index c.link-item.result c.op.result c.loop-link.before c.names_arc-here.result c.loop-link-test.true c.link-item.is c.op.ensures c.names_arc-here.ensures
    (sym c.may_join.ensures ∙ c.if-not-may_join.true)
    ∙ c.loop-link.invariant

pub loop-link-preserved : goal.loop-link-preserved
loop-link-preserved c =
    ap (λ b. one_factor c.args.arcs.now b (links_of (drop (c.loop-link.link-index + 1) c.args.links.now))) c.either-before.ensures
    ∙ factor_goes c.args.arcs.now c.args.links.now c.loop-link.link-index c.link-item.result c.op.result c.loop-link.before c.names_arc-here.result c.loop-link-test.true c.link-item.is c.op.ensures c.names_arc-here.ensures
    (sym c.may_join.ensures ∙ c.if-not-may_join.false)
    ∙ c.loop-link.invariant

pub offset_bounds-links-link-index : goal.offset_bounds-links-link-index
offset_bounds-links-link-index c = grind (arith, common_steps)

pub returns : goal.returns
returns c = grind (arith, common_steps)
