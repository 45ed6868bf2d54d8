use Rattle.net_tree.proofs.Views.{views}
use Rattle.std.proofs.Common.{ap, ◌∙◌, arith}
use Rattle.std.proofs.lemmas.Grind.{common_steps}
use Rattle.net_tree.specs.Weights.{weight}
use Rattle.net_expr.proofs.Cases.{in_choice}
use Rattle.net_expr.proofs.Walking.{link_lighter}
use Rattle.net_linear.proofs.Naming.{any_stops, any_goes}
use Rattle.net_linear.proofs.arc_names.+names.Goals as goal

pub links_arc-names_arc-requires : goal.links_arc-names_arc-requires
links_arc-names_arc-requires t c = omega (arith, link_lighter c.args.links.now c.loop-link.link-index c.link-item.result c.loop-link-test.true c.link-item.is)

pub names_arc-names_arc-requires-else-names_arc : goal.names_arc-names_arc-requires-else-names_arc
names_arc-names_arc-requires-else-names_arc t c =
    omega (arith, ap weight (in_choice c.args.expr.now c.in-If.condition c.in-If.branch c.get-in-If.result.now c.get-else-names_arc.result.now c.in-If.otherwise c.in-If.is c.get-in-If.ensures c.get-else-names_arc.ensures))

pub links_arc-returns-then-names_arc : goal.links_arc-returns-then-names_arc
links_arc-returns-then-names_arc t c =
    any_stops c.args.arcs.now c.args.links.now c.loop-link.link-index c.link-item.result _ c.loop-link-test.true c.link-item.is c.names_arc.ensures c.if-names_arc.true ∙ c.loop-link.invariant

pub links_arc-loop-link-preserved : goal.links_arc-loop-link-preserved
links_arc-loop-link-preserved t c =
    any_goes c.args.arcs.now c.args.links.now c.loop-link.link-index c.link-item.result _ c.loop-link-test.true c.link-item.is c.names_arc.ensures c.if-names_arc.false ∙ c.loop-link.invariant

pub any_arc-returns-then-names_arc : goal.any_arc-returns-then-names_arc
any_arc-returns-then-names_arc c = grind (arith, common_steps)

pub part_arc-returns-in-None : goal.part_arc-returns-in-None
part_arc-returns-in-None c = grind (arith, common_steps)

pub links_arc-loop-link-smaller : goal.links_arc-loop-link-smaller
links_arc-loop-link-smaller c = grind (arith, common_steps)

pub links_arc-offset_bounds-links-link-index : goal.links_arc-offset_bounds-links-link-index
links_arc-offset_bounds-links-link-index c = grind (arith, common_steps)

pub any_arc-returns-else-names_arc : goal.any_arc-returns-else-names_arc
any_arc-returns-else-names_arc c = grind (arith, common_steps)

pub links_arc-returns : goal.links_arc-returns
links_arc-returns c = grind (arith, common_steps)

pub braces_arc-any_arc-requires : goal.braces_arc-any_arc-requires
braces_arc-any_arc-requires t c = grind (arith, views)

pub braces_arc-part_arc-requires : goal.braces_arc-part_arc-requires
braces_arc-part_arc-requires t c = grind (arith, views)

pub braces_arc-part_arc-requires-else-any_arc : goal.braces_arc-part_arc-requires-else-any_arc
braces_arc-part_arc-requires-else-any_arc t c = grind (arith, views)

pub braces_arc-returns-else-any_arc : goal.braces_arc-returns-else-any_arc
braces_arc-returns-else-any_arc t c = grind (arith, views)

pub braces_arc-returns-in-Empty : goal.braces_arc-returns-in-Empty
braces_arc-returns-in-Empty t c = grind (arith, views)

pub braces_arc-returns-then-any_arc : goal.braces_arc-returns-then-any_arc
braces_arc-returns-then-any_arc t c = grind (arith, views)

pub names_arc-any_arc-requires : goal.names_arc-any_arc-requires
names_arc-any_arc-requires t c = grind (arith, views)

pub names_arc-any_arc-requires-in-Chain : goal.names_arc-any_arc-requires-in-Chain
names_arc-any_arc-requires-in-Chain t c = grind (arith, views)

pub names_arc-any_arc-requires-in-Tuple : goal.names_arc-any_arc-requires-in-Tuple
names_arc-any_arc-requires-in-Tuple t c = grind (arith, views)

pub names_arc-braces_arc-requires : goal.names_arc-braces_arc-requires
names_arc-braces_arc-requires t c = grind (arith, views)

pub names_arc-braces_arc-requires-in-Reduction : goal.names_arc-braces_arc-requires-in-Reduction
names_arc-braces_arc-requires-in-Reduction t c = grind (arith, views)

pub names_arc-names_arc-requires : goal.names_arc-names_arc-requires
names_arc-names_arc-requires t c = grind (arith, views)

pub names_arc-names_arc-requires-else-braces_arc : goal.names_arc-names_arc-requires-else-braces_arc
names_arc-names_arc-requires-else-braces_arc t c = grind (arith, views)

pub names_arc-names_arc-requires-in-If : goal.names_arc-names_arc-requires-in-If
names_arc-names_arc-requires-in-If t c = grind (arith, views)

pub names_arc-names_arc-requires-in-Negated : goal.names_arc-names_arc-requires-in-Negated
names_arc-names_arc-requires-in-Negated t c = grind (arith, views)

pub names_arc-names_arc-requires-in-Signed : goal.names_arc-names_arc-requires-in-Signed
names_arc-names_arc-requires-in-Signed t c = grind (arith, views)

pub names_arc-part_arc-requires : goal.names_arc-part_arc-requires
names_arc-part_arc-requires t c = grind (arith, views)

pub names_arc-returns-else-braces_arc : goal.names_arc-returns-else-braces_arc
names_arc-returns-else-braces_arc t c = grind (arith, views)

pub names_arc-returns-else-has : goal.names_arc-returns-else-has
names_arc-returns-else-has t c = grind (arith, views)

pub names_arc-returns-else-names_arc-2 : goal.names_arc-returns-else-names_arc-2
names_arc-returns-else-names_arc-2 t c = grind (arith, views)

pub names_arc-returns-in-Braced : goal.names_arc-returns-in-Braced
names_arc-returns-in-Braced t c = grind (arith, views)

pub names_arc-returns-in-Chain : goal.names_arc-returns-in-Chain
names_arc-returns-in-Chain t c = grind (arith, views)

pub names_arc-returns-in-Leaf : goal.names_arc-returns-in-Leaf
names_arc-returns-in-Leaf t c = grind (arith, views)

pub names_arc-returns-in-Negated : goal.names_arc-returns-in-Negated
names_arc-returns-in-Negated t c = grind (arith, views)

pub names_arc-returns-in-Net : goal.names_arc-returns-in-Net
names_arc-returns-in-Net t c = grind (arith, views)

pub names_arc-returns-in-Parens : goal.names_arc-returns-in-Parens
names_arc-returns-in-Parens t c = grind (arith, views)

pub names_arc-returns-in-Signed : goal.names_arc-returns-in-Signed
names_arc-returns-in-Signed t c = grind (arith, views)

pub names_arc-returns-in-Tuple : goal.names_arc-returns-in-Tuple
names_arc-returns-in-Tuple t c = grind (arith, views)

pub names_arc-returns-then-braces_arc : goal.names_arc-returns-then-braces_arc
names_arc-returns-then-braces_arc t c = grind (arith, views)

pub names_arc-returns-then-has : goal.names_arc-returns-then-has
names_arc-returns-then-has t c = grind (arith, views)

pub names_arc-returns-then-names_arc-2 : goal.names_arc-returns-then-names_arc-2
names_arc-returns-then-names_arc-2 t c = grind (arith, views)

pub part_arc-names_arc-requires : goal.part_arc-names_arc-requires
part_arc-names_arc-requires t c = grind (arith, views)

pub part_arc-returns-in-Some : goal.part_arc-returns-in-Some
part_arc-returns-in-Some t c = grind (arith, views)
