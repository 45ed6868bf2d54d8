use Rattle.std.proofs.Common.{◌≡◌, ◌≤◌, ◌<◌, ◌++◌, ◌∷◌, [], length, arith, ◌∙◌, ap, vec_len, ℤ, to_z, of_z, w64}
use Rattle.std.proofs.lemmas.Grind.{common_steps}
use Rattle.std.proofs.lemmas.Int.{ints}
use Rattle.net_normal.specs.Limits.{arc_limit}
use Rattle.net_normal.proofs.Sizes.{sums_sized}
use Rattle.net_normal.proofs.NodePasses.{has_served_next, balance_sized, all_supplies, all_rooms_served}
use Rattle.net_normal.proofs.node_part.NodePart.of.Goals as goal

pub add-requires-clause-sums : goal.add-requires-clause-sums
add-requires-clause-sums c =
    let instance = c.args.instance.now in
    let p = c.requires.sums.0 in
    let few : length instance.arcs.items ≤ arc_limit = omega (arith, instance.few_arcs, instance.arcs.ok.0) in
    let inside : c.loop-node.node < length c.args.sums.now = omega (arith, c.loop-node-test.true, c.deref-range-items.ensures.len, c.requires.len) in
    sums_sized p (vec_len instance.nodes) instance.arcs.items c.loop-node.node _ instance.arcs_fit few (c.requires.sums.1 c.loop-node.node _ inside)

pub add-requires-clause-balance : goal.add-requires-clause-balance
add-requires-clause-balance c =
    let instance = c.args.instance.now in
    let p = c.requires.sums.0 in
    let upto : c.loop-node.node ≤ length instance.nodes.items = omega (arith, c.loop-node-test.true, c.deref-range-items.ensures.len, instance.nodes.ok.0) in
    balance_sized p instance c.args.arcs.items c.loop-node.node c.loop-node.part upto (c.loop-node.invariant p c.requires.sums.1)

pub loop-node-preserved : goal.loop-node-preserved
loop-node-preserved c = λ p sums.
    let h = c.in_ok-add.ensures in
    let instance = c.args.instance.now in
    let inside : c.loop-node.node < length c.args.sums.now = omega (arith, c.loop-node-test.true, c.deref-range-items.ensures.len, c.requires.len) in
    has_served_next p instance c.args.arcs.items c.deref-range-items.result.now c.loop-node.node c.len-outside.result c.range-item.result _ c.loop-node.part c.add.new.self
    c.deref-range-items.ensures.value c.len-outside.ensures c.loop-node-test.true c.range-item.is (sums c.loop-node.node _ inside) (c.loop-node.invariant p sums)
    (record { supplies = h.supplies; arcs = h.arcs; balance = h.balance })

pub returns-clause-supplies : goal.returns-clause-supplies
returns-clause-supplies c = λ p sums.
    let instance = c.args.instance.now in
    let past : length instance.nodes.items ≤ c.loop-node.node = omega (arith, c.loop-node-test.false, c.deref-range-items.ensures.len, instance.nodes.ok.0) in
    let upto : c.loop-node.node ≤ length instance.nodes.items = omega (arith, c.loop-node.auto.node-end, c.deref-range-items.ensures.len, instance.nodes.ok.0) in
    let served = c.loop-node.invariant p sums in
    let small = balance_sized p instance c.args.arcs.items c.loop-node.node c.loop-node.part upto served in
    let plain : to_z w64 (of_z w64 c.loop-node.part.balance) ≡ c.loop-node.part.balance = omega (arith, ints) in
    all_supplies p instance c.args.arcs.items c.loop-node.node c.loop-node.part c.push.new.self.items past served
    (c.in_ok-push.ensures.items ∙ ap (λ (z : ℤ). c.loop-node.part.supplies.items ++ z ∷ []) plain)

pub offset_bounds-range-items-node : goal.offset_bounds-range-items-node
offset_bounds-range-items-node c = grind (arith, common_steps)

pub add-requires-clause-few : goal.add-requires-clause-few
add-requires-clause-few c =
    let instance = c.args.instance.now in
    let served = c.loop-node.invariant c.requires.sums.0 c.requires.sums.1 in
    omega (arith, served.count, c.loop-node-test.true, c.deref-range-items.ensures.len, instance.few_nodes)

pub returns-clause-arcs : goal.returns-clause-arcs
returns-clause-arcs c =
    let instance = c.args.instance.now in
    let past : length instance.nodes.items ≤ c.loop-node.node = omega (arith, c.loop-node-test.false, c.deref-range-items.ensures.len, instance.nodes.ok.0) in
    all_rooms_served c.requires.sums.0 instance c.args.arcs.items c.loop-node.node c.loop-node.part past (c.loop-node.invariant c.requires.sums.0 c.requires.sums.1)

pub bounds-sums-node : goal.bounds-sums-node
bounds-sums-node c = grind (arith, common_steps)

pub bounds-range-items-node : goal.bounds-range-items-node
bounds-range-items-node c = grind (arith, common_steps)

pub offset_bounds-sums-node : goal.offset_bounds-sums-node
offset_bounds-sums-node c = grind (arith, common_steps)
