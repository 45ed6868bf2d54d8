use Rattle.std.proofs.Common.{◌≤◌, arith, get_or, length, ap}
use Rattle.std.proofs.lemmas.Grind.{common_steps}
use Rattle.net_normal.proofs.ArcPasses.{has_read_next, sums-small, constant_small, none_read, all_read}
use Rattle.net_normal.proofs.arc_part.ArcPart.of.Goals as goal

pub add-requires-clause-sums : goal.add-requires-clause-sums
add-requires-clause-sums c = λ k d h.
    let few : c.loop-arc.arc-index ≤ 100000 = omega (arith, c.loop-arc-test.true, c.deref-arc-items.ensures.len, c.args.instance.now.few_arcs) in
    sums-small c.loop-arc.arc-index (get_or c.loop-arc.part.sums.items k d) few (c.loop-arc.invariant.sizes k d h)

pub loop-arc-preserved : goal.loop-arc-preserved
loop-arc-preserved c =
    let h = c.in_ok-add.ensures in
    has_read_next c.args.profile c.args.instance.now c.deref-arc-items.result.now c.loop-arc.arc-index _ c.loop-arc.part c.add.new.self c.deref-arc-items.ensures.value c.loop-arc-test.true c.loop-arc.invariant
    (record { arcs = h.arcs; numbers = h.numbers; offsets = h.offsets; constant = h.constant; nodes = h.nodes; sums = h.sums })

pub returns-clause-size : goal.returns-clause-size
returns-clause-size c =
    let few : c.loop-arc.arc-index ≤ 100000 = omega (arith, c.loop-arc.auto.arc-index-end, c.deref-arc-items.ensures.len, c.args.instance.now.few_arcs) in
    constant_small c.args.profile c.args.instance.now c.loop-arc.arc-index c.loop-arc.part few c.loop-arc.invariant

pub loop-arc-init : goal.loop-arc-init
loop-arc-init c =
    let h = c.in_ok-part.ensures in
    none_read c.args.profile c.args.instance.now c.in_ok-part.part h.arcs h.numbers h.offsets h.constant h.sums

pub returns-clause-arcs : goal.returns-clause-arcs
returns-clause-arcs c =
    let past : length c.args.instance.now.arcs.items ≤ c.loop-arc.arc-index = omega (arith, c.loop-arc-test.false, ap length c.deref-arc-items.ensures.value) in
    (all_read c.args.profile c.args.instance.now c.loop-arc.arc-index c.loop-arc.part past c.loop-arc.invariant).arcs

pub returns-clause-numbers : goal.returns-clause-numbers
returns-clause-numbers c =
    let past : length c.args.instance.now.arcs.items ≤ c.loop-arc.arc-index = omega (arith, c.loop-arc-test.false, ap length c.deref-arc-items.ensures.value) in
    (all_read c.args.profile c.args.instance.now c.loop-arc.arc-index c.loop-arc.part past c.loop-arc.invariant).numbers

pub returns-clause-offsets : goal.returns-clause-offsets
returns-clause-offsets c =
    let past : length c.args.instance.now.arcs.items ≤ c.loop-arc.arc-index = omega (arith, c.loop-arc-test.false, ap length c.deref-arc-items.ensures.value) in
    (all_read c.args.profile c.args.instance.now c.loop-arc.arc-index c.loop-arc.part past c.loop-arc.invariant).offsets

pub returns-clause-constant : goal.returns-clause-constant
returns-clause-constant c =
    let past : length c.args.instance.now.arcs.items ≤ c.loop-arc.arc-index = omega (arith, c.loop-arc-test.false, ap length c.deref-arc-items.ensures.value) in
    (all_read c.args.profile c.args.instance.now c.loop-arc.arc-index c.loop-arc.part past c.loop-arc.invariant).constant

pub returns-clause-nodes : goal.returns-clause-nodes
returns-clause-nodes c =
    let past : length c.args.instance.now.arcs.items ≤ c.loop-arc.arc-index = omega (arith, c.loop-arc-test.false, ap length c.deref-arc-items.ensures.value) in
    (all_read c.args.profile c.args.instance.now c.loop-arc.arc-index c.loop-arc.part past c.loop-arc.invariant).nodes

pub returns-clause-sums : goal.returns-clause-sums
returns-clause-sums c =
    let past : length c.args.instance.now.arcs.items ≤ c.loop-arc.arc-index = omega (arith, c.loop-arc-test.false, ap length c.deref-arc-items.ensures.value) in
    (all_read c.args.profile c.args.instance.now c.loop-arc.arc-index c.loop-arc.part past c.loop-arc.invariant).sums

pub offset_bounds-arc-items-arc-index : goal.offset_bounds-arc-items-arc-index
offset_bounds-arc-items-arc-index c = grind (arith, common_steps)

pub add-requires-clause-few_nodes : goal.add-requires-clause-few_nodes
add-requires-clause-few_nodes c = grind (arith, common_steps)

pub add-requires-clause-arc : goal.add-requires-clause-arc
add-requires-clause-arc c = grind (arith, common_steps)

pub add-requires-clause-few_arcs : goal.add-requires-clause-few_arcs
add-requires-clause-few_arcs c = grind (arith, common_steps)

pub add-requires-clause-constant : goal.add-requires-clause-constant
add-requires-clause-constant c = grind (arith)
