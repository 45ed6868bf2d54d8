use Rattle.std.proofs.Common.{◌≡◌, ◌*◌, ◌<◌, ◌^◌, get_or, set, cond, nat_eq, Bool, true, false, ℤ, pos, ◌+ℤ◌, ◌-ℤ◌, to_z, of_z, ap, subst, arith, vec_len}
use Rattle.std.proofs.lemmas.Grind.{common_steps}
use Rattle.std.proofs.lemmas.Int.{ints}
use Rattle.std.proofs.lemmas.List.{get_or_read}
use mir.Syntax.{w128}
use Rattle.net_normal.specs.Limits.{IsSized, flow_limit}
use Rattle.net_normal.specs.declared.problem.FlowArc.{FlowArc}
use Rattle.net_solve.specs.Pseudoflows.{no_arc, arc_at}
use Rattle.net_solve.proofs.Changes.{two_steps, added, added-fits}
use Rattle.net_solve.proofs.Carrying.{known, new-sized, excess-sized, carried-after}
use Rattle.net_solve.proofs.carried.Carried.shift.Goals as goal

pub index_mut-requires : goal.index_mut-requires
index_mut-requires c = omega (arith, c.requires.index, c.args.self.now.flows.ok.0, c.requires.carried.flows_count)

pub overflow_add-index_mut : goal.overflow_add-index_mut
overflow_add-index_mut c =
    let k = known c.args.problem.now c.args.self.now.flows.items _ c.args.index c.requires.carried c.requires.index in
    added-fits _ _ c.args.amount.now (get_or_read c.args.self.now.flows.items _ _ k.flow c.index_mut.ensures.value (pos 0)) k.old c.requires.amount (new-sized c.args.problem.now c.args.index _ k.arc c.requires.within)

pub add_at-requires-clause-node : goal.add_at-requires-clause-node
add_at-requires-clause-node c =
    let problem = c.args.problem.now in
    let k = known problem c.args.self.now.flows.items _ c.args.index c.requires.carried c.requires.index in
    let arc : c.index-arc.result.now ≡ arc_at problem c.args.index = get_or_read problem.arcs.items _ _ k.arc c.index-arc.ensures no_arc in
    omega (arith, ap (λ (a : FlowArc). a.src) arc, k.src, c.requires.carried.excess_count, c.args.self.now.excess.ok.0)

pub add_at-requires-clause-size : goal.add_at-requires-clause-size
add_at-requires-clause-size c =
    let problem = c.args.problem.now in
    let k = known problem c.args.self.now.flows.items _ c.args.index c.requires.carried c.requires.index in
    let arc : c.index-arc.result.now ≡ arc_at problem c.args.index = get_or_read problem.arcs.items _ _ k.arc c.index-arc.ensures no_arc in
    let small = excess-sized problem _ c.args.self.now.excess.items c.requires.carried (c.index-arc.result.now).src (omega (arith, ap (λ (a : FlowArc). a.src) arc, k.src)) in
    record { above = omega (arith, ints, small.above); below = omega (arith, ints, small.below) }

-- an amount away from a small number
near : (b : Bool) (x y z : ℤ) → IsSized (2 * 10 ^ 24) x → IsSized flow_limit z → y ≡ x +ℤ cond b z (pos 0) → IsSized (10 ^ 25) y
near true x y z h k e = record { above = omega (arith, ints, h.above, k.above, e); below = omega (arith, ints, h.below, k.below, e) }
near false x y z h k e = record { above = omega (arith, ints, h.above, e); below = omega (arith, ints, h.below, e) }

pub add_at-requires-2-clause-size : goal.add_at-requires-2-clause-size
add_at-requires-2-clause-size c =
    let problem = c.args.problem.now in
    let k = known problem c.args.self.now.flows.items _ c.args.index c.requires.carried c.requires.index in
    let arc : c.index-arc.result.now ≡ arc_at problem c.args.index = get_or_read problem.arcs.items _ _ k.arc c.index-arc.ensures no_arc in
    let l : c.index-arc.result.now.dst < vec_len problem.supplies = omega (arith, ap (λ (a : FlowArc). a.dst) arc, k.dst) in
    let m : c.index-arc.result.now.dst < vec_len c.args.self.now.excess = omega (arith, l, c.requires.carried.excess_count, c.args.self.now.excess.ok.0) in
    let small = excess-sized problem _ c.args.self.now.excess.items c.requires.carried c.index-arc.result.now.dst l in
    let amount = c.requires.amount in
    near (nat_eq c.index-arc.result.now.src c.index-arc.result.now.dst) (get_or c.args.self.now.excess.items c.index-arc.result.now.dst (pos 0)) (get_or c.add_at.new.numbers.items c.index-arc.result.now.dst (pos 0)) (to_z w128 (of_z w128 (pos 0 -ℤ to_z w128 (of_z w128 c.from-amount.result)))) small (record { above = omega (arith, ints, c.from-amount.ensures, amount.above, amount.below); below = omega (arith, ints, c.from-amount.ensures, amount.above, amount.below) }) (c.add_at.ensures.value c.index-arc.result.now.dst m)

pub returns-clause-carried : goal.returns-clause-carried
returns-clause-carried c =
    let problem = c.args.problem.now in
    let k = known problem c.args.self.now.flows.items _ c.args.index c.requires.carried c.requires.index in
    let arc : c.index-arc.result.now ≡ arc_at problem c.args.index = get_or_read problem.arcs.items _ _ k.arc c.index-arc.ensures no_arc in
    let amount = c.requires.amount in
    let excess = c.args.self.now.excess in
    carried-after problem c.args.self.now.flows.items excess.items c.add_at-2.new.numbers.items c.args.index c.args.amount.now _ c.requires.carried k c.requires.within
    (added _ _ c.args.amount.now (get_or_read c.args.self.now.flows.items _ _ k.flow c.index_mut.ensures.value (pos 0)) k.old amount (new-sized problem c.args.index _ k.arc c.requires.within))
    (omega (arith, c.add_at-2.new.numbers.ok.0, c.add_at-2.ensures.len, c.add_at.ensures.len, c.requires.carried.excess_count, excess.ok.0))
    (λ v l.
    let m : v < vec_len excess = omega (arith, l, c.requires.carried.excess_count, excess.ok.0) in
    let n : v < vec_len c.add_at.new.numbers = omega (arith, m, c.add_at.ensures.len) in
    let steps = two_steps (nat_eq c.index-arc.result.now.src v) (nat_eq c.index-arc.result.now.dst v) (get_or excess.items v (pos 0)) (get_or c.add_at.new.numbers.items v (pos 0)) (get_or c.add_at-2.new.numbers.items v (pos 0)) c.args.amount.now (to_z w128 (of_z w128 (pos 0 -ℤ to_z w128 (of_z w128 c.from-amount.result)))) (to_z w128 (of_z w128 c.from-amount.result)) (c.add_at.ensures.value v m) (c.add_at-2.ensures.value v n) (omega (arith, ints, c.from-amount.ensures, amount.above, amount.below)) (omega (arith, ints, c.from-amount.ensures, amount.above, amount.below)) in
    subst (λ (a : FlowArc). get_or c.add_at-2.new.numbers.items v (pos 0) ≡ (get_or excess.items v (pos 0) -ℤ cond (nat_eq a.src v) c.args.amount.now (pos 0)) +ℤ cond (nat_eq a.dst v) c.args.amount.now (pos 0)) arc steps)

pub returns-clause-flows : goal.returns-clause-flows
returns-clause-flows c =
    let problem = c.args.problem.now in
    let k = known problem c.args.self.now.flows.items _ c.args.index c.requires.carried c.requires.index in
    ap (λ (y : ℤ). set c.args.self.now.flows.items c.args.index y) (added _ _ c.args.amount.now (get_or_read c.args.self.now.flows.items _ _ k.flow c.index_mut.ensures.value (pos 0)) k.old c.requires.amount (new-sized problem c.args.index _ k.arc c.requires.within))

pub add_at-requires-clause-amount : goal.add_at-requires-clause-amount
add_at-requires-clause-amount c = grind (arith, common_steps)

pub overflow_sub-amount : goal.overflow_sub-amount
overflow_sub-amount c = grind (arith, common_steps)

pub add_at-requires-2-clause-amount : goal.add_at-requires-2-clause-amount
add_at-requires-2-clause-amount c = grind (arith, common_steps)

pub add_at-requires-2-clause-node : goal.add_at-requires-2-clause-node
add_at-requires-2-clause-node c = grind (arith, common_steps)
