use Rattle.std.proofs.Common.{◌≡◌, ℕ, ◌<◌, length, get_or, pos, to_z, of_z, w64, FitsSigned, rules, sym, ◌∙◌, ap, subst, arith, vec_len}
use Rattle.std.specs.Int.{w128}
use Rattle.std.proofs.lemmas.Int.{ints}
use Rattle.std.proofs.lemmas.List.{get_or_read}
use Rattle.net_normal.specs.Flows.{IsWithinCapacity}
use Rattle.net_normal.specs.declared.problem.FlowArc.{FlowArc}
use Rattle.net_solve.specs.Pseudoflows.{no_arc, arc_at}
use Rattle.net_solve.specs.Runs.{tail_of}
use Rattle.net_solve.proofs.Carrying.{known, excess-sized}
use Rattle.net_solve.proofs.Stepping.{plain, cost-plain, sendable, tail-inside}
use Rattle.std.proofs.lemmas.Grind.{common_steps}
use Rattle.net_solve.proofs.scaling.Machine.sendable.Goals as goal

pub residual_of-room-requires-clause-within : goal.residual_of-room-requires-clause-within
residual_of-room-requires-clause-within c =
    let problem = c.args.problem.now in
    let flows = c.args.self.now.carried.flows.items in
    let k = known problem flows _ c.args.index c.requires.running.standing.carried c.requires.index in
    let arc : c.index.result.now ≡ arc_at problem c.args.index = get_or_read problem.arcs.items _ _ k.arc c.index.ensures no_arc in
    let flow : c.index-3.result.now ≡ get_or flows c.args.index (pos 0) = get_or_read flows _ _ k.flow c.index-3.ensures (pos 0) in
    subst (λ (a : FlowArc). IsWithinCapacity a c.index-3.result.now) (sym arc) (subst (IsWithinCapacity (arc_at problem c.args.index)) (sym flow) k.within)

pub returns : goal.returns
returns c = λ some.
    let problem = c.args.problem.now in
    let m = c.args.self.now in
    let h = c.requires.running.standing in
    let k = known problem m.carried.flows.items _ c.args.index h.carried c.requires.index in
    let arc : c.index.result.now ≡ arc_at problem c.args.index = get_or_read problem.arcs.items _ _ k.arc c.index.ensures no_arc in
    let flow : c.index-3.result.now ≡ get_or m.carried.flows.items c.args.index (pos 0) = get_or_read m.carried.flows.items _ _ k.flow c.index-3.ensures (pos 0) in
    let tail : c.tail_of-tail.result < vec_len problem.supplies = subst (λ (v : ℕ). v < vec_len problem.supplies) (sym (c.tail_of-tail.ensures ∙ ap (λ (a : FlowArc). tail_of a c.args.forwards) arc)) (tail-inside (vec_len problem.supplies) (arc_at problem c.args.index) c.args.forwards k.src k.dst) in
    let excess : c.index-2.result.now ≡ get_or m.carried.excess.items c.tail_of-tail.result (pos 0) = get_or_read m.carried.excess.items _ _ (omega (arith, tail, h.carried.excess_count)) c.index-2.ensures (pos 0) in
    let small = excess-sized problem m.carried.flows.items m.carried.excess.items h.carried c.tail_of-tail.result tail in
    let f : FitsSigned w64 c.amount_of.result = search rules in
    let g : FitsSigned w64 c.residual_of-room.result = search rules in
    let p = plain c.amount_of.result f in
    let q = plain c.residual_of-room.result g in
    let wide : to_z w128 (of_z w128 c.index-2.result.now) ≡ c.index-2.result.now = omega (arith, ints, excess, small.above, small.below) in
    sendable problem m c.args.index c.tail_of-tail.result c.args.forwards (to_z w64 (of_z w64 c.reduced-cost.result)) c.index-2.result.now c.index-3.result.now c.residual_of-room.result _ c.index.result.now c.deref.result.now
    arc c.deref.ensures.value (ap length c.deref.ensures.value ∙ h.deep.count) (cost-plain c.reduced-cost.result c.reduced-cost.ensures.size ∙ c.reduced-cost.ensures.value) (c.saves.ensures c.if-not-saves.false) c.tail_of-tail.ensures excess flow c.residual_of-room.ensures (omega (arith, ints, p, q, c.amount_of.ensures.room)) (omega (arith, ints, p, wide, c.amount_of.ensures.excess)) some

pub index-requires-2 : goal.index-requires-2
index-requires-2 c = grind (arith)

pub reduced-cost-requires-clause-arc : goal.reduced-cost-requires-clause-arc
reduced-cost-requires-clause-arc c = grind (arith)

pub reduced-cost-requires-clause-deep : goal.reduced-cost-requires-clause-deep
reduced-cost-requires-clause-deep c = grind (arith)

pub residual_of-room-requires-clause-arc : goal.residual_of-room-requires-clause-arc
residual_of-room-requires-clause-arc c = grind (arith)

pub saves-requires : goal.saves-requires
saves-requires c = grind (arith)

pub amount_of-requires : goal.amount_of-requires
amount_of-requires c = grind (arith, common_steps)
