use Rattle.std.proofs.Common.{◌≡◌, ℕ, Bool, cond, List, get_or, ℤ, pos, neg_ℤ, ◌+ℤ◌, ◌-ℤ◌, ◌<ℤ◌, ◌≤ℤ◌, to_z, of_z, w64, vec_len, sym, ◌∙◌, ap, subst, arith}
use Rattle.std.proofs.lemmas.Grind.{common_steps}
use Rattle.std.proofs.lemmas.Int.{ints}
use Rattle.std.proofs.lemmas.List.{get_or_read, get_or-set_other}
use Rattle.net_normal.specs.Limits.{IsSized, IsFlowArcOf, flow_limit}
use Rattle.net_normal.specs.Flows.{IsWithinCapacity}
use Rattle.net_normal.specs.declared.problem.FlowArc.{FlowArc}
use Rattle.net_normal.specs.declared.problem.Problem.{Problem}
use Rattle.net_solve.specs.Pseudoflows.{no_arc, arc_at}
use Rattle.net_solve.specs.Forests.{residual_of}
use Rattle.net_solve.specs.declared.forest.Joined.{Joined}
use Rattle.net_solve.proofs.SentAmounts.{known, room-small, sent-within, signed-small, moved}
use Rattle.net_solve.proofs.pseudoflow.Pseudoflow.send.Goals as goal

pub index-requires-2 : goal.index-requires-2
index-requires-2 c =
    let k = known c.args.problem.now c.args.self.now.flows.items _ c.args.self.now.excess.items c.args.joined.now c.requires.under_way c.requires.index c.requires.head in
    omega (arith, k.flow, c.args.self.now.flows.ok.0)

pub room-room-requires : goal.room-room-requires
room-room-requires c =
    let problem = c.args.problem.now in
    let flows = c.args.self.now.flows.items in
    let j = c.args.joined.now in
    let k = known problem flows _ c.args.self.now.excess.items j c.requires.under_way c.requires.index c.requires.head in
    let arc : c.index.result.now ≡ arc_at problem j.index = get_or_read problem.arcs.items _ _ k.arc c.index.ensures no_arc in
    let flow : c.index-2.result.now ≡ get_or flows j.index (pos 0) = get_or_read flows _ _ k.flow c.index-2.ensures (pos 0) in
    (vec_len problem.supplies, subst (IsFlowArcOf (vec_len problem.supplies)) (sym arc) k.fits, subst (λ (a : FlowArc). IsWithinCapacity a c.index-2.result.now) (sym arc) (subst (IsWithinCapacity (arc_at problem j.index)) (sym flow) k.within))

-- the room is what the contract speaks of
room-is : (problem : Problem) (flows : List ℤ) (j : Joined) (arc : FlowArc) (flow room : ℤ) → arc ≡ arc_at problem j.index → flow ≡ get_or flows j.index (pos 0) → room ≡ residual_of j arc flow → room ≡ residual_of j (arc_at problem j.index) (get_or flows j.index (pos 0))
room-is problem flows j arc flow room a f is = is ∙ ap (λ (x : FlowArc). residual_of j x flow) a ∙ ap (residual_of j (arc_at problem j.index)) f

pub amount_of-amount-requires-clause-room : goal.amount_of-amount-requires-clause-room
amount_of-amount-requires-clause-room c =
    let problem = c.args.problem.now in
    let flows = c.args.self.now.flows.items in
    let j = c.args.joined.now in
    let k = known problem flows _ c.args.self.now.excess.items j c.requires.under_way c.requires.index c.requires.head in
    let is = room-is problem flows j _ _ c.room-room.result (get_or_read problem.arcs.items _ _ k.arc c.index.ensures no_arc) (get_or_read flows _ _ k.flow c.index-2.ensures (pos 0)) c.room-room.ensures in
    let small = room-small j.forwards (vec_len problem.supplies) (arc_at problem j.index) (get_or flows j.index (pos 0)) k.fits k.within in
    omega (arith, ints, is, small.above, small.below, c.requires.room)

pub amount_of-amount-requires-clause-size : goal.amount_of-amount-requires-clause-size
amount_of-amount-requires-clause-size c =
    let excess = c.args.self.now.excess.items in
    let j = c.args.joined.now in
    let k = known c.args.problem.now c.args.self.now.flows.items _ excess j c.requires.under_way c.requires.index c.requires.head in
    let here : c.index-3.result.now ≡ get_or excess j.node (pos 0) = get_or_read excess _ _ k.place c.index-3.ensures (pos 0) in
    record { above = omega (arith, ints, here, k.size.above); below = omega (arith, ints, here, k.size.below) }

-- what goes is small, and within the room
amount-small : (b : Bool) (n : ℕ) (arc : FlowArc) (x room d : ℤ) → IsFlowArcOf n arc → IsWithinCapacity arc x → room ≡ cond b (arc.cap -ℤ x) (x -ℤ arc.low) → pos 0 <ℤ d → d ≤ℤ to_z w64 (of_z w64 room)
    → IsSized flow_limit (to_z w64 (of_z w64 d)) × ((pos 0 <ℤ to_z w64 (of_z w64 d)) × (to_z w64 (of_z w64 d) ≤ℤ cond b (arc.cap -ℤ x) (x -ℤ arc.low)))
amount-small b n arc x room d fits within is some upto =
    let small = room-small b n arc x fits within in (
      record { above = omega (arith, ints, is, small.above, small.below, some, upto); below = omega (arith, ints, is, small.above, small.below, some, upto) },
      (omega (arith, ints, is, small.above, small.below, some, upto), omega (arith, ints, is, small.above, small.below, some, upto)),
    )

pub push-requires-clause-amount : goal.push-requires-clause-amount
push-requires-clause-amount c =
    let problem = c.args.problem.now in
    let flows = c.args.self.now.flows.items in
    let j = c.args.joined.now in
    let k = known problem flows _ c.args.self.now.excess.items j c.requires.under_way c.requires.index c.requires.head in
    let is = room-is problem flows j _ _ c.room-room.result (get_or_read problem.arcs.items _ _ k.arc c.index.ensures no_arc) (get_or_read flows _ _ k.flow c.index-2.ensures (pos 0)) c.room-room.ensures in
    let d : ℤ = to_z w64 (of_z w64 c.amount_of-amount.result) in
    let small = amount-small j.forwards (vec_len problem.supplies) (arc_at problem j.index) (get_or flows j.index (pos 0)) c.room-room.result c.amount_of-amount.result k.fits k.within is c.amount_of-amount.ensures.positive c.amount_of-amount.ensures.within in
    let size = signed-small j.forwards d small.0 in
    let plain : to_z w64 (of_z w64 c.ahead.result) ≡ cond j.forwards d (neg_ℤ d) = omega (arith, ints, c.ahead.ensures, size.above, size.below) in
    subst (IsSized flow_limit) (sym plain) size

pub push-requires-clause-within : goal.push-requires-clause-within
push-requires-clause-within c =
    let problem = c.args.problem.now in
    let flows = c.args.self.now.flows.items in
    let j = c.args.joined.now in
    let k = known problem flows _ c.args.self.now.excess.items j c.requires.under_way c.requires.index c.requires.head in
    let is = room-is problem flows j _ _ c.room-room.result (get_or_read problem.arcs.items _ _ k.arc c.index.ensures no_arc) (get_or_read flows _ _ k.flow c.index-2.ensures (pos 0)) c.room-room.ensures in
    let d : ℤ = to_z w64 (of_z w64 c.amount_of-amount.result) in
    let small = amount-small j.forwards (vec_len problem.supplies) (arc_at problem j.index) (get_or flows j.index (pos 0)) c.room-room.result c.amount_of-amount.result k.fits k.within is c.amount_of-amount.ensures.positive c.amount_of-amount.ensures.within in
    let size = signed-small j.forwards d small.0 in
    let plain : to_z w64 (of_z w64 c.ahead.result) ≡ cond j.forwards d (neg_ℤ d) = omega (arith, ints, c.ahead.ensures, size.above, size.below) in
    subst (λ (z : ℤ). IsWithinCapacity (arc_at problem j.index) (get_or flows j.index (pos 0) +ℤ z)) (sym plain) (sent-within j.forwards (arc_at problem j.index) (get_or flows j.index (pos 0)) d k.within small.1.0 small.1.1)

pub returns-clause-moves : goal.returns-clause-moves
returns-clause-moves c = λ w l.
    let problem = c.args.problem.now in
    let flows = c.args.self.now.flows.items in
    let j = c.args.joined.now in
    let k = known problem flows _ c.args.self.now.excess.items j c.requires.under_way c.requires.index c.requires.head in
    let is = room-is problem flows j _ _ c.room-room.result (get_or_read problem.arcs.items _ _ k.arc c.index.ensures no_arc) (get_or_read flows _ _ k.flow c.index-2.ensures (pos 0)) c.room-room.ensures in
    let d : ℤ = to_z w64 (of_z w64 c.amount_of-amount.result) in
    let small = amount-small j.forwards (vec_len problem.supplies) (arc_at problem j.index) (get_or flows j.index (pos 0)) c.room-room.result c.amount_of-amount.result k.fits k.within is c.amount_of-amount.ensures.positive c.amount_of-amount.ensures.within in
    let size = signed-small j.forwards d small.0 in
    let plain : to_z w64 (of_z w64 c.ahead.result) ≡ cond j.forwards d (neg_ℤ d) = omega (arith, ints, c.ahead.ensures, size.above, size.below) in
    let arc = arc_at problem j.index in
    moved j.forwards arc.src arc.dst j.node w (get_or c.args.self.now.excess.items w (pos 0)) (get_or c.push.new.self.excess.items w (pos 0)) (to_z w64 (of_z w64 c.ahead.result)) d plain c.requires.head (c.push.ensures.excess w l)

pub index-requires-3 : goal.index-requires-3
index-requires-3 c =
    let k = known c.args.problem.now c.args.self.now.flows.items _ c.args.self.now.excess.items c.args.joined.now c.requires.under_way c.requires.index c.requires.head in
    omega (arith, k.place, c.args.self.now.excess.ok.0)

pub amount_of-amount-requires-clause-deficit : goal.amount_of-amount-requires-clause-deficit
amount_of-amount-requires-clause-deficit c =
    let excess = c.args.self.now.excess.items in
    let k = known c.args.problem.now c.args.self.now.flows.items _ excess c.args.joined.now c.requires.under_way c.requires.index c.requires.head in
    subst (λ (z : ℤ). z <ℤ pos 0) (sym (get_or_read excess _ _ k.place c.index-3.ensures (pos 0))) c.requires.deficit

pub returns-clause-positive : goal.returns-clause-positive
returns-clause-positive c =
    let problem = c.args.problem.now in
    let flows = c.args.self.now.flows.items in
    let j = c.args.joined.now in
    let k = known problem flows _ c.args.self.now.excess.items j c.requires.under_way c.requires.index c.requires.head in
    let is = room-is problem flows j _ _ c.room-room.result (get_or_read problem.arcs.items _ _ k.arc c.index.ensures no_arc) (get_or_read flows _ _ k.flow c.index-2.ensures (pos 0)) c.room-room.ensures in
    (amount-small j.forwards (vec_len problem.supplies) (arc_at problem j.index) (get_or flows j.index (pos 0)) c.room-room.result c.amount_of-amount.result k.fits k.within is c.amount_of-amount.ensures.positive c.amount_of-amount.ensures.within).1.0

-- what goes is no more than is wanted
wanted : (b : Bool) (n : ℕ) (arc : FlowArc) (x room excess read d : ℤ) → IsFlowArcOf n arc → IsWithinCapacity arc x → room ≡ cond b (arc.cap -ℤ x) (x -ℤ arc.low) → pos 0 <ℤ d → d ≤ℤ to_z w64 (of_z w64 room) → read ≡ excess → (read +ℤ d) ≤ℤ pos 0 → (excess +ℤ to_z w64 (of_z w64 d)) ≤ℤ pos 0
wanted b n arc x room excess read d fits within is some upto same h =
    let small = room-small b n arc x fits within in
    omega (arith, ints, is, small.above, small.below, some, upto, same, h)

pub returns-clause-wanted : goal.returns-clause-wanted
returns-clause-wanted c =
    let problem = c.args.problem.now in
    let flows = c.args.self.now.flows.items in
    let excess = c.args.self.now.excess.items in
    let j = c.args.joined.now in
    let k = known problem flows _ excess j c.requires.under_way c.requires.index c.requires.head in
    let is = room-is problem flows j _ _ c.room-room.result (get_or_read problem.arcs.items _ _ k.arc c.index.ensures no_arc) (get_or_read flows _ _ k.flow c.index-2.ensures (pos 0)) c.room-room.ensures in
    wanted j.forwards (vec_len problem.supplies) (arc_at problem j.index) (get_or flows j.index (pos 0)) c.room-room.result _ c.index-3.result.now c.amount_of-amount.result k.fits k.within is
    c.amount_of-amount.ensures.positive c.amount_of-amount.ensures.within (get_or_read excess _ _ k.place c.index-3.ensures (pos 0)) c.amount_of-amount.ensures.wanted

pub returns-clause-others : goal.returns-clause-others
returns-clause-others c = λ k ne. ap (λ (xs : List ℤ). get_or xs k (pos 0)) c.push.ensures.flows ∙ get_or-set_other c.args.self.now.flows.items c.args.joined.now.index k _ (pos 0) ne

pub returns-clause-potentials : goal.returns-clause-potentials
returns-clause-potentials c = grind (arith, common_steps)

pub push-requires-clause-level : goal.push-requires-clause-level
push-requires-clause-level c = grind (arith, common_steps)

pub ahead-requires : goal.ahead-requires
ahead-requires c = grind (arith, common_steps)

pub push-requires-clause-index : goal.push-requires-clause-index
push-requires-clause-index c = grind (arith, common_steps)

pub returns-clause-under_way : goal.returns-clause-under_way
returns-clause-under_way c = grind (arith, common_steps)

pub index-requires : goal.index-requires
index-requires c = grind (arith, common_steps)

pub push-requires-clause-under_way : goal.push-requires-clause-under_way
push-requires-clause-under_way c = grind (arith, common_steps)
