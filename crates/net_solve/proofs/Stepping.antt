-- Steps of a run, and what they keep.
use Rattle.std.proofs.Common.{◌≡◌, ℕ, zero, suc, ◌+◌, ◌^◌, ◌<◌, Bool, true, false, cond, List, length, get_or, inl, ℤ, pos, ◌+ℤ◌, ◌≤ℤ◌, ◌<ℤ◌, neg_ℤ, vec_len, FitsSigned, to_z, of_z, w64, refl, sym, ◌∙◌, ap, subst, add-one, arith}
use Rattle.std.proofs.lemmas.Int.{ints}
use Rattle.net_normal.specs.Limits.{IsSized, IsFlowArcOf, flow_limit}
use Rattle.net_normal.specs.Flows.{IsWithinCapacity}
use Rattle.net_normal.specs.declared.problem.FlowArc.{FlowArc}
use Rattle.net_normal.specs.declared.problem.Problem.{Problem}
use Rattle.net_solve.specs.Pseudoflows.{arc_at, changed}
use Rattle.net_solve.specs.Runs.{State, Reaches, by_step, IsStep, reduced, reduced_along, factor, epsilon, tail_of, residual_of}
use Rattle.net_solve.specs.declared.carried.Carried.{Carried}
use Rattle.net_solve.specs.declared.scaling.Machine.{Machine}
use Rattle.net_solve.specs.Machines.{IsRunning, IsSendable, IsCarried, IsEpsilonOptimal, AreEpsilonOptimal}
use Rattle.net_solve.proofs.Carrying.{Known, known, set-cases}

pub one-step : (problem : Problem) (phases steps : ℕ) (old new : State) → 0 < phases → Reaches problem phases steps old → IsStep problem (epsilon problem phases) old new → Reaches problem phases (steps + 1) new
one-step problem zero steps old new some run step = absurd (omega (arith, some))
one-step problem (suc k) steps old new some run step = rw add-one (by_step run step)

-- pushes
pub pushed-within : (arc : FlowArc) (flow amount : ℤ) (forwards : Bool) → IsWithinCapacity arc flow → pos 0 <ℤ amount → amount ≤ℤ residual_of arc flow forwards → IsWithinCapacity arc (flow +ℤ cond forwards amount (neg_ℤ amount))
pushed-within arc flow amount true h some room = record { low = omega (arith, ints, h.low, some); cap = omega (arith, ints, room) }
pushed-within arc flow amount false h some room = record { low = omega (arith, ints, room); cap = omega (arith, ints, h.cap, some) }

pub change-sized : (amount : ℤ) (forwards : Bool) → IsSized flow_limit amount → IsSized flow_limit (cond forwards amount (neg_ℤ amount))
change-sized amount true h = h
change-sized amount false h = record { above = omega (arith, ints, h.below); below = omega (arith, ints, h.above) }

pub tail-inside : (n : ℕ) (arc : FlowArc) (forwards : Bool) → arc.src < n → arc.dst < n → tail_of arc forwards < n
tail-inside n arc true h k = h
tail-inside n arc false h k = k

near-pushed-one : (e cost flow amount : ℤ) (arc : FlowArc) (forwards : Bool) → pos 0 ≤ℤ e → IsEpsilonOptimal e cost arc flow → pos 0 <ℤ amount → amount ≤ℤ residual_of arc flow forwards → cond forwards cost (neg_ℤ cost) <ℤ pos 0 → IsEpsilonOptimal e cost arc (flow +ℤ cond forwards amount (neg_ℤ amount))
near-pushed-one e cost flow amount arc true plus h some room negative = record {
  forwards = λ l. h.forwards (omega (arith, ints, l, some));
  backwards = λ l. omega (arith, ints, negative, plus);
}
near-pushed-one e cost flow amount arc false plus h some room negative = record {
  forwards = λ l. omega (arith, ints, negative, plus);
  backwards = λ l. h.backwards (omega (arith, ints, l, some));
}

pub near-pushed : (problem : Problem) (e : ℕ) (flows potentials : List ℤ) (i : ℕ) (forwards : Bool) (amount : ℤ) → AreEpsilonOptimal problem e flows potentials → i < vec_len problem.arcs → i < length flows → pos 0 <ℤ amount → amount ≤ℤ residual_of (arc_at problem i) (get_or flows i (pos 0)) forwards → reduced_along (factor problem) potentials (arc_at problem i) forwards <ℤ pos 0
    → AreEpsilonOptimal problem e (changed flows i (cond forwards amount (neg_ℤ amount))) potentials
near-pushed problem e flows potentials i forwards amount h inside within some room negative = λ j l.
    set-cases (λ k y. IsEpsilonOptimal (pos e) (reduced (factor problem) potentials (arc_at problem k)) (arc_at problem k) y) flows i (get_or flows i (pos 0) +ℤ cond forwards amount (neg_ℤ amount)) (pos 0) j within
    (near-pushed-one (pos e) (reduced (factor problem) potentials (arc_at problem i)) (get_or flows i (pos 0)) amount (arc_at problem i) forwards (omega (arith, ints)) (h i inside) some room negative)
    (λ _. h j l)

pub run-pushed : (problem : Problem) (flows potentials excess : List ℤ) (phases steps i : ℕ) (forwards : Bool) (amount : ℤ) → IsCarried problem flows excess → Known problem flows i → Reaches problem phases steps (record { flows = flows; potentials = potentials }) → 0 < phases → i < vec_len problem.arcs
    → pos 0 <ℤ amount → amount ≤ℤ get_or excess (tail_of (arc_at problem i) forwards) (pos 0) → amount ≤ℤ residual_of (arc_at problem i) (get_or flows i (pos 0)) forwards → reduced_along (factor problem) potentials (arc_at problem i) forwards <ℤ pos 0
    → Reaches problem phases (steps + 1) (record { flows = changed flows i (cond forwards amount (neg_ℤ amount)); potentials = potentials })
run-pushed problem flows potentials excess phases steps i forwards amount h k run begun inside some has room negative =
    one-step problem phases steps _ _ begun run (inl (record {
      index = i;
      forwards = forwards;
      amount = amount;
      inside = inside;
      some = some;
      excess = subst (λ (x : ℤ). amount ≤ℤ x) (h.balance (tail_of (arc_at problem i) forwards) (tail-inside (vec_len problem.supplies) (arc_at problem i) forwards k.src k.dst)) has;
      room = room;
      negative = negative;
      flows = refl;
      potentials = refl;
    }))

pub plain : (x : ℤ) → FitsSigned w64 x → to_z w64 (of_z w64 x) ≡ x
plain x f = omega (arith, ints)

pub cost-plain : (x : ℤ) → IsSized (2 ^ 62) x → to_z w64 (of_z w64 x) ≡ x
cost-plain x h = omega (arith, ints, h.above, h.below)

-- what may be sent, as the code has it
pub sendable : (problem : Problem) (m : Machine) (i tail : ℕ) (forwards : Bool) (cost excess flow room r : ℤ) (arc : FlowArc) (potentials : List ℤ) → arc ≡ arc_at problem i → potentials ≡ m.potentials.items → length potentials ≡ vec_len problem.supplies
    → cost ≡ reduced (length potentials + 1) potentials arc → cond forwards cost (neg_ℤ cost) <ℤ pos 0 → tail ≡ tail_of arc forwards → excess ≡ get_or m.carried.excess.items tail (pos 0) → flow ≡ get_or m.carried.flows.items i (pos 0) → room ≡ residual_of arc flow forwards
    → r ≤ℤ room → r ≤ℤ excess → pos 0 <ℤ r → IsSendable problem m i forwards r
sendable problem m i tail forwards cost excess flow room r arc potentials arc-is potentials-is count cost-is saves tail-is excess-is flow-is room-is within has some =
    record {
      some = some;
      excess = subst (λ (x : ℤ). r ≤ℤ x) (excess-is ∙ ap (λ (v : ℕ). get_or m.carried.excess.items v (pos 0)) (tail-is ∙ ap (λ (a : FlowArc). tail_of a forwards) arc-is)) has;
      room = subst (λ (x : ℤ). r ≤ℤ x) (room-is ∙ ap (λ (a : FlowArc). residual_of a flow forwards) arc-is ∙ ap (λ (y : ℤ). residual_of (arc_at problem i) y forwards) flow-is) within;
      negative = subst (λ (x : ℤ). cond forwards x (neg_ℤ x) <ℤ pos 0) (cost-is ∙ ap (λ (n : ℕ). reduced (n + 1) potentials arc) count ∙ ap (λ (ps : List ℤ). reduced (factor problem) ps arc) potentials-is ∙ ap (reduced (factor problem) m.potentials.items) arc-is) saves;
    }

pub sent-sized : (nodes : ℕ) (arc : FlowArc) (flow r : ℤ) (forwards : Bool) → IsFlowArcOf nodes arc → IsWithinCapacity arc flow → pos 0 <ℤ r → r ≤ℤ residual_of arc flow forwards → IsSized flow_limit r
sent-sized nodes arc flow r true fits h some l = record { above = omega (arith, ints, some); below = omega (arith, ints, fits.low, fits.cap, h.low, l) }
sent-sized nodes arc flow r false fits h some l = record { above = omega (arith, ints, some); below = omega (arith, ints, fits.low, fits.cap, h.cap, l) }

pub running-pushed : (problem : Problem) (m : Machine) (carried : Carried) (i : ℕ) (forwards : Bool) (amount : ℤ) → IsRunning problem m → i < vec_len problem.arcs → IsSendable problem m i forwards amount
    → m.steps < m.budget → IsCarried problem carried.flows.items carried.excess.items → carried.flows.items ≡ changed m.carried.flows.items i (cond forwards amount (neg_ℤ amount))
    → IsRunning problem (record m { carried = carried; steps = m.steps + 1 })
running-pushed problem m carried i forwards amount h inside s under after is =
    let k = known problem m.carried.flows.items m.carried.excess.items i h.standing.carried inside in
    record {
      standing = record {
        carried = after;
        deep = h.standing.deep;
        run = subst (λ (ys : List ℤ). Reaches problem m.phases (m.steps + 1) (record { flows = ys; potentials = m.potentials.items })) (sym is)
            (run-pushed problem m.carried.flows.items m.potentials.items m.carried.excess.items m.phases m.steps i forwards amount h.standing.carried k h.standing.run h.some inside s.some s.excess s.room s.negative);
        within = omega (arith, under);
      };
      some = h.some;
      epsilon_is = h.epsilon_is;
      near = subst (λ (ys : List ℤ). AreEpsilonOptimal problem (epsilon problem m.phases) ys m.potentials.items) (sym is)
          (near-pushed problem (epsilon problem m.phases) m.carried.flows.items m.potentials.items i forwards amount h.near inside k.flow s.some s.room s.negative);
    }
