-- How a phase begins, and how many phases there are.
use Rattle.std.proofs.Common.{◌≡◌, ℕ, zero, suc, ◌+◌, ◌*◌, ◌/◌, ◌^◌, ◌<◌, ◌≤◌, max, get_or, inl, inr, ℤ, pos, negsuc, ◌-ℤ◌, ◌≤ℤ◌, FitsSigned, to_z, of_z, w64, subst, add-one, arith}
use Rattle.std.proofs.lemmas.Int.{ints}
use Rattle.std.proofs.lemmas.Bool.{cases_lt}
use Rattle.std.proofs.Math.Nat.{mul-div-le, mul-le-mul_left}
use Rattle.std.proofs.Math.Pow.{pow_mono}
use Rattle.net_normal.specs.Limits.{IsSized, IsFlowArcOf, flow_limit}
use Rattle.net_normal.specs.Flows.{IsWithinCapacity}
use Rattle.net_normal.specs.declared.problem.FlowArc.{FlowArc}
use Rattle.net_normal.specs.declared.problem.Problem.{Problem}
use Rattle.net_solve.specs.Pseudoflows.{arc_at}
use Rattle.net_solve.specs.declared.carried.Carried.{Carried}
use Rattle.net_solve.specs.declared.scaling.Machine.{Machine}
use Rattle.net_solve.specs.Runs.{State, Reaches, by_phase, by_step, MayBegin, Begins, Saturates, reduced, factor, epsilon, greatest_scaled}
use Rattle.net_solve.specs.Machines.{IsCarried, IsEpsilonOptimal, AreEpsilonOptimal, IsConsistent, IsRunning, state_of}

pub saturated-here : (cost r y z flow : ℤ) (arc a : FlowArc) → arc ≡ a → cost ≡ r → flow ≡ y → Saturates cost arc flow z → Saturates r a y z
saturated-here cost r y z flow arc a e h k s = subst (λ (b : FlowArc). Saturates r b y z) e (subst (λ (x : ℤ). Saturates x arc y z) h (subst (λ (x : ℤ). Saturates cost arc x z) k s))

pub difference-plain : (t y : ℤ) → IsSized flow_limit t → IsSized flow_limit y → to_z w64 (of_z w64 (to_z w64 (of_z w64 t) -ℤ to_z w64 (of_z w64 y))) ≡ t -ℤ y
difference-plain t y h k = omega (arith, ints, h.above, h.below, k.above, k.below)

pub difference-fits : (t y : ℤ) → IsSized flow_limit t → IsSized flow_limit y → FitsSigned w64 (to_z w64 (of_z w64 t) -ℤ to_z w64 (of_z w64 y))
difference-fits t y h k = omega (arith, ints, h.above, h.below, k.above, k.below)

pub difference-sized : (nodes : ℕ) (arc : FlowArc) (t y : ℤ) → IsFlowArcOf nodes arc → IsWithinCapacity arc t → IsWithinCapacity arc y → IsSized flow_limit (t -ℤ y)
difference-sized nodes arc t y fits h k = record { above = omega (arith, ints, fits.low, fits.cap, h.low, k.cap); below = omega (arith, ints, fits.low, fits.cap, h.cap, k.low) }

-- where a phase begins no residual arc has a negative reduced cost
near-saturated : (e cost old new : ℤ) (arc : FlowArc) → pos 0 ≤ℤ e → Saturates cost arc old new → IsEpsilonOptimal e cost arc new
near-saturated e (pos zero) old new arc plus s = record { forwards = λ l. omega (arith, ints, plus); backwards = λ l. omega (arith, ints, plus) }
near-saturated e (pos (suc n)) old new arc plus s = record { forwards = λ l. omega (arith, ints, plus); backwards = λ l. absurd (omega (arith, ints, s.positive (omega (arith, ints)), l)) }
near-saturated e (negsuc n) old new arc plus s = record { forwards = λ l. absurd (omega (arith, ints, s.negative (omega (arith, ints)), l)); backwards = λ l. omega (arith, ints, plus) }

pub near-begun : (problem : Problem) (e : ℕ) (old new : State) → Begins problem old new → AreEpsilonOptimal problem e new.flows old.potentials
near-begun problem e old new h = λ i l. near-saturated (pos e) (reduced (factor problem) old.potentials (arc_at problem i)) (get_or old.flows i (pos 0)) (get_or new.flows i (pos 0)) (arc_at problem i) (omega (arith, ints)) (h.arcs i l)

-- there are at most as many phases as the greatest scaled cost has binary digits
smaller-power : (p d : ℕ) → 2 ^ p * 2 < 2 ^ d → p + 1 ≤ d
smaller-power p d h = elim (cases_lt p d) as (λ _. p + 1 ≤ d) [
  | inl l ↦ omega (arith, l)
  | inr l ↦ let m = pow_mono {i = d} {j = p} l in absurd (omega (arith, h, m))
]

halved : (x p d : ℕ) → x < 2 ^ d → 1 < max 1 (x / 2 ^ p) → p + 1 ≤ d
halved x p d small more =
    let two : 2 ≤ x / 2 ^ p = omega (arith, more) in
    let below = mul-div-le x (2 ^ p) in
    let times = mul-le-mul_left (2 ^ p) two in
    smaller-power p d (omega (arith, small, below, times))

pub phases-few : (problem : Problem) (d : ℕ) → 0 < d → greatest_scaled problem < 2 ^ d → (phases steps : ℕ) (state : State) → Reaches problem phases steps state → phases ≤ d
phases-few problem d some small zero steps state run = omega arith
phases-few problem d some small (suc p) steps state (by_phase run (inl first) begins) = omega (arith, first, some)
phases-few problem d some small (suc p) steps state (by_phase run (inr more) begins) = omega (arith, halved (greatest_scaled problem) p d small more.1)
phases-few problem d some small (suc p) (suc s) state (by_step run step) = phases-few problem d some small (suc p) s _ run

-- before a phase begins one more still fits
pub phases-next : (problem : Problem) (d phases steps : ℕ) (state : State) → 0 < d → greatest_scaled problem < 2 ^ d → MayBegin problem phases state → phases + 1 ≤ d
phases-next problem d phases steps state some small (inl first) = omega (arith, first, some)
phases-next problem d phases steps state some small (inr more) = omega (arith, halved (greatest_scaled problem) phases d small more.1)

pub run-begun : (problem : Problem) (phases steps : ℕ) (old new : State) → Reaches problem phases steps old → MayBegin problem phases old → Begins problem old new → Reaches problem (phases + 1) steps new
run-begun problem phases steps old new run may begins = rw add-one (by_phase run may begins)

pub running-begun : (problem : Problem) (m : Machine) (carried : Carried) (e : ℤ) → IsConsistent problem m → MayBegin problem m.phases (state_of m) → IsCarried problem carried.flows.items carried.excess.items
    → Begins problem (state_of m) (record { flows = carried.flows.items; potentials = m.potentials.items }) → e ≡ pos (epsilon problem (m.phases + 1)) → IsRunning problem (record m { carried = carried; phases = m.phases + 1; epsilon = e })
running-begun problem m carried e h may after begins is = record {
  standing = record {
    carried = after;
    deep = h.deep;
    run = run-begun problem m.phases m.steps _ _ h.run may begins;
    within = h.within;
  };
  some = omega arith;
  epsilon_is = is;
  near = near-begun problem (epsilon problem (m.phases + 1)) (state_of m) _ begins;
}
