-- What changes with the flow of one arc: the net outflows of its two ends.
use Rattle.std.proofs.Common.{◌≡◌, ℕ, zero, suc, ◌+◌, ◌*◌, ◌^◌, ◌<◌, ◌≤◌, Bool, true, false, cond, List, [], ◌∷◌, length, get_or, set, ℤ, pos, ◌+ℤ◌, ◌-ℤ◌, ◌≤ℤ◌, nat_eq, FitsSigned, to_z, of_z, w64, vec_len, All, refl, subst, arith}
use Rattle.std.specs.Int.{w128}
use Rattle.std.proofs.lemmas.Int.{ints}
use Rattle.std.specs.List.{AllZip, AllByRecursion}
use Rattle.std.proofs.lemmas.List.Elements.{recursion_from_All}
use Rattle.net_normal.specs.Limits.{IsSized, IsFlowArcOf, flow_limit}
use Rattle.net_normal.specs.Sums.{flow_on}
use Rattle.net_normal.specs.Flows.{IsWithinCapacity, net_outflow}
use Rattle.net_normal.specs.declared.problem.FlowArc.{FlowArc}
use Rattle.net_normal.specs.declared.problem.Problem.{Problem}
use Rattle.net_check.specs.Certificates.{IsComplementary, reduced_cost}
use Rattle.net_check.proofs.Balances.{added_at}
use Rattle.net_solve.specs.Pseudoflows.{IsUnderWay}

-- R still holds of each pair where it holds of the new one
pub zipped-set : {A : Type 0} (R : A → ℤ → Type 0) (xs : List A) (ys : List ℤ) (i : ℕ) (d : A) (y : ℤ) → AllZip R xs ys → R (get_or xs i d) y → AllZip R xs (set ys i y)
zipped-set R [] [] i d y h k = tt
zipped-set R [] (z ∷ ys) i d y h k = absurd h
zipped-set R (x ∷ xs) [] i d y h k = absurd h
zipped-set R (x ∷ xs) (z ∷ ys) zero d y h k = (k, h.1)
zipped-set R (x ∷ xs) (z ∷ ys) (suc i) d y h k = (h.0, zipped-set R xs ys i d y h.1 k)

-- a sum of flows, where one of them changes
pub flow_on-set : {A : Type 0} (test : A → Bool) (xs : List A) (ys : List ℤ) (i : ℕ) (d : A) (amount : ℤ) → i < length xs → i < length ys → flow_on test xs (set ys i (get_or ys i (pos 0) +ℤ amount)) ≡ flow_on test xs ys +ℤ cond (test (get_or xs i d)) amount (pos 0)
flow_on-set test [] ys i d amount h k = absurd (omega (arith, h))
flow_on-set test (x ∷ xs) [] i d amount h k = absurd (omega (arith, k))
flow_on-set test (x ∷ xs) (y ∷ ys) zero d amount h k =
    elim (test x) as (λ b. cond b (y +ℤ amount) (pos 0) +ℤ flow_on test xs ys ≡ (cond b y (pos 0) +ℤ flow_on test xs ys) +ℤ cond b amount (pos 0)) [
      | true ↦ omega (arith, ints)
      | false ↦ omega (arith, ints)
    ]
flow_on-set test (x ∷ xs) (y ∷ ys) (suc i) d amount h k = omega (arith, ints, flow_on-set test xs ys i d amount (omega (arith, h)) (omega (arith, k)))

-- lemma: changing one flow changes two balances
pub outflow-set : (arcs : List FlowArc) (flows : List ℤ) (i : ℕ) (d : FlowArc) (amount : ℤ) (v : ℕ) → i < length arcs → i < length flows → net_outflow arcs (set flows i (get_or flows i (pos 0) +ℤ amount)) v ≡ (net_outflow arcs flows v +ℤ cond (nat_eq (get_or arcs i d).src v) amount (pos 0)) -ℤ cond (nat_eq (get_or arcs i d).dst v) amount (pos 0)
outflow-set arcs flows i d amount v h k =
    omega (arith, ints, flow_on-set (λ (a : FlowArc). nat_eq a.src v) arcs flows i d amount h k, flow_on-set (λ (a : FlowArc). nat_eq a.dst v) arcs flows i d amount h k)

-- sums of flows within the bounds
next_size : (n : ℕ) → 10 ^ 18 * n + 10 ^ 18 ≡ 10 ^ 18 * suc n
next_size n = omega arith

flow_on-sized : (nodes : ℕ) (test : FlowArc → Bool) (arcs : List FlowArc) (flows : List ℤ) → AllByRecursion (IsFlowArcOf nodes) arcs → AllZip IsWithinCapacity arcs flows → (pos 0 ≤ℤ flow_on test arcs flows) × (flow_on test arcs flows ≤ℤ pos (10 ^ 18 * length arcs))
flow_on-sized nodes test [] flows h k = (omega (arith, ints), omega (arith, ints))
flow_on-sized nodes test (a ∷ arcs) [] h k = absurd k
flow_on-sized nodes test (a ∷ arcs) (y ∷ flows) h k =
    let rest = flow_on-sized nodes test arcs flows h.1 k.1 in
    let low = h.0.low in
    let cap = h.0.cap in
    let above = k.0.low in
    let below = k.0.cap in
    let next = next_size (length arcs) in
    elim (test a) as (λ b. (pos 0 ≤ℤ (cond b y (pos 0) +ℤ flow_on test arcs flows)) × ((cond b y (pos 0) +ℤ flow_on test arcs flows) ≤ℤ pos (10 ^ 18 * suc (length arcs)))) [
      | true ↦ (omega (arith, ints, rest.0, low, above), omega (arith, ints, rest.1, cap, below, next))
      | false ↦ (omega (arith, ints, rest.0), omega (arith, ints, rest.1, next))
    ]

pub outflow-sized : (nodes : ℕ) (arcs : List FlowArc) (flows : List ℤ) (v : ℕ) → length arcs ≤ 200000 → All (IsFlowArcOf nodes) arcs → AllZip IsWithinCapacity arcs flows → IsSized (10 ^ 24) (net_outflow arcs flows v)
outflow-sized nodes arcs flows v few h k =
    let each = recursion_from_All (IsFlowArcOf nodes) arcs h in
    let out = flow_on-sized nodes (λ (a : FlowArc). nat_eq a.src v) arcs flows each k in
    let inn = flow_on-sized nodes (λ (a : FlowArc). nat_eq a.dst v) arcs flows each k in
    record { above = omega (arith, ints, out.0, inn.1, few); below = omega (arith, ints, out.1, inn.0, few) }

-- two changes of an excess, at the ends of an arc
pub two_steps : (p q : Bool) (e0 e1 e2 amount x y : ℤ) → e1 ≡ e0 +ℤ cond p x (pos 0) → e2 ≡ e1 +ℤ cond q y (pos 0) → x ≡ pos 0 -ℤ amount → y ≡ amount → e2 ≡ (e0 -ℤ cond p amount (pos 0)) +ℤ cond q amount (pos 0)
two_steps true true e0 e1 e2 amount x y h k i j = omega (arith, ints, h, k, i, j)
two_steps true false e0 e1 e2 amount x y h k i j = omega (arith, ints, h, k, i, j)
two_steps false true e0 e1 e2 amount x y h k i j = omega (arith, ints, h, k, i, j)
two_steps false false e0 e1 e2 amount x y h k i j = omega (arith, ints, h, k, i, j)

pub excess-sized : (problem : Problem) (flows potentials excess : List ℤ) → IsUnderWay problem flows potentials excess → (v : ℕ) → v < vec_len problem.supplies → IsSized (2 * 10 ^ 24) (get_or excess v (pos 0))
excess-sized problem flows potentials excess h v l =
    let arcs = problem.arcs.items in
    let out = outflow-sized (vec_len problem.supplies) arcs flows v (omega (arith, problem.few_arcs, problem.arcs.ok.0)) problem.arcs_fit h.capacity in
    let supply : IsSized flow_limit (get_or problem.supplies.items v (pos 0)) = problem.supplies_fit v (pos 0) (omega (arith, l, problem.supplies.ok.0)) in
    let is = h.balance v l in
    record { above = omega (arith, ints, out.below, supply.above, is); below = omega (arith, ints, out.above, supply.below, is) }

pub added : (x z amount : ℤ) → x ≡ z → IsSized flow_limit z → IsSized flow_limit amount → IsSized flow_limit (z +ℤ amount) → to_z w64 (of_z w64 (to_z w64 (of_z w64 x) +ℤ to_z w64 (of_z w64 amount))) ≡ z +ℤ amount
added x z amount e h k l = omega (arith, ints, e, h.above, h.below, k.above, k.below, l.above, l.below)

pub added-fits : (x z amount : ℤ) → x ≡ z → IsSized flow_limit z → IsSized flow_limit amount → IsSized flow_limit (z +ℤ amount) → FitsSigned w64 (to_z w64 (of_z w64 x) +ℤ to_z w64 (of_z w64 amount))
added-fits x z amount e h k l = omega (arith, ints, e, h.above, h.below, k.above, k.below, l.above, l.below)

-- an arc of reduced cost 0 may carry anything
pub level-complementary : (potentials : List ℤ) (arc : FlowArc) (y : ℤ) → reduced_cost potentials arc ≡ pos 0 → IsComplementary potentials arc y
level-complementary potentials arc y h = record { positive = λ l. absurd (omega (arith, ints, h, l)); negative = λ l. absurd (omega (arith, ints, h, l)) }

-- a number of 128 bits and an amount
pub sum-wide_fits : (x z amount : ℤ) → x ≡ z → IsSized (10 ^ 25) z → IsSized flow_limit amount → FitsSigned w128 (to_z w128 (of_z w128 x) +ℤ to_z w128 (of_z w128 amount))
sum-wide_fits x z amount e h k = omega (arith, ints, e, h.above, h.below, k.above, k.below)

pub sum-wide : (x z amount : ℤ) → x ≡ z → IsSized (10 ^ 25) z → IsSized flow_limit amount → to_z w128 (of_z w128 (to_z w128 (of_z w128 x) +ℤ to_z w128 (of_z w128 amount))) ≡ z +ℤ amount
sum-wide x z amount e h k = omega (arith, ints, e, h.above, h.below, k.above, k.below)

-- the amount is added at one index, and nowhere else
pub set-added : (xs : List ℤ) (i v : ℕ) (y amount : ℤ) → i < length xs → v < length xs → y ≡ get_or xs i (pos 0) +ℤ amount → get_or (set xs i y) v (pos 0) ≡ get_or xs v (pos 0) +ℤ cond (nat_eq i v) amount (pos 0)
set-added xs i v y amount inside l is =
    let same : 0 + v ≡ v = omega arith in
    subst (λ (w : ℕ). get_or (set xs i y) v (pos 0) ≡ get_or xs v (pos 0) +ℤ cond (nat_eq i w) amount (pos 0)) same
    (added_at xs (length xs) 0 i i amount y refl inside (omega arith) is v l)

-- a number after an amount is counted, and after it is counted at both ends of an arc
pub sized-on : (p : Bool) (old new flow x : ℤ) → IsSized (10 ^ 24) old → IsSized flow_limit flow → x ≡ flow → new ≡ old +ℤ cond p x (pos 0) → IsSized (10 ^ 25) new
sized-on true old new flow x h k same e = record { above = omega (arith, ints, h.above, k.above, same, e); below = omega (arith, ints, h.below, k.below, same, e) }
sized-on false old new flow x h k same e = record { above = omega (arith, ints, h.above, e); below = omega (arith, ints, h.below, e) }

pub counted : (p q : Bool) (e0 e1 e2 flow x y : ℤ) → e1 ≡ e0 +ℤ cond p x (pos 0) → e2 ≡ e1 +ℤ cond q y (pos 0) → x ≡ flow → y ≡ pos 0 -ℤ flow → e2 ≡ (e0 +ℤ cond p flow (pos 0)) -ℤ cond q flow (pos 0)
counted true true e0 e1 e2 flow x y h k i j = omega (arith, ints, h, k, i, j)
counted true false e0 e1 e2 flow x y h k i j = omega (arith, ints, h, k, i, j)
counted false true e0 e1 e2 flow x y h k i j = omega (arith, ints, h, k, i, j)
counted false false e0 e1 e2 flow x y h k i j = omega (arith, ints, h, k, i, j)

-- the same numbers in 128 bits
pub wide-flow : (x flow : ℤ) → x ≡ flow → IsSized flow_limit flow → to_z w128 (of_z w128 x) ≡ flow
wide-flow x flow e h = omega (arith, ints, e, h.above, h.below)

pub wide-back : (x flow : ℤ) → x ≡ flow → IsSized flow_limit flow → to_z w128 (of_z w128 (pos 0 -ℤ to_z w128 (of_z w128 x))) ≡ pos 0 -ℤ flow
wide-back x flow e h = omega (arith, ints, e, h.above, h.below)

pub difference-fits : (x y z : ℤ) → IsSized (2 ^ 63) x → y ≡ z → IsSized (10 ^ 24) z → FitsSigned w128 (to_z w128 (of_z w128 x) -ℤ to_z w128 (of_z w128 y))
difference-fits x y z h e k = omega (arith, ints, h.above, h.below, e, k.above, k.below)
