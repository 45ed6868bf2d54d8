-- Where a set's supply is past what its arcs allow there is no feasible flow.
use Rattle.std.proofs.Common.{◌≡◌, ℕ, suc, Bool, true, false, cond, not, ◌&&◌, List, [], ◌∷◌, length, vec_len, Some, ℤ, pos, ◌-ℤ◌, ◌*ℤ◌, ◌≤ℤ◌, refl, ◌∙◌, ap, arith}
use Rattle.std.proofs.lemmas.Int.{ints}
use Rattle.std.specs.List.{slice_get}
use Rattle.net_normal.specs.Sums.{flow_on, price_of}
use Rattle.net_normal.specs.Flows.{IsFeasibleFlow, IsWithinCapacity, net_outflow}
use Rattle.net_normal.specs.declared.problem.FlowArc.{FlowArc}
use Rattle.net_normal.specs.declared.problem.Problem.{Problem}
use Rattle.net_normal.proofs.ArcSums.{flow_on-le, flow_on-ge, zipped-weaker}
use Rattle.net_normal.proofs.NodeRuns.{sum_over}
use Rattle.net_check.specs.Certificates.{is_in, goes_out, comes_in, supply_in, most_out, least_out, IsViolatedCut}
use Rattle.net_check.specs.declared.certificate.Side.{Side}
use Rattle.net_check.specs.declared.certificate.Side.TheVariants.{Over, Under}
use Rattle.net_check.proofs.Products.{chosen-mul}
use Rattle.net_check.proofs.Weights.{sum_over-shift, weighted-outflows}

-- 1 for a node in the set
abbrev pub weight : List Bool → ℕ → ℤ
weight flags v = cond (is_in flags v) (pos 1) (pos 0)

-- what the nodes of the set send out is their supply
weighted-supply : (f : ℕ → ℤ) (supplies : List ℤ) (flags : List Bool) → length flags ≡ length supplies → ((u : ℕ) (s : ℤ) → slice_get supplies u ≡ Some s → f u ≡ s) → sum_over (λ u. weight flags u *ℤ f u) 0 (length supplies) ≡ supply_in supplies flags
weighted-supply f [] [] h k = refl
weighted-supply f [] (b ∷ flags) h k = absurd (omega (arith, h))
weighted-supply f (s ∷ supplies) [] h k = absurd (omega (arith, h))
weighted-supply f (s ∷ supplies) (b ∷ flags) h k =
    let first : weight (b ∷ flags) 0 *ℤ f 0 ≡ cond b s (pos 0) = chosen-mul b (f 0) ∙ ap (λ (z : ℤ). cond b z (pos 0)) (k 0 s refl) in
    let rest : sum_over (λ u. weight flags u *ℤ f (suc u)) 0 (length supplies) ≡ supply_in supplies flags = weighted-supply (λ u. f (suc u)) supplies flags (omega (arith, h)) (λ u t e. k (suc u) t e) in
    omega (arith, ints, first, rest, sum_over-shift (λ u. weight (b ∷ flags) u *ℤ f u) 0 (length supplies))

-- an arc counts where it goes out, and against where it comes in
across : (s d : Bool) (x : ℤ) → cond s (pos 1) (pos 0) *ℤ x -ℤ cond d (pos 1) (pos 0) *ℤ x ≡ cond (s && not d) x (pos 0) -ℤ cond (d && not s) x (pos 0)
across true true x = omega (arith, ints)
across true false x = omega (arith, ints, chosen-mul true x, chosen-mul false x)
across false true x = omega (arith, ints, chosen-mul true x, chosen-mul false x)
across false false x = omega (arith, ints)

pub weighted-arcs : (flags : List Bool) (arcs : List FlowArc) (xs : List ℤ) → price_of (λ a. weight flags a.src) arcs xs -ℤ price_of (λ a. weight flags a.dst) arcs xs ≡ flow_on (goes_out flags) arcs xs -ℤ flow_on (comes_in flags) arcs xs
weighted-arcs flags [] xs = refl
weighted-arcs flags (a ∷ arcs) [] = refl
weighted-arcs flags (a ∷ arcs) (x ∷ xs) = omega (arith, ints, across (is_in flags a.src) (is_in flags a.dst) x, weighted-arcs flags arcs xs)

-- a feasible flow carries a set's supply out of it
carried : (problem : Problem) (flags : List Bool) (flows : List ℤ) → length flags ≡ vec_len problem.supplies → IsFeasibleFlow problem flows → supply_in problem.supplies.items flags ≡ flow_on (goes_out flags) problem.arcs.items flows -ℤ flow_on (comes_in flags) problem.arcs.items flows
carried problem flags flows same feasible =
    let arcs = problem.arcs.items in
    let supplies = problem.supplies.items in
    let f : ℕ → ℤ = net_outflow arcs flows in
    let size : vec_len problem.supplies ≡ length supplies = problem.supplies.ok.0 in
    let total : sum_over (λ u. weight flags u *ℤ f u) 0 (vec_len problem.supplies) ≡ supply_in supplies flags
    = ap (λ (n : ℕ). sum_over (λ u. weight flags u *ℤ f u) 0 n) size ∙ weighted-supply f supplies flags (same ∙ size) feasible.balance in
    omega (arith, ints, total, weighted-outflows (weight flags) (vec_len problem.supplies) arcs flows problem.arcs_fit, weighted-arcs flags arcs flows)

-- and that lies between what the arcs allow
pub least_within : (problem : Problem) (flags : List Bool) (flows : List ℤ) → length flags ≡ vec_len problem.supplies → IsFeasibleFlow problem flows → least_out problem.arcs.items flags ≤ℤ supply_in problem.supplies.items flags
least_within problem flags flows same feasible =
    let arcs = problem.arcs.items in
    let low = zipped-weaker IsWithinCapacity (λ a y. a.low ≤ℤ y) (λ a y h. h.low) arcs flows feasible.capacity in
    let cap = zipped-weaker IsWithinCapacity (λ a y. y ≤ℤ a.cap) (λ a y h. h.cap) arcs flows feasible.capacity in
    omega (arith, ints, carried problem flags flows same feasible, flow_on-le (goes_out flags) (λ a. a.low) arcs flows low, flow_on-ge (comes_in flags) (λ a. a.cap) arcs flows cap)

pub most_within : (problem : Problem) (flags : List Bool) (flows : List ℤ) → length flags ≡ vec_len problem.supplies → IsFeasibleFlow problem flows → supply_in problem.supplies.items flags ≤ℤ most_out problem.arcs.items flags
most_within problem flags flows same feasible =
    let arcs = problem.arcs.items in
    let low = zipped-weaker IsWithinCapacity (λ a y. a.low ≤ℤ y) (λ a y h. h.low) arcs flows feasible.capacity in
    let cap = zipped-weaker IsWithinCapacity (λ a y. y ≤ℤ a.cap) (λ a y h. h.cap) arcs flows feasible.capacity in
    omega (arith, ints, carried problem flags flows same feasible, flow_on-ge (goes_out flags) (λ a. a.cap) arcs flows cap, flow_on-le (comes_in flags) (λ a. a.low) arcs flows low)

pub cut-no_flow : (problem : Problem) (flags : List Bool) (side : Side) (flows : List ℤ) → IsViolatedCut problem flags side → IsFeasibleFlow problem flows → ⊥
cut-no_flow problem flags Over flows cut feasible = omega (arith, ints, cut.violated, most_within problem flags flows cut.one_a_node feasible)
cut-no_flow problem flags Under flows cut feasible = omega (arith, ints, cut.violated, least_within problem flags flows cut.one_a_node feasible)
