-- A flow with potentials that show it costs at most what any feasible flow costs.
use Rattle.std.proofs.Common.{◌≡◌, ℕ, ◌<◌, List, [], ◌∷◌, get_or, vec_len, ℤ, pos, ◌+ℤ◌, ◌-ℤ◌, ◌*ℤ◌, ◌≤ℤ◌, refl, sym, ◌∙◌, ap, arith}
use Rattle.std.proofs.lemmas.Int.{ints}
use Rattle.std.specs.List.{AllZip}
use Rattle.net_normal.specs.Sums.{price_of}
use Rattle.net_normal.specs.Flows.{IsFeasibleFlow, IsWithinCapacity, net_outflow, cost_of}
use Rattle.net_normal.specs.declared.problem.FlowArc.{FlowArc}
use Rattle.net_normal.specs.declared.problem.Problem.{Problem}
use Rattle.net_normal.proofs.NodeRuns.{sum_over}
use Rattle.net_check.specs.Certificates.{reduced_cost, IsComplementary, IsOptimal}
use Rattle.net_check.proofs.Pairs.{gets}
use Rattle.net_check.proofs.Products.{add-mul, sub-mul, picked-le}
use Rattle.net_check.proofs.Weights.{sum_over-within, weighted-outflows}

-- the reduced costs of all flow
reduced-price : (potentials : List ℤ) (arcs : List FlowArc) (xs : List ℤ) → price_of (reduced_cost potentials) arcs xs ≡ (price_of (λ a. a.cost) arcs xs +ℤ price_of (λ a. get_or potentials a.src (pos 0)) arcs xs) -ℤ price_of (λ a. get_or potentials a.dst (pos 0)) arcs xs
reduced-price potentials [] xs = refl
reduced-price potentials (a ∷ arcs) [] = refl
reduced-price potentials (a ∷ arcs) (x ∷ xs) =
    let s = get_or potentials a.src (pos 0) in
    let d = get_or potentials a.dst (pos 0) in
    omega (arith, ints, sub-mul (a.cost +ℤ s) d x, add-mul a.cost s x, reduced-price potentials arcs xs)

-- arc by arc
picked-price : (potentials : List ℤ) (arcs : List FlowArc) (ys xs : List ℤ) → AllZip (IsComplementary potentials) arcs ys → AllZip IsWithinCapacity arcs xs → price_of (reduced_cost potentials) arcs ys ≤ℤ price_of (reduced_cost potentials) arcs xs
picked-price potentials [] ys xs h k = omega (arith, ints)
picked-price potentials (a ∷ arcs) [] xs h k = absurd h
picked-price potentials (a ∷ arcs) (y ∷ ys) [] h k = absurd k
picked-price potentials (a ∷ arcs) (y ∷ ys) (x ∷ xs) h k =
    omega (arith, ints, picked-le (reduced_cost potentials a) a.low a.cap y x h.0.positive h.0.negative k.0.low k.0.cap, picked-price potentials arcs ys xs h.1 k.1)

-- feasible flows send out the same
pub same_outflow : (problem : Problem) (ys xs : List ℤ) → IsFeasibleFlow problem ys → IsFeasibleFlow problem xs → (u : ℕ) → u < vec_len problem.supplies → net_outflow problem.arcs.items ys u ≡ net_outflow problem.arcs.items xs u
same_outflow problem ys xs h k u l =
    let supplies = problem.supplies.items in
    let here = gets supplies u (pos 0) (omega (arith, l, problem.supplies.ok.0)) in
    h.balance u (get_or supplies u (pos 0)) here ∙ sym (k.balance u (get_or supplies u (pos 0)) here)

pub optimal-least : (problem : Problem) (value : ℤ) (flows potentials others : List ℤ) → IsOptimal problem value flows potentials → IsFeasibleFlow problem others → value ≤ℤ cost_of problem others
optimal-least problem value flows potentials others optimal feasible =
    let arcs = problem.arcs.items in
    let n = vec_len problem.supplies in
    let p : ℕ → ℤ = λ v. get_or potentials v (pos 0) in
    let same : sum_over (λ u. p u *ℤ net_outflow arcs flows u) 0 n ≡ sum_over (λ u. p u *ℤ net_outflow arcs others u) 0 n
    = sum_over-within (λ u. p u *ℤ net_outflow arcs flows u) (λ u. p u *ℤ net_outflow arcs others u) 0 n (λ u l. ap (λ (z : ℤ). p u *ℤ z) (same_outflow problem flows others optimal.feasible feasible u (omega (arith, l)))) in
    omega (
      arith,
      ints,
      optimal.cost,
      same,
      weighted-outflows p n arcs flows problem.arcs_fit,
      weighted-outflows p n arcs others problem.arcs_fit,
      reduced-price potentials arcs flows,
      reduced-price potentials arcs others,
      picked-price potentials arcs flows others optimal.slackness feasible.capacity,
    )
