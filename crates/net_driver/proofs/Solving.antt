-- From what settles a problem to the answer of its model.
use Rattle.std.proofs.Common.{◌≡◌, ℕ, zero, suc, ◌+◌, ◌-◌, ◌*◌, ◌≤◌, ◌^◌, ◌<◌, List, [], ◌∷◌, length, vec_len, All, map, Option, Some, Ok, ℤ, pos, ◌+ℤ◌, ◌*ℤ◌, ◌≤ℤ◌, refl, sym, ap, subst, ◌∙◌, arith}
use Rattle.std.specs.Prelude.{slice_index_or}
use Rattle.std.specs.List.{AllByRecursion, AllZip, IsDistinct}
use Rattle.std.proofs.lemmas.Int.{ints}
use Rattle.std.proofs.lemmas.List.Elements.{recursion_from_All, All-from_recursion}
use Rattle.net_normal.specs.Flows.{IsWithinCapacity, IsFeasibleFlow, cost_of}
use Rattle.net_normal.specs.Limits.{IsSized, IsFlowArcOf, flow_limit, cost_limit, total_cost_limit}
use Rattle.net_normal.specs.Links.{mapped_back, mapped_back_by, value_at, signed}
use Rattle.net_normal.specs.Sums.{price_of}
use Rattle.net_normal.specs.declared.instance.Sense.{Sense}
use Rattle.net_normal.specs.declared.instance.Sense.TheVariants.{Minimise, Maximise}
use Rattle.net_normal.specs.declared.problem.Link.{Link}
use Rattle.net_normal.specs.declared.problem.FlowArc.{FlowArc}
use Rattle.net_normal.specs.declared.problem.Problem.{Problem}
use Rattle.net_normal.proofs.WholeNumbers.{sized-mul}
use Rattle.net_report.specs.MapsBack.{IsCarried, AreCarried}
use Rattle.net_driver.specs.declared.compiled.Compiled.{Compiled}
use Rattle.net_driver.specs.IsSolved.{IsAsGood}
use Rattle.net_driver.specs.Made.{SizesAgree}
use Rattle.net_driver.proofs.Counts.{zip_length}

-- ---- flows are small

pub record IsSmall (y : ℤ) : Type 0 where
  pub least : pos 0 ≤ℤ y
  pub most : y ≤ℤ pos flow_limit

small_at : (nodes : ℕ) (arcs : List FlowArc) (flows : List ℤ) (k : ℕ) → AllByRecursion (IsFlowArcOf nodes) arcs → AllZip IsWithinCapacity arcs flows → IsSmall (slice_index_or flows k (pos 0))
small_at nodes [] [] k h w = record { least = omega (arith, ints); most = omega (arith, ints) }
small_at nodes [] (y ∷ flows) k h w = absurd w
small_at nodes (a ∷ arcs) [] k h w = absurd w
small_at nodes (a ∷ arcs) (y ∷ flows) zero h w =
    let low = h.0.low in
    let cap = h.0.cap in
    let above = w.0.low in
    let below = w.0.cap in
    record { least = omega (arith, ints, low, above); most = omega (arith, ints, cap, below) }
small_at nodes (a ∷ arcs) (y ∷ flows) (suc k) h w = small_at nodes arcs flows k h.1 w.1

carried_all : (problem : Problem) (flows : List ℤ) (numbers : List ℕ) → IsFeasibleFlow problem flows → AllByRecursion (λ n. n ≤ vec_len problem.arcs) numbers → AllByRecursion (λ n. 0 < n → IsCarried flows n) numbers
carried_all problem flows [] feasible h = tt
carried_all problem flows (n ∷ numbers) feasible h =
    let small = small_at (vec_len problem.supplies) problem.arcs.items flows (n - 1) (recursion_from_All (IsFlowArcOf (vec_len problem.supplies)) problem.arcs.items problem.arcs_fit) feasible.capacity in
    let count = zip_length IsWithinCapacity problem.arcs.items flows feasible.capacity in
    (λ _. record { there = omega (arith, h.0, count, problem.arcs.ok.0); least = small.least; most = small.most }, carried_all problem flows numbers feasible h.1)

pub carried : (c : Compiled) (flows : List ℤ) → SizesAgree c → IsFeasibleFlow c.problem flows → AreCarried flows c.link.numbers.items
carried c flows sizes feasible = All-from_recursion (λ n. 0 < n → IsCarried flows n) c.link.numbers.items (carried_all c.problem flows c.link.numbers.items feasible sizes.numbers)

-- ---- and so are their costs

next_size : (n : ℕ) → 10 ^ 30 * n + 10 ^ 30 ≡ 10 ^ 30 * suc n
next_size n = omega arith

cost_small : (nodes : ℕ) (arcs : List FlowArc) (flows : List ℤ) → AllByRecursion (IsFlowArcOf nodes) arcs → AllZip IsWithinCapacity arcs flows → IsSized (10 ^ 30 * length arcs) (price_of (λ arc. arc.cost) arcs flows)
cost_small nodes [] flows h w = record { above = omega (arith, ints); below = omega (arith, ints) }
cost_small nodes (a ∷ arcs) [] h w = absurd w
cost_small nodes (a ∷ arcs) (y ∷ flows) h w =
    let rest = cost_small nodes arcs flows h.1 w.1 in
    let above = rest.above in
    let below = rest.below in
    let low = h.0.low in
    let cap = h.0.cap in
    let least = w.0.low in
    let most = w.0.cap in
    let flow : IsSized flow_limit y = record { above = omega (arith, ints, low, least); below = omega (arith, ints, cap, most) } in
    let price = sized-mul cost_limit flow_limit a.cost y h.0.cost flow in
    let p_above = price.above in
    let p_below = price.below in
    record { above = omega (arith, ints, above, p_above, next_size (length arcs)); below = omega (arith, ints, below, p_below, next_size (length arcs)) }

pub cost_sized : (problem : Problem) (flows : List ℤ) (cost : ℤ) → IsFeasibleFlow problem flows → cost ≡ cost_of problem flows → IsSized total_cost_limit cost
cost_sized problem flows cost feasible e =
    let sized = cost_small (vec_len problem.supplies) problem.arcs.items flows (recursion_from_All (IsFlowArcOf (vec_len problem.supplies)) problem.arcs.items problem.arcs_fit) feasible.capacity in
    let above = sized.above in
    let below = sized.below in
    let few = problem.few_arcs in
    record { above = omega (arith, ints, above, e, problem.arcs.ok.0, few); below = omega (arith, ints, below, e, problem.arcs.ok.0, few) }

mapped_back_count : (numbers : List ℕ) (offsets flows : List ℤ) → length numbers ≡ length offsets → length (mapped_back_by numbers offsets flows) ≡ length numbers
mapped_back_count [] offsets flows e = refl
mapped_back_count (n ∷ numbers) [] flows e = absurd (let h = e in cc)
mapped_back_count (n ∷ numbers) (o ∷ offsets) flows e = ap suc (mapped_back_count numbers offsets flows (omega (arith, e)))

-- as many numbers as arcs
pub mapped_back_length : (link : Link) (flows : List ℤ) → length (mapped_back link flows) ≡ vec_len link.numbers
mapped_back_length link flows =
    let paired = link.paired in
    mapped_back_count link.numbers.items link.offsets.items flows (omega (arith, paired, link.numbers.ok.0, link.offsets.ok.0)) ∙ sym link.numbers.ok.0

-- what costs no more is worth as much
pub as_good : (link : Link) (sense : Sense) (cost other : ℤ) → link.sense ≡ sense → cost ≤ℤ other → IsAsGood sense (value_at link cost) (value_at link other)
as_good link sense cost other e h =
    subst (λ s. IsAsGood s (link.constant +ℤ signed link.sense cost) (link.constant +ℤ signed link.sense other)) e (go link.sense)
  where
    go : (s : Sense) → IsAsGood s (link.constant +ℤ signed s cost) (link.constant +ℤ signed s other)
    go Minimise = omega (arith, ints, h)
    go Maximise = omega (arith, ints, h)
