-- A flow within its bounds and its excess, where the flow of one arc changes.
use Rattle.std.proofs.Common.{◌≡◌, ◌≢◌, ℕ, ◌*◌, ◌^◌, ◌<◌, cond, List, length, get_or, set, inl, inr, ℤ, pos, ◌+ℤ◌, ◌-ℤ◌, nat_eq, vec_len, sym, ◌∙◌, subst, arith}
use Rattle.std.proofs.lemmas.Int.{ints}
use Rattle.std.proofs.lemmas.Bool.{cases_Bool}
use Rattle.std.proofs.lemmas.Bool.Decides.{nat_tests}
use Rattle.std.proofs.lemmas.Grind.{get_or-set_at}
use Rattle.std.proofs.lemmas.List.{get_or-set_other, length-set}
use Rattle.std.specs.List.{AllZip}
use Rattle.net_normal.specs.Limits.{IsSized, flow_limit}
use Rattle.net_normal.specs.Flows.{IsWithinCapacity}
use Rattle.net_normal.specs.declared.problem.Problem.{Problem}
use Rattle.net_check.proofs.Pairs.{within-sized}
use Rattle.net_solve.specs.Pseudoflows.{no_arc, arc_at}
use Rattle.net_solve.proofs.Changes.{outflow-set, outflow-sized}
use Rattle.net_solve.proofs.SlackScanning.{zipped-from}
use Rattle.net_solve.specs.Machines.{IsCarried}

pub all-within : (problem : Problem) (flows excess : List ℤ) → IsCarried problem flows excess → AllZip IsWithinCapacity problem.arcs.items flows
all-within problem flows excess h = zipped-from IsWithinCapacity problem.arcs.items flows (omega (arith, h.flows_count, problem.arcs.ok.0)) (λ k l. h.capacity k (omega (arith, l, problem.arcs.ok.0)))

-- the excess of a node is far from the limits of 128 bits
pub excess-sized : (problem : Problem) (flows excess : List ℤ) → IsCarried problem flows excess → (v : ℕ) → v < vec_len problem.supplies → IsSized (2 * 10 ^ 24) (get_or excess v (pos 0))
excess-sized problem flows excess h v l =
    let arcs = problem.arcs.items in
    let out = outflow-sized (vec_len problem.supplies) arcs flows v (omega (arith, problem.few_arcs, problem.arcs.ok.0)) problem.arcs_fit (all-within problem flows excess h) in
    let supply : IsSized flow_limit (get_or problem.supplies.items v (pos 0)) = problem.supplies_fit v (pos 0) (omega (arith, l, problem.supplies.ok.0)) in
    let is = h.balance v l in
    record { above = omega (arith, ints, out.below, supply.above, is); below = omega (arith, ints, out.above, supply.below, is) }

-- what is known of an arc and its flow
pub record Known (problem : Problem) (flows : List ℤ) (i : ℕ) : Type 0 where
  pub arc : i < length problem.arcs.items
  pub flow : i < length flows
  pub src : (arc_at problem i).src < vec_len problem.supplies
  pub dst : (arc_at problem i).dst < vec_len problem.supplies
  pub within : IsWithinCapacity (arc_at problem i) (get_or flows i (pos 0))
  pub old : IsSized flow_limit (get_or flows i (pos 0))

pub known : (problem : Problem) (flows excess : List ℤ) (i : ℕ) → IsCarried problem flows excess → i < vec_len problem.arcs → Known problem flows i
known problem flows excess i h l =
    let inside : i < length problem.arcs.items = omega (arith, l, problem.arcs.ok.0) in
    let fits = problem.arcs_fit i no_arc inside in
    record {
      arc = inside;
      flow = omega (arith, l, h.flows_count);
      src = fits.src;
      dst = fits.dst;
      within = h.capacity i l;
      old = within-sized (vec_len problem.supplies) (arc_at problem i) (get_or flows i (pos 0)) fits (h.capacity i l);
    }

pub new-sized : (problem : Problem) (i : ℕ) (y : ℤ) → i < length problem.arcs.items → IsWithinCapacity (arc_at problem i) y → IsSized flow_limit y
new-sized problem i y inside within = within-sized (vec_len problem.supplies) (arc_at problem i) y (problem.arcs_fit i no_arc inside) within

-- one index of a list that is set at another
pub set-cases : {A : Type 0} (P : ℕ → A → Type 0) (xs : List A) (i : ℕ) (y d : A) (k : ℕ) → i < length xs → P i y → (k ≢ i → P k (get_or xs k d)) → P k (get_or (set xs i y) k d)
set-cases {A} P xs i y d k inside here there = elim (cases_Bool (nat_eq k i)) as (λ _. P k (get_or (set xs i y) k d)) [
  | inl e ↦
      let same : k ≡ i = grind (arith, nat_tests) in
      subst (P k) (sym (get_or-set_at xs i k y d same inside)) (subst (λ (n : ℕ). P n y) (sym same) here)
  | inr e ↦
      let other : k ≢ i = grind (arith, nat_tests) in
      subst (P k) (sym (get_or-set_other xs i k y d other)) (there other)
]

pub carried-after : (problem : Problem) (flows excess new : List ℤ) (i : ℕ) (amount y : ℤ) → IsCarried problem flows excess → Known problem flows i → IsWithinCapacity (arc_at problem i) (get_or flows i (pos 0) +ℤ amount)
    → y ≡ get_or flows i (pos 0) +ℤ amount → length new ≡ vec_len problem.supplies
    → ((v : ℕ) → v < vec_len problem.supplies → get_or new v (pos 0) ≡ (get_or excess v (pos 0) -ℤ cond (nat_eq (arc_at problem i).src v) amount (pos 0)) +ℤ cond (nat_eq (arc_at problem i).dst v) amount (pos 0))
    → IsCarried problem (set flows i y) new
carried-after problem flows excess new i amount y h k within is count changes =
    let arcs = problem.arcs.items in
    let z : ℤ = get_or flows i (pos 0) +ℤ amount in
    subst (λ (z : ℤ). IsCarried problem (set flows i z) new) (sym is)
    (record {
      flows_count = length-set flows i z ∙ h.flows_count;
      excess_count = count;
      capacity = λ j l. set-cases (λ j y. IsWithinCapacity (arc_at problem j) y) flows i z (pos 0) j k.flow within (λ _. h.capacity j l);
      balance = λ v l. omega (arith, ints, h.balance v l, changes v l, outflow-set arcs flows i no_arc amount v k.arc k.flow);
    })
