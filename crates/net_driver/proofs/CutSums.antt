-- What a flow of a problem carries out of a set of nodes, and what the nodes of the set lack.
use Rattle.std.specs.Prelude.{◌≡◌, ◌+◌, ◌≤◌, ℕ, zero, suc, Bool, true, false, not, List, [], ◌∷◌, length, map, vec_len, ℤ, pos, ◌+ℤ◌, ◌-ℤ◌, ◌*ℤ◌, ◌≤ℤ◌, neg_ℤ}
use Rattle.std.specs.List.{AllZip}
use Rattle.std.proofs.Common.{refl, ap, sym, ◌∙◌, arith, cond}
use Rattle.std.proofs.lemmas.Int.{ints}
use Rattle.net_normal.specs.Flows.{net_outflow, IsWithinCapacity}
use Rattle.net_normal.specs.Sums.{flow_on, price_of, sum_of}
use Rattle.net_normal.specs.declared.problem.FlowArc.{FlowArc}
use Rattle.net_normal.specs.declared.problem.Problem.{Problem}
use Rattle.net_normal.proofs.ArcSums.{flow_on-le, flow_on-ge, zipped-weaker}
use Rattle.net_normal.proofs.NodeRuns.{sum_over}
use Rattle.net_check.specs.Certificates.{is_in, goes_out, comes_in, supply_in, most_out, least_out}
use Rattle.net_check.proofs.NoFlow.{weight, weighted-arcs}
use Rattle.net_check.proofs.Products.{chosen-mul}
use Rattle.net_check.proofs.Weights.{sum_over-shift, weighted-outflows}

-- ---- what the nodes lack: f gives the outflow of each node

-- what the nodes of a set lack, together
abbrev pub lacked : (f : ℕ → ℤ) (supplies : List ℤ) (flags : List Bool) → ℤ
lacked f [] flags = pos 0
lacked f (s ∷ supplies) [] = pos 0
lacked f (s ∷ supplies) (b ∷ flags) = cond b (f 0 -ℤ s) (pos 0) +ℤ lacked (λ u. f (suc u)) supplies flags

-- what all nodes lack
abbrev all_lacked : (f : ℕ → ℤ) (supplies : List ℤ) → ℤ
all_lacked f [] = pos 0
all_lacked f (s ∷ supplies) = (f 0 -ℤ s) +ℤ all_lacked (λ u. f (suc u)) supplies

split : (b : Bool) (x s : ℤ) → cond b x (pos 0) ≡ cond b s (pos 0) +ℤ cond b (x -ℤ s) (pos 0)
split true x s = omega (arith, ints)
split false x s = omega (arith, ints)

both_ways : (b : Bool) (x : ℤ) → cond b x (pos 0) +ℤ cond (not b) x (pos 0) ≡ x
both_ways true x = omega (arith, ints)
both_ways false x = omega (arith, ints)

-- the outflow of a set is its supply and what it lacks
outflow_of : (f : ℕ → ℤ) (supplies : List ℤ) (flags : List Bool) → length flags ≡ length supplies → sum_over (λ u. weight flags u *ℤ f u) 0 (length supplies) ≡ supply_in supplies flags +ℤ lacked f supplies flags
outflow_of f [] [] h = omega (arith, ints)
outflow_of f [] (b ∷ flags) h = absurd (omega (arith, h))
outflow_of f (s ∷ supplies) [] h = absurd (omega (arith, h))
outflow_of f (s ∷ supplies) (b ∷ flags) h =
    let first : weight (b ∷ flags) 0 *ℤ f 0 ≡ cond b (f 0) (pos 0) = chosen-mul b (f 0) in
    let rest : sum_over (λ u. weight flags u *ℤ f (suc u)) 0 (length supplies) ≡ supply_in supplies flags +ℤ lacked (λ u. f (suc u)) supplies flags = outflow_of (λ u. f (suc u)) supplies flags (omega (arith, h)) in
    omega (arith, ints, first, rest, split b (f 0) s, sum_over-shift (λ u. weight (b ∷ flags) u *ℤ f u) 0 (length supplies))

-- the outflow of all nodes
outflow_of_all : (f : ℕ → ℤ) (supplies : List ℤ) → sum_over (λ u. pos 1 *ℤ f u) 0 (length supplies) ≡ sum_of supplies +ℤ all_lacked f supplies
outflow_of_all f [] = omega (arith, ints)
outflow_of_all f (s ∷ supplies) = omega (arith, ints, outflow_of_all (λ u. f (suc u)) supplies, sum_over-shift (λ u. pos 1 *ℤ f u) 0 (length supplies))

-- a set and its complement lack what all nodes lack
with_complement : (f : ℕ → ℤ) (supplies : List ℤ) (flags : List Bool) → length flags ≡ length supplies → lacked f supplies flags +ℤ lacked f supplies (map not flags) ≡ all_lacked f supplies
with_complement f [] [] h = omega (arith, ints)
with_complement f [] (b ∷ flags) h = absurd (omega (arith, h))
with_complement f (s ∷ supplies) [] h = absurd (omega (arith, h))
with_complement f (s ∷ supplies) (b ∷ flags) h = omega (arith, ints, both_ways b (f 0 -ℤ s), with_complement (λ u. f (suc u)) supplies flags (omega (arith, h)))

-- ---- complements

pub complement_length : (flags : List Bool) → length (map not flags) ≡ length flags
complement_length [] = refl
complement_length (b ∷ flags) = ap suc (complement_length flags)

pub complement_at : (flags : List Bool) (i : ℕ) → suc i ≤ length flags → is_in flags i ≡ true → is_in (map not flags) i ≡ false
complement_at [] i h e = absurd (omega (arith, h))
complement_at (b ∷ flags) zero h e = ap not e
complement_at (b ∷ flags) (suc i) h e = complement_at flags i (omega (arith, h)) e

-- ---- a flow within the capacities

module _ (problem : Problem) (flags : List Bool) (one_a_node : length flags ≡ vec_len problem.supplies) (even : sum_of problem.supplies.items ≡ pos 0) (flows : List ℤ) (capacity : AllZip IsWithinCapacity problem.arcs.items flows) where
  abbrev supplies : List ℤ
  supplies = problem.supplies.items

  abbrev arcs : List FlowArc
  arcs = problem.arcs.items

  abbrev f : ℕ → ℤ
  f = net_outflow arcs flows

  size : vec_len problem.supplies ≡ length supplies
  size = problem.supplies.ok.0

  pub balance : supply_in supplies flags +ℤ lacked f supplies flags ≡ flow_on (goes_out flags) arcs flows -ℤ flow_on (comes_in flags) arcs flows
  balance =
      sym (outflow_of f supplies flags (one_a_node ∙ size))
      ∙ ap (λ (n : ℕ). sum_over (λ u. weight flags u *ℤ f u) 0 n) (sym size)
      ∙ weighted-outflows (weight flags) (vec_len problem.supplies) arcs flows problem.arcs_fit
      ∙ weighted-arcs flags arcs flows

  none : all_lacked f supplies ≡ pos 0
  none =
      let total : sum_over (λ u. pos 1 *ℤ f u) 0 (length supplies) ≡ price_of (λ (a : FlowArc). pos 1) arcs flows -ℤ price_of (λ (a : FlowArc). pos 1) arcs flows =
      ap (λ (n : ℕ). sum_over (λ u. pos 1 *ℤ f u) 0 n) (sym size) ∙ weighted-outflows (λ u. pos 1) (vec_len problem.supplies) arcs flows problem.arcs_fit in
      omega (arith, ints, total, outflow_of_all f supplies, even)

  -- what a set lacks, its complement has in excess
  pub opposite : lacked f supplies (map not flags) ≡ neg_ℤ (lacked f supplies flags)
  opposite = omega (arith, ints, with_complement f supplies flags (one_a_node ∙ size), none)

  pub above : least_out arcs flags ≤ℤ (flow_on (goes_out flags) arcs flows -ℤ flow_on (comes_in flags) arcs flows)
  above =
      let low = zipped-weaker IsWithinCapacity (λ a y. a.low ≤ℤ y) (λ a y k. k.low) arcs flows capacity in
      let cap = zipped-weaker IsWithinCapacity (λ a y. y ≤ℤ a.cap) (λ a y k. k.cap) arcs flows capacity in
      omega (arith, ints, flow_on-le (goes_out flags) (λ a. a.low) arcs flows low, flow_on-ge (comes_in flags) (λ a. a.cap) arcs flows cap)

  pub below : (flow_on (goes_out flags) arcs flows -ℤ flow_on (comes_in flags) arcs flows) ≤ℤ most_out arcs flags
  below =
      let low = zipped-weaker IsWithinCapacity (λ a y. a.low ≤ℤ y) (λ a y k. k.low) arcs flows capacity in
      let cap = zipped-weaker IsWithinCapacity (λ a y. y ≤ℤ a.cap) (λ a y k. k.cap) arcs flows capacity in
      omega (arith, ints, flow_on-ge (goes_out flags) (λ a. a.cap) arcs flows cap, flow_on-le (comes_in flags) (λ a. a.low) arcs flows low)
