-- Every assignment within the bounds misses the conditions of the nodes of a violated cut, by at least the difference of its two numbers.
use Rattle.std.specs.Prelude.{◌≡◌, ◌+◌, ◌≤◌, ℕ, suc, Bool, true, false, not, if◌then◌else◌, List, [], ◌∷◌, length, map, slice_get, Some, vec_len, ℤ, pos, ◌+ℤ◌, ◌-ℤ◌, ◌≤ℤ◌, neg_ℤ}
use Rattle.std.specs.List.{AllByRecursion, AllZip}
use Rattle.std.proofs.Common.{refl, ◌∙◌, subst, arith}
use Rattle.std.proofs.lemmas.Int.{ints, clamps}
use Rattle.net_normal.specs.Flows.{net_outflow, IsWithinCapacity}
use Rattle.net_normal.specs.Sums.{sum_of}
use Rattle.net_normal.specs.declared.problem.FlowArc.{FlowArc}
use Rattle.net_normal.specs.declared.problem.Link.{Link}
use Rattle.net_normal.specs.declared.problem.Problem.{Problem}
use Rattle.net_check.specs.Certificates.{is_in, supply_in, most_out, least_out, IsViolatedCut}
use Rattle.net_check.specs.declared.certificate.Side.{Side}
use Rattle.net_check.specs.declared.certificate.Side.TheVariants.{Over, Under}
use Rattle.net_meaning.specs.Network.{Node, Arc, Network, Assignment, net_inflow, AreWithinBounds, IsSatisfied, IsSatisfiedBy}
use Rattle.net_meaning.specs.Represents.{Lacks, magnitude, Represents}
use Rattle.net_driver.specs.Meaning.{marked, nodes_of_cut, shortage}
use Rattle.net_driver.specs.MeaningLaws.{CutsAreMissed}
use Rattle.net_driver.proofs.CutSums.{lacked, complement_length, complement_at, balance, opposite, above, below}
use Rattle.net_driver.proofs.ExactCuts.{exactly}

-- the sum is at most this much, with either sign
abbrev IsWithin : ℤ → ℤ → Type 0
IsWithin sum most = (sum ≤ℤ most) × (neg_ℤ sum ≤ℤ most)

-- a set without the node behind the last of these lacks at most what its conditions miss, if that is so for each node
at_most_missed : (P : Node → ℤ → Type 0) (f : ℕ → ℤ) (vs : List Node) (supplies : List ℤ) (flags : List Bool) (ds : List ℤ) → length supplies ≡ length vs + 1 → length flags ≡ length supplies → is_in flags (length vs) ≡ false
    → ((i : ℕ) (v : Node) (d : ℤ) → slice_get vs i ≡ Some v → P v d → (e : ℤ) × (slice_get supplies i ≡ Some (f i -ℤ e)) × (magnitude e ≤ℤ magnitude d))
    → AllZip P (marked vs flags) ds → IsWithin (lacked f supplies flags) (sum_of (map magnitude ds))
at_most_missed P f [] [] flags ds many long out near h = absurd (omega (arith, many))
at_most_missed P f [] (s ∷ t ∷ supplies) flags ds many long out near h = absurd (omega (arith, many))
at_most_missed P f [] (s ∷ []) [] ds many long out near h = absurd (omega (arith, long))
at_most_missed P f [] (s ∷ []) (a ∷ b ∷ flags) ds many long out near h = absurd (omega (arith, long))
at_most_missed P f [] (s ∷ []) (true ∷ []) ds many long out near h = absurd (let e : true ≡ false = out in cc)
at_most_missed P f [] (s ∷ []) (false ∷ []) [] many long out near h = (omega (arith, ints), omega (arith, ints))
at_most_missed P f [] (s ∷ []) (false ∷ []) (d ∷ ds) many long out near h = absurd h
at_most_missed P f (v ∷ vs) [] flags ds many long out near h = absurd (omega (arith, many))
at_most_missed P f (v ∷ vs) (s ∷ supplies) [] ds many long out near h = absurd (omega (arith, long))
at_most_missed P f (v ∷ vs) (s ∷ supplies) (false ∷ flags) ds many long out near h =
    let more = at_most_missed P (λ u. f (suc u)) vs supplies flags ds (omega (arith, many)) (omega (arith, long)) out (λ i. near (suc i)) h in
    (omega (arith, ints, more.0), omega (arith, ints, more.1))
at_most_missed P f (v ∷ vs) (s ∷ supplies) (true ∷ flags) [] many long out near h = absurd h
at_most_missed P f (v ∷ vs) (s ∷ supplies) (true ∷ flags) (d ∷ ds) many long out near h =
    let more = at_most_missed P (λ u. f (suc u)) vs supplies flags ds (omega (arith, many)) (omega (arith, long)) out (λ i. near (suc i)) h.1 in
    let one = near 0 v d refl h.0 in
    let own : s ≡ f 0 -ℤ one.0 = let e : Some s ≡ Some (f 0 -ℤ one.0) = one.1 in cc in
    let close : magnitude one.0 ≤ℤ magnitude d = one.2 in
    (omega (arith, ints, clamps, own, close, more.0), omega (arith, ints, clamps, own, close, more.1))

-- ---- the law

abbrev zeros : List Node → List ℤ
zeros [] = []
zeros (v ∷ vs) = pos 0 ∷ zeros vs

zeros_sum : (vs : List Node) → sum_of (map magnitude (zeros vs)) ≡ pos 0
zeros_sum [] = refl
zeros_sum (v ∷ vs) = omega (arith, ints, clamps, zeros_sum vs)

module _ (network : Network) (problem : Problem) (link : Link) (flags : List Bool) (h : Represents network problem link) (one_a_node : length flags ≡ vec_len problem.supplies) (x : Assignment) (within : AreWithinBounds network.arcs x) where
  abbrev vs : List Node
  vs = network.nodes

  abbrev all : List Arc
  all = network.arcs

  -- the node's condition is true of its net inflow and d more units
  abbrev IsMissedBy : Node → ℤ → Type 0
  IsMissedBy v d = IsSatisfied v.env v.condition (net_inflow all x v.label +ℤ d)

  abbrev supplies : List ℤ
  supplies = problem.supplies.items

  abbrev arcs : List FlowArc
  arcs = problem.arcs.items

  abbrev flows : List ℤ
  flows = (h.balanced x within).0

  capacity : AllZip IsWithinCapacity arcs flows
  capacity = (h.balanced x within).1

  near : (i : ℕ) (v : Node) (d : ℤ) → slice_get vs i ≡ Some v → IsMissedBy v d → (e : ℤ) × Lacks problem flows i e × (magnitude e ≤ℤ magnitude d)
  near = (h.balanced x within).3

  abbrev f : ℕ → ℤ
  f = net_outflow arcs flows

  size : vec_len problem.supplies ≡ length supplies
  size = problem.supplies.ok.0

  module _ (ds : List ℤ) (zip : AllZip IsMissedBy (nodes_of_cut vs flags) ds) where
    abbrev total : ℤ
    total = sum_of (map magnitude ds)

    bounded : IsWithin (lacked f supplies flags) total
    bounded = go (is_in flags (length vs)) refl zip
      where
        go : (b : Bool) → is_in flags (length vs) ≡ b → AllZip IsMissedBy (marked vs (if b then map not flags else flags)) ds → IsWithin (lacked f supplies flags) total
        go false e z = at_most_missed IsMissedBy f vs supplies flags ds h.nodes (one_a_node ∙ size) e near z
        go true e z =
            let inside : suc (length vs) ≤ length flags = omega (arith, h.nodes, one_a_node, size) in
            let other = at_most_missed IsMissedBy f vs supplies (map not flags) ds h.nodes (complement_length flags ∙ one_a_node ∙ size) (complement_at flags (length vs) inside e) near z in
            let turned = opposite problem flags one_a_node h.total flows capacity in
            (omega (arith, ints, other.1, turned), omega (arith, ints, other.0, turned))

    over : (supply_in supplies flags -ℤ most_out arcs flags) ≤ℤ total
    over = omega (arith, ints, balance problem flags one_a_node h.total flows capacity, below problem flags one_a_node h.total flows capacity, bounded.1)

    under : (least_out arcs flags -ℤ supply_in supplies flags) ≤ℤ total
    under = omega (arith, ints, balance problem flags one_a_node h.total flows capacity, above problem flags one_a_node h.total flows capacity, bounded.0)

    pub missed : (side : Side) → shortage problem flags side ≤ℤ total
    missed Over = over
    missed Under = under

  no_misses : (us : List Node) → AllByRecursion (IsSatisfiedBy all x) us → AllZip IsMissedBy us (zeros us)
  no_misses [] k = tt
  no_misses (v ∷ us) k =
      let same : net_inflow all x v.label ≡ net_inflow all x v.label +ℤ pos 0 = omega (arith, ints) in
      (subst (λ (y : ℤ). IsSatisfied v.env v.condition y) same k.0, no_misses us k.1)

  pub contradicted : (side : Side) → IsViolatedCut problem flags side → AllByRecursion (IsSatisfiedBy all x) (nodes_of_cut vs flags) → ⊥
  contradicted Over cut k = omega (arith, ints, cut.violated, over (zeros (nodes_of_cut vs flags)) (no_misses (nodes_of_cut vs flags) k), zeros_sum (nodes_of_cut vs flags))
  contradicted Under cut k = omega (arith, ints, cut.violated, under (zeros (nodes_of_cut vs flags)) (no_misses (nodes_of_cut vs flags) k), zeros_sum (nodes_of_cut vs flags))

pub cuts_are_missed : CutsAreMissed
cuts_are_missed network problem link flags side h apart cut = record {
  contradict = λ x within k. contradicted network problem link flags h cut.one_a_node x within side cut k;
  missing = λ x ds within zip. missed network problem link flags h cut.one_a_node x within ds zip side;
  exact = exactly network problem link flags side h apart cut;
}
