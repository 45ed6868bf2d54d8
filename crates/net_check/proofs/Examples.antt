-- The definitions, computed on small problems that were worked out by hand.
use Rattle.std.proofs.lemmas.Int.{ints}
use Rattle.std.specs.List.{slice_get}
use Rattle.std.proofs.Common.{◌≡◌, ℕ, true, false, List, [], ◌∷◌, Some, Bool, ℤ, pos, negsuc, refl, subst, arith}
use Rattle.net_normal.specs.Sums.{price_of}
use Rattle.net_normal.specs.Flows.{IsWithinCapacity, net_outflow}
use Rattle.net_normal.specs.declared.problem.FlowArc.{FlowArc}
use Rattle.net_check.specs.FirstFaults.{IsFirstFailing, ArcKeeps}
use Rattle.net_check.specs.Certificates.{IsComplementary, reduced_cost, goes_out, comes_in, supply_in, most_out, least_out}

abbrev flow_arc : ℕ → ℕ → ℤ → ℤ → ℤ → FlowArc
flow_arc src dst low cap cost = record { src = src; dst = dst; low = low; cap = cap; cost = cost }

-- three nodes that supply 4, 0 and -4: two arcs in a row, of which the first carries at least 2, and a dearer one past them
abbrev first : FlowArc
first = flow_arc 0 1 (pos 2) (pos 5) (pos 1)

abbrev past : FlowArc
past = flow_arc 0 2 (pos 0) (pos 5) (pos 3)

abbrev second : FlowArc
second = flow_arc 1 2 (pos 0) (pos 5) (pos 1)

abbrev arcs : List FlowArc
arcs = first ∷ past ∷ second ∷ []

abbrev flows : List ℤ
flows = pos 4 ∷ pos 0 ∷ pos 4 ∷ []

flows_from_first : net_outflow arcs flows 0 ≡ pos 4
flows_from_first = refl

flows_from_middle : net_outflow arcs flows 1 ≡ pos 0
flows_from_middle = refl

flows_from_last : net_outflow arcs flows 2 ≡ negsuc 3
flows_from_last = refl

flows_cost : price_of (λ (arc : FlowArc). arc.cost) arcs flows ≡ pos 8
flows_cost = refl

-- with potentials 0, 1, 2 both arcs in a row are level, and the other one is dear by 1
first_level : reduced_cost (pos 0 ∷ pos 1 ∷ pos 2 ∷ []) first ≡ pos 0
first_level = refl

past_dear : reduced_cost (pos 0 ∷ pos 1 ∷ pos 2 ∷ []) past ≡ pos 1
past_dear = refl

second_level : reduced_cost (pos 0 ∷ pos 1 ∷ pos 2 ∷ []) second ≡ pos 0
second_level = refl

-- a last potential of 1 makes the second arc dear, and one of 3 makes it save
second_dear : reduced_cost (pos 0 ∷ pos 1 ∷ pos 1 ∷ []) second ≡ pos 1
second_dear = refl

second_saves : reduced_cost (pos 0 ∷ pos 1 ∷ pos 3 ∷ []) second ≡ negsuc 0
second_saves = refl

-- so the other arc, which carries its LOW, is as it has to be
past_carries_low : IsComplementary (pos 0 ∷ pos 1 ∷ pos 2 ∷ []) past (pos 0)
past_carries_low = record { positive = λ h. refl; negative = λ h. absurd (omega (arith, ints, h)) }

-- a flow of 6 on the second arc is the first out of its bounds, whatever comes after it
first_within : (arc : FlowArc) (flow : ℤ) → Some first ≡ Some arc → Some (pos 4) ≡ Some flow → IsWithinCapacity arc flow
first_within arc flow p q =
    let here : first ≡ arc = cc in
    let there : pos 4 ≡ flow = cc in
    subst (λ (a : FlowArc). IsWithinCapacity a flow) here (subst (λ (y : ℤ). IsWithinCapacity first y) there (record { low = omega (arith, ints); cap = omega (arith, ints) }))

within_5 : IsWithinCapacity past (pos 6) → ⊥
within_5 h = omega (arith, ints, h.cap)

past_is_first : IsFirstFailing (ArcKeeps IsWithinCapacity arcs (pos 4 ∷ pos 6 ∷ pos 9 ∷ [])) 2
past_is_first = record {
  index = 1;
  counted = refl;
  fails = λ keeps. within_5 (keeps past (pos 6) refl refl);
  before = λ k l arc flow p q.
      let only : k ≡ 0 = omega (arith, l) in
      first_within arc flow (subst (λ (i : ℕ). slice_get arcs i ≡ Some arc) only p) (subst (λ (i : ℕ). slice_get (pos 4 ∷ pos 6 ∷ pos 9 ∷ []) i ≡ Some flow) only q);
}

-- where the last node supplies -5, all three together are short by 1, and their arcs carry nothing out
abbrev all_nodes : List Bool
all_nodes = true ∷ true ∷ true ∷ []

all_supply : supply_in (pos 4 ∷ pos 0 ∷ negsuc 4 ∷ []) all_nodes ≡ negsuc 0
all_supply = refl

all_most : most_out arcs all_nodes ≡ pos 0
all_most = refl

all_least : least_out arcs all_nodes ≡ pos 0
all_least = refl

-- what leaves the middle node is at most 5 less 2, and at least 0 less 5
abbrev middle : List Bool
middle = false ∷ true ∷ false ∷ []

middle_out : goes_out middle second ≡ true
middle_out = refl

middle_in : comes_in middle first ≡ true
middle_in = refl

middle_supply : supply_in (pos 4 ∷ pos 7 ∷ negsuc 4 ∷ []) middle ≡ pos 7
middle_supply = refl

middle_most : most_out arcs middle ≡ pos 3
middle_most = refl

middle_least : least_out arcs middle ≡ negsuc 4
middle_least = refl
