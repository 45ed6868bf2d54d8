-- For some assignment within the bounds, the conditions of the nodes of a cut are missed by exactly the difference of its two numbers: where the
-- arcs that cross the cut carry all that they can in one direction, and as little as they can in the other.
use Rattle.std.specs.Prelude.{◌≡◌, ◌+◌, ◌≤◌, ◌&&◌, ℕ, zero, suc, Bool, true, false, not, if◌then◌else◌, List, [], ◌∷◌, length, map, slice_get, slice_index_or, Some, vec_len, ℤ, pos, ◌+ℤ◌, ◌-ℤ◌, ◌≤ℤ◌, neg_ℤ}
use Rattle.std.specs.List.{AllByRecursion, AllZip, IsDistinct}
use Rattle.std.proofs.Common.{refl, ap, sym, ◌∙◌, subst, arith}
use Rattle.std.proofs.lemmas.Int.{ints, clamps}
use Rattle.std.proofs.lemmas.List.{length-map}
use Rattle.std.proofs.lemmas.List.Elements.{recursion_from_All, All-weaker}
use Rattle.net_normal.specs.Flows.{net_outflow, IsWithinCapacity}
use Rattle.net_normal.specs.Limits.{IsFlowArcOf}
use Rattle.net_normal.specs.Links.{mapped_back, mapped_back_at, mapped_back_by}
use Rattle.net_normal.specs.Sums.{flow_on, sum_of}
use Rattle.net_normal.specs.declared.problem.FlowArc.{FlowArc}
use Rattle.net_normal.specs.declared.problem.Link.{Link}
use Rattle.net_normal.specs.declared.problem.Problem.{Problem}
use Rattle.net_check.specs.Certificates.{is_in, goes_out, comes_in, supply_in, most_out, least_out, IsViolatedCut}
use Rattle.net_check.specs.declared.certificate.Side.{Side}
use Rattle.net_check.specs.declared.certificate.Side.TheVariants.{Over, Under}
use Rattle.net_meaning.specs.Network as meaning
use Rattle.net_meaning.specs.Network.{Node, Arc, Network, Assignment, same_label, net_inflow, AreWithinBounds, IsSatisfied}
use Rattle.net_meaning.specs.Represents.{IsEncoded, fixed, at, AreEncoded, assignment_of, Lacks, magnitude, HasSlackWithin, Represents}
use Rattle.net_inst.proofs.SoundProblems.{flows_are}
use Rattle.net_driver.specs.Meaning.{marked, nodes_of_cut, shortage, IsExactlyMissed}
use Rattle.net_driver.proofs.CutSums.{lacked, complement_length, complement_at, balance, opposite}

-- ---- flows at the ends of their capacities

-- whether the arc carries all that it can
abbrev is_full : List Bool → Side → FlowArc → Bool
is_full flags Over a = goes_out flags a
is_full flags Under a = comes_in flags a

abbrev extreme : List Bool → Side → FlowArc → ℤ
extreme flags side a = if is_full flags side a then a.cap else a.low

ends_within : (b : Bool) (a : FlowArc) → a.low ≤ℤ a.cap → IsWithinCapacity a (if b then a.cap else a.low)
ends_within true a h = record { low = h; cap = omega (arith, ints) }
ends_within false a h = record { low = omega (arith, ints); cap = h }

within_capacity : (flags : List Bool) (side : Side) (arcs : List FlowArc) → AllByRecursion (λ (a : FlowArc). a.low ≤ℤ a.cap) arcs → AllZip IsWithinCapacity arcs (map (extreme flags side) arcs)
within_capacity flags side [] h = tt
within_capacity flags side (a ∷ arcs) h = (ends_within (is_full flags side a) a h.0, within_capacity flags side arcs h.1)

-- only the flows of the arcs that satisfy the test count
same_total : (test : FlowArc → Bool) (p q : FlowArc → ℤ) → ((a : FlowArc) → test a ≡ true → p a ≡ q a) → (arcs : List FlowArc) → flow_on test arcs (map p arcs) ≡ flow_on test arcs (map q arcs)
same_total test p q h [] = refl
same_total test p q h (a ∷ arcs) = omega (arith, ints, one (test a) (h a), same_total test p q h arcs)
  where
    one : (b : Bool) → (b ≡ true → p a ≡ q a) → (if b then p a else pos 0) ≡ (if b then q a else pos 0)
    one true k = k refl
    one false k = refl

-- no arc both leaves a set and enters it
one_way : (s d : Bool) → (s && not d) ≡ true → (d && not s) ≡ false
one_way true true e = absurd (let k = e in cc)
one_way true false e = refl
one_way false d e = absurd (let k = e in cc)

chosen : (b : Bool) (x y : ℤ) → b ≡ true → (if b then x else y) ≡ x
chosen true x y e = refl
chosen false x y e = absurd (let k = e in cc)

refused : (b : Bool) (x y : ℤ) → b ≡ false → (if b then x else y) ≡ y
refused true x y e = absurd (let k = e in cc)
refused false x y e = refl

most : (flags : List Bool) (arcs : List FlowArc) → flow_on (goes_out flags) arcs (map (extreme flags Over) arcs) -ℤ flow_on (comes_in flags) arcs (map (extreme flags Over) arcs) ≡ most_out arcs flags
most flags arcs =
    omega (
      arith,
      ints,
      same_total (goes_out flags) (extreme flags Over) (λ a. a.cap) (λ a e. chosen (goes_out flags a) a.cap a.low e) arcs,
      same_total (comes_in flags) (extreme flags Over) (λ a. a.low) (λ a e. refused (goes_out flags a) a.cap a.low (one_way (is_in flags a.dst) (is_in flags a.src) e)) arcs,
    )

least : (flags : List Bool) (arcs : List FlowArc) → flow_on (goes_out flags) arcs (map (extreme flags Under) arcs) -ℤ flow_on (comes_in flags) arcs (map (extreme flags Under) arcs) ≡ least_out arcs flags
least flags arcs =
    omega (
      arith,
      ints,
      same_total (goes_out flags) (extreme flags Under) (λ a. a.low) (λ a e. refused (comes_in flags a) a.cap a.low (one_way (is_in flags a.src) (is_in flags a.dst) e)) arcs,
      same_total (comes_in flags) (extreme flags Under) (λ a. a.cap) (λ a e. chosen (comes_in flags a) a.cap a.low e) arcs,
    )

-- ---- flows within the capacities are flows within the bounds

within_at : (arcs : List FlowArc) (flows : List ℤ) (i : ℕ) (f : FlowArc) → AllZip IsWithinCapacity arcs flows → slice_get arcs i ≡ Some f → IsWithinCapacity f (slice_index_or flows i (pos 0))
within_at [] flows i f h e = absurd (let k = e in cc)
within_at (a ∷ arcs) [] i f h e = absurd h
within_at (a ∷ arcs) (y ∷ flows) zero f h e = let same : a ≡ f = cc in subst (λ (g : FlowArc). IsWithinCapacity g y) same h.0
within_at (a ∷ arcs) (y ∷ flows) (suc i) f h e = within_at arcs flows i f h.1 e

zipped_at : (arcs : List FlowArc) (flows : List ℤ) (i : ℕ) (f : FlowArc) (y : ℤ) → AllZip IsWithinCapacity arcs flows → slice_get arcs i ≡ Some f → slice_get flows i ≡ Some y → IsWithinCapacity f y
zipped_at [] flows i f y h e k = absurd (let j = e in cc)
zipped_at (a ∷ arcs) [] i f y h e k = absurd h
zipped_at (a ∷ arcs) (z ∷ flows) zero f y h e k = let arc : a ≡ f = cc in let flow : z ≡ y = cc in subst (λ (g : FlowArc). IsWithinCapacity g y) arc (subst (λ (w : ℤ). IsWithinCapacity a w) flow h.0)
zipped_at (a ∷ arcs) (z ∷ flows) (suc i) f y h e k = zipped_at arcs flows i f y h.1 e k

abbrev IsBounded : Arc → ℤ → Type 0
IsBounded a y = (a.lower ≤ℤ y) × (y ≤ℤ a.upper)

module _ (vs : List Node) (arcs : List FlowArc) (flows : List ℤ) (capacity : AllZip IsWithinCapacity arcs flows) where
  bounded_one : (a : Arc) (offset : ℤ) (n : ℕ) → IsEncoded vs arcs a offset n → IsBounded a (mapped_back_at flows n offset)
  bounded_one a offset zero (fixed lower upper) = (omega (arith, ints, lower), omega (arith, ints, upper))
  bounded_one a offset (suc n) (at i f e from to low cap) =
      let held = within_at arcs flows i f capacity e in
      let least : f.low ≤ℤ slice_index_or flows i (pos 0) = held.low in
      let greatest : slice_index_or flows i (pos 0) ≤ℤ f.cap = held.cap in
      (omega (arith, ints, low, least), omega (arith, ints, cap, greatest))

  bounded_all : (all : List Arc) (offsets : List ℤ) (numbers : List ℕ) → AreEncoded vs arcs all offsets numbers → AllZip IsBounded all (mapped_back_by numbers offsets flows)
  bounded_all [] [] [] h = tt
  bounded_all [] [] (n ∷ numbers) h = absurd h
  bounded_all [] (y ∷ offsets) numbers h = absurd h
  bounded_all (a ∷ all) [] numbers h = absurd h
  bounded_all (a ∷ all) (y ∷ offsets) [] h = absurd h
  bounded_all (a ∷ all) (y ∷ offsets) (n ∷ numbers) h = (bounded_one a y n h.0, bounded_all all offsets numbers h.1)

all_bounded : (all : List Arc) (x : Assignment) → AllZip IsBounded all (map (meaning.flow_on x) all) → AreWithinBounds all x
all_bounded [] x h = tt
all_bounded (a ∷ all) x h = (h.0, all_bounded all x h.1)

zip_count : (all : List Arc) (ys : List ℤ) → AllZip IsBounded all ys → length ys ≡ length all
zip_count [] [] h = refl
zip_count [] (y ∷ ys) h = absurd h
zip_count (a ∷ all) [] h = absurd h
zip_count (a ∷ all) (y ∷ ys) h = ap suc (zip_count all ys h.1)

-- ---- what the nodes of the cut lack

abbrev lacks_of : (f : ℕ → ℤ) (vs : List Node) (supplies : List ℤ) (flags : List Bool) → List ℤ
lacks_of f [] supplies flags = []
lacks_of f (v ∷ vs) [] flags = []
lacks_of f (v ∷ vs) (s ∷ supplies) [] = []
lacks_of f (v ∷ vs) (s ∷ supplies) (flag ∷ flags) = if flag then (f 0 -ℤ s) ∷ lacks_of (λ u. f (suc u)) vs supplies flags else lacks_of (λ u. f (suc u)) vs supplies flags

lacks_sum : (f : ℕ → ℤ) (vs : List Node) (supplies : List ℤ) (flags : List Bool) → length supplies ≡ length vs + 1 → length flags ≡ length supplies → is_in flags (length vs) ≡ false → sum_of (lacks_of f vs supplies flags) ≡ lacked f supplies flags
lacks_sum f [] [] flags many long out = absurd (omega (arith, many))
lacks_sum f [] (s ∷ t ∷ supplies) flags many long out = absurd (omega (arith, many))
lacks_sum f [] (s ∷ []) [] many long out = absurd (omega (arith, long))
lacks_sum f [] (s ∷ []) (a ∷ b ∷ flags) many long out = absurd (omega (arith, long))
lacks_sum f [] (s ∷ []) (true ∷ []) many long out = absurd (let e : true ≡ false = out in cc)
lacks_sum f [] (s ∷ []) (false ∷ []) many long out = omega (arith, ints)
lacks_sum f (v ∷ vs) [] flags many long out = absurd (omega (arith, many))
lacks_sum f (v ∷ vs) (s ∷ supplies) [] many long out = absurd (omega (arith, long))
lacks_sum f (v ∷ vs) (s ∷ supplies) (true ∷ flags) many long out = omega (arith, ints, lacks_sum (λ u. f (suc u)) vs supplies flags (omega (arith, many)) (omega (arith, long)) out)
lacks_sum f (v ∷ vs) (s ∷ supplies) (false ∷ flags) many long out = omega (arith, ints, lacks_sum (λ u. f (suc u)) vs supplies flags (omega (arith, many)) (omega (arith, long)) out)

lacks_zip : (P : Node → ℤ → Type 0) (f : ℕ → ℤ) (vs : List Node) (supplies : List ℤ) (flags : List Bool) → length supplies ≡ length vs + 1 → length flags ≡ length supplies
    → ((i : ℕ) (v : Node) (s : ℤ) → slice_get vs i ≡ Some v → slice_get supplies i ≡ Some s → P v (f i -ℤ s)) → AllZip P (marked vs flags) (lacks_of f vs supplies flags)
lacks_zip P f [] supplies flags many long h = tt
lacks_zip P f (v ∷ vs) [] flags many long h = absurd (omega (arith, many))
lacks_zip P f (v ∷ vs) (s ∷ supplies) [] many long h = absurd (omega (arith, long))
lacks_zip P f (v ∷ vs) (s ∷ supplies) (true ∷ flags) many long h = (h 0 v s refl refl, lacks_zip P (λ u. f (suc u)) vs supplies flags (omega (arith, many)) (omega (arith, long)) (λ i. h (suc i)))
lacks_zip P f (v ∷ vs) (s ∷ supplies) (false ∷ flags) many long h = lacks_zip P (λ u. f (suc u)) vs supplies flags (omega (arith, many)) (omega (arith, long)) (λ i. h (suc i))

-- ---- the law

by_side : (problem : Problem) (flags : List Bool) (side : Side) → IsViolatedCut problem flags side → (sum : ℤ)
    → supply_in problem.supplies.items flags +ℤ sum ≡ flow_on (goes_out flags) problem.arcs.items (map (extreme flags side) problem.arcs.items) -ℤ flow_on (comes_in flags) problem.arcs.items (map (extreme flags side) problem.arcs.items)
    → magnitude sum ≡ shortage problem flags side
by_side problem flags Over cut sum e = omega (arith, ints, clamps, e, most flags problem.arcs.items, cut.violated)
by_side problem flags Under cut sum e = omega (arith, ints, clamps, e, least flags problem.arcs.items, cut.violated)

module _ (network : Network) (problem : Problem) (link : Link) (flags : List Bool) (side : Side) (h : Represents network problem link) (apart : IsDistinct same_label (map (λ (a : Arc). a.label) network.arcs)) (cut : IsViolatedCut problem flags side) where
  abbrev vs : List Node
  vs = network.nodes

  abbrev all : List Arc
  all = network.arcs

  abbrev supplies : List ℤ
  supplies = problem.supplies.items

  abbrev arcs : List FlowArc
  arcs = problem.arcs.items

  abbrev flows : List ℤ
  flows = map (extreme flags side) arcs

  abbrev x : Assignment
  x = assignment_of all link flows

  capacity : AllZip IsWithinCapacity arcs flows
  capacity = within_capacity flags side arcs (recursion_from_All (λ (a : FlowArc). a.low ≤ℤ a.cap) arcs (All-weaker (IsFlowArcOf (vec_len problem.supplies)) (λ a. a.low ≤ℤ a.cap) (λ a k. k.room) arcs problem.arcs_fit))

  abbrev f : ℕ → ℤ
  f = net_outflow arcs flows

  size : vec_len problem.supplies ≡ length supplies
  size = problem.supplies.ok.0

  within : AreWithinBounds all x
  within =
      let zip = bounded_all vs arcs flows capacity all link.offsets.items link.numbers.items h.arcs in
      all_bounded all x (subst (AllZip IsBounded all) (sym (flows_are all (mapped_back link flows) apart (zip_count all (mapped_back link flows) zip))) zip)

  carries : HasSlackWithin problem link flows
  carries = record { each = length-map arcs (extreme flags side); slack = λ i a y unused e k. zipped_at arcs flows i a y capacity e k }

  abbrev IsMissedBy : Node → ℤ → Type 0
  IsMissedBy v d = IsSatisfied v.env v.condition (net_inflow all x v.label +ℤ d)

  met : (i : ℕ) (v : Node) (s : ℤ) → slice_get vs i ≡ Some v → slice_get supplies i ≡ Some s → IsMissedBy v (f i -ℤ s)
  met i v s e k =
      let same : s ≡ f i -ℤ (f i -ℤ s) = omega (arith, ints) in
      let lacks : Lacks problem flows i (f i -ℤ s) = k ∙ ap (λ (z : ℤ). Some z) same in
      h.satisfied flows i v (f i -ℤ s) carries e lacks

  abbrev sum : ℤ
  sum = lacked f supplies flags

  sized : magnitude sum ≡ shortage problem flags side
  sized = by_side problem flags side cut sum (balance problem flags cut.one_a_node h.total flows capacity)

  pub exactly : IsExactlyMissed (nodes_of_cut vs flags) all (shortage problem flags side)
  exactly = go (is_in flags (length vs)) refl
    where
      go : (b : Bool) → is_in flags (length vs) ≡ b → IsExactlyMissed (marked vs (if b then map not flags else flags)) all (shortage problem flags side)
      go false e = (
        x,
        lacks_of f vs supplies flags,
        within,
        lacks_zip IsMissedBy f vs supplies flags h.nodes (cut.one_a_node ∙ size) met,
        ap magnitude (lacks_sum f vs supplies flags h.nodes (cut.one_a_node ∙ size) e) ∙ sized,
      )
      go true e =
          let inside : suc (length vs) ≤ length flags = omega (arith, h.nodes, cut.one_a_node, size) in
          let long : length (map not flags) ≡ length supplies = complement_length flags ∙ cut.one_a_node ∙ size in
          let same : magnitude (neg_ℤ sum) ≡ magnitude sum = omega (arith, ints, clamps) in (
            x,
            lacks_of f vs supplies (map not flags),
            within,
            lacks_zip IsMissedBy f vs supplies (map not flags) h.nodes long met,
            ap magnitude (lacks_sum f vs supplies (map not flags) h.nodes long (complement_at flags (length vs) inside e) ∙ opposite problem flags cut.one_a_node h.total flows capacity) ∙ same ∙ sized,
          )
