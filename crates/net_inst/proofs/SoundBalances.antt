-- In the normal form and the lean form, the supply of each node stands for its range, whether or not this or the other nodes can be balanced; and
-- the cost of any flow gives the value of its assignment.
use Rattle.std.specs.Prelude.{◌≡◌, ◌≢◌, ◌+◌, ◌≤◌, ℕ, suc, true, false, if◌then◌else◌, List, [], ◌∷◌, ◌++◌, length, map, slice_get, Option, None, Some, vec_len, ⊤, ℤ, pos, ◌+ℤ◌, ◌-ℤ◌, ◌≤ℤ◌, neg_ℤ, nat_eq}
use Rattle.std.specs.Int.{int_min, int_max}
use Rattle.std.specs.List.{AllByRecursion, AllZip}
use Rattle.std.specs.Option.{ForSome}
use Rattle.std.proofs.Common.{refl, ap, sym, ◌∙◌, subst, arith}
use Rattle.std.proofs.lemmas.Int.{ints, clamps}
use lib.IntN.{neg_ℤ-neg_ℤ}
use Rattle.net_normal.specs.Assignments.{enters, leaves, net_inflow, IsWithinBounds, IsInRange, value_of}
use Rattle.net_normal.specs.declared.instance.InstArc.{InstArc}
use Rattle.net_normal.specs.declared.instance.Instance.{Instance}
use Rattle.net_normal.specs.declared.instance.NodeRange.{NodeRange}
use Rattle.net_normal.specs.declared.instance.Sense.{Sense}
use Rattle.net_normal.specs.declared.instance.Sense.TheVariants.{Minimise, Maximise}
use Rattle.net_normal.specs.declared.problem.Link.{Link}
use Rattle.net_normal.specs.declared.problem.FlowArc.{FlowArc}
use Rattle.net_normal.specs.declared.problem.Problem.{Problem}
use Rattle.net_normal.specs.declared.profile.Profile.{Profile}
use Rattle.net_normal.specs.Flows.{net_outflow, IsWithinCapacity, cost_of}
use Rattle.net_normal.specs.Links.{signed, mapped_back, mapped_back_by, value_at}
use Rattle.net_normal.specs.NormalForm.{offsets_of, is_left_out, numbers_from, flow_arc_of, written_arcs, least_inflow, most_inflow, low_side, high_side, low_of, high_of, shift_of, supply_of, supplies_from, slack_arcs_from, IsFormIn}
use Rattle.net_normal.specs.Sums.{price_of, sum_of}
use Rattle.net_normal.proofs.ArcMapsBack.{length-offsets, lessened-within}
use Rattle.net_normal.proofs.ArcSums.{added, lessened, added-lessened, flow_on-append, flow_on-added, flow_on-le, flow_on-ge, price_of-append, price_of-added, zipped_parts, zipped_whole, zipped-weaker, zipped-length}
use Rattle.net_normal.proofs.NodeRuns.{EachNode, each-get_from_zero, each-from_get_zero, slice_get-inside}
use Rattle.net_normal.proofs.RangeSides.{from_low_side, from_high_side, sides-ordered}
use Rattle.net_normal.proofs.RoomArcs.{room_out, room_in-none, room_price-zero, surplus_from}
use Rattle.net_normal.proofs.Supplies.{each_supply}
use Rattle.net_normal.proofs.Surplus.{IsBetween, CarriesOff, surplus_determined, surplus_serves}
use Rattle.net_normal.proofs.Written.{spread, kept, length-spread, written_outflow, written_price, kept-within, spread-kept, mapped_back_is}
use Rattle.net_meaning.specs.Represents.{Lacks, HasSlackWithin, magnitude}

-- the net inflow is between the least and the greatest that the arcs' bounds allow
inflow_between : (arcs : List InstArc) (x : List ℤ) (i : ℕ) → AllZip IsWithinBounds arcs x → (least_inflow arcs i ≤ℤ net_inflow arcs x i) × (net_inflow arcs x i ≤ℤ most_inflow arcs i)
inflow_between arcs x i h =
    let lower = zipped-weaker IsWithinBounds (λ a y. a.lower ≤ℤ y) (λ a y p. p.lower) arcs x h in
    let upper = zipped-weaker IsWithinBounds (λ a y. y ≤ℤ a.upper) (λ a y p. p.upper) arcs x h in (
      omega (arith, ints, flow_on-le (enters i) (λ a. a.lower) arcs x lower, flow_on-ge (leaves i) (λ a. a.upper) arcs x upper),
      omega (arith, ints, flow_on-ge (enters i) (λ a. a.upper) arcs x upper, flow_on-le (leaves i) (λ a. a.lower) arcs x lower),
    )

-- the low side of the node's range; 0 if there is no node
abbrev low_at : List InstArc → ℕ → Option NodeRange → ℤ
low_at arcs i None = pos 0
low_at arcs i (Some r) = low_of arcs i r

-- the number of the node's range that is closest to y; y if there is no node
abbrev clamped : List InstArc → ℕ → ℤ → Option NodeRange → ℤ
clamped arcs i y None = y
clamped arcs i y (Some r) = int_max (low_of arcs i r) (int_min (high_of arcs i r) y)

signed_twice : (sense : Sense) (z : ℤ) → signed sense (signed sense z) ≡ z
signed_twice Minimise z = refl
signed_twice Maximise z = neg_ℤ-neg_ℤ z

-- as many flows as arcs are a flow on each arc
zip_any : {A : Type 0} (arcs : List A) (ys : List ℤ) → length ys ≡ length arcs → AllZip (λ a y. ⊤) arcs ys
zip_any [] [] e = tt
zip_any [] (y ∷ ys) e = absurd (omega (arith, e))
zip_any (a ∷ arcs) [] e = absurd (omega (arith, e))
zip_any (a ∷ arcs) (y ∷ ys) e = (tt, zip_any arcs ys (omega (arith, e)))

-- the number of a completed range that is closest to z is no farther from z than any number of the range itself
nearest : (low high : Option ℤ) (least most z d : ℤ) → ForSome low (λ l. ForSome high (λ h. l ≤ℤ h)) → least ≤ℤ z → z ≤ℤ most → ForSome low (λ l. l ≤ℤ (z +ℤ d)) → ForSome high (λ h. (z +ℤ d) ≤ℤ h)
    → magnitude (int_max (low_side low high least) (int_min (high_side low high most) z) -ℤ z) ≤ℤ magnitude d
nearest (Some l) (Some h) least most z d ordered from upto below above = let in_order : l ≤ℤ h = ordered l refl h refl in omega (arith, ints, clamps, in_order, below l refl, above h refl)
nearest (Some l) None least most z d ordered from upto below above = omega (arith, ints, clamps, below l refl)
nearest None (Some h) least most z d ordered from upto below above = omega (arith, ints, clamps, above h refl)
nearest None None least most z d ordered from upto below above = omega (arith, ints, clamps)

-- the elements behind a list
get_behind : {A : Type 0} (xs ys : List A) (j : ℕ) → slice_get (xs ++ ys) (length xs + j) ≡ slice_get ys j
get_behind [] ys j = let same : 0 + j ≡ j = omega arith in ap (λ (n : ℕ). slice_get ys n) same
get_behind (x ∷ xs) ys j = let same : suc (length xs) + j ≡ suc (length xs + j) = omega arith in ap (λ (n : ℕ). slice_get (x ∷ (xs ++ ys)) n) same ∙ get_behind xs ys j

-- no arc of the network has a number behind those of the written arcs
not_numbered : (p : Profile) (sense : Sense) (outside : ℕ) (arcs : List InstArc) (k m : ℕ) → k + length (written_arcs p sense outside arcs) ≤ suc m → AllByRecursion (λ (n : ℕ). n ≢ suc m) (numbers_from p k arcs)
not_numbered p sense outside [] k m h = tt
not_numbered p sense outside (a ∷ arcs) k m h =
    let make = flow_arc_of p sense outside a in
    let rest = written_arcs p sense outside arcs in
    let both : k + length (if is_left_out p a then rest else make ∷ rest) ≤ suc m → AllByRecursion (λ (n : ℕ). n ≢ suc m) (if is_left_out p a then 0 ∷ numbers_from p k arcs else k ∷ numbers_from p (suc k) arcs) =
    elim (is_left_out p a) as (λ b. k + length (if b then rest else make ∷ rest) ≤ suc m → AllByRecursion (λ (n : ℕ). n ≢ suc m) (if b then 0 ∷ numbers_from p k arcs else k ∷ numbers_from p (suc k) arcs)) [
      | true ↦ λ h. ((λ e. omega (arith, e)), not_numbered p sense outside arcs k m h)
      | false ↦ λ h. ((λ e. omega (arith, e, h)), not_numbered p sense outside arcs (suc k) m (omega (arith, h)))
    ] in
    both h

all_within : (rooms : List FlowArc) (ys : List ℤ) → length rooms ≡ length ys → ((j : ℕ) (f : FlowArc) (y : ℤ) → slice_get rooms j ≡ Some f → slice_get ys j ≡ Some y → IsWithinCapacity f y) → AllZip IsWithinCapacity rooms ys
all_within [] [] e h = tt
all_within [] (y ∷ ys) e h = absurd (omega (arith, e))
all_within (r ∷ rooms) [] e h = absurd (omega (arith, e))
all_within (r ∷ rooms) (y ∷ ys) e h = (h 0 r y refl refl, all_within rooms ys (omega (arith, e)) (λ j f z. h (suc j) f z))

module _ (p : Profile) (instance : Instance) (problem : Problem) (link : Link) (form : IsFormIn p instance problem link) where
  abbrev is : List InstArc
  is = instance.arcs.items

  abbrev ranges : List NodeRange
  ranges = instance.nodes.items

  abbrev outside : ℕ
  outside = vec_len instance.nodes

  abbrev own : List FlowArc
  own = written_arcs p instance.sense outside is

  abbrev rooms : List FlowArc
  rooms = slack_arcs_from is outside 0 ranges

  abbrev offsets : List ℤ
  offsets = offsets_of p is

  mapped : (flows xs ys : List ℤ) → flows ≡ xs ++ ys → length own ≡ length xs → mapped_back link flows ≡ added (spread p is xs) offsets
  mapped flows xs ys e count =
      ap (λ (ns : List ℕ). mapped_back_by ns link.offsets.items flows) form.numbers
      ∙ ap (λ (os : List ℤ). mapped_back_by (numbers_from p 1 is) os flows) form.offsets
      ∙ mapped_back_is p instance.sense outside is 0 flows xs ys e count

  -- what a node sends out: the flow on its slack arc, less its net inflow without the offsets
  outflow : (xs ys : List ℤ) (i : ℕ) (r : NodeRange) → slice_get ranges i ≡ Some r → length own ≡ length xs
      → net_outflow (own ++ rooms) (xs ++ ys) i ≡ room_out is outside 0 ranges ys i -ℤ (net_inflow is (added (spread p is xs) offsets) i -ℤ shift_of p is i)
  outflow xs ys i r at count =
      let apart : outside ≢ i = λ same. omega (arith, slice_get-inside ranges i r at, instance.nodes.ok.0, same) in
      let k : length is ≡ length offsets = sym (length-offsets p is) in
      let h : length is ≡ length (spread p is xs) = sym (length-spread p is xs) in
      omega (
        arith,
        ints,
        flow_on-append (λ (a : FlowArc). nat_eq a.src i) own rooms xs ys count,
        flow_on-append (λ (a : FlowArc). nat_eq a.dst i) own rooms xs ys count,
        written_outflow p instance.sense outside i apart is xs,
        room_in-none is outside 0 ranges ys i apart,
        flow_on-added (enters i) is (spread p is xs) offsets h k,
        flow_on-added (leaves i) is (spread p is xs) offsets h k,
      )

  -- the same of a flow of the problem
  sends : (flows xs ys : List ℤ) (i : ℕ) (r : NodeRange) → flows ≡ xs ++ ys → slice_get ranges i ≡ Some r → length own ≡ length xs
      → net_outflow problem.arcs.items flows i ≡ room_out is outside 0 ranges ys i -ℤ (net_inflow is (added (spread p is xs) offsets) i -ℤ shift_of p is i)
  sends flows xs ys i r e at count = ap (λ (all : List FlowArc). net_outflow all flows i) form.arcs ∙ ap (λ (zs : List ℤ). net_outflow (own ++ rooms) zs i) e ∙ outflow xs ys i r at count

  supply_is : (i : ℕ) (r : NodeRange) → slice_get ranges i ≡ Some r → slice_get problem.supplies.items i ≡ Some (supply_of p is i r)
  supply_is i r at = ap (λ (ss : List ℤ). slice_get ss i) form.supplies ∙ each-get_from_zero (λ u q. slice_get all u ≡ Some (supply_of p is u q)) ranges each i r at
    where
      inner : List ℤ
      inner = supplies_from p is 0 ranges

      all : List ℤ
      all = inner ++ neg_ℤ (sum_of inner) ∷ []

      each : EachNode (λ u q. slice_get all u ≡ Some (supply_of p is u q)) 0 ranges
      each = each_supply p is (λ u s. slice_get all u ≡ Some s) 0 ranges (neg_ℤ (sum_of inner) ∷ []) (λ u s e. let same : u ≡ 0 + u = omega arith in subst (λ w. slice_get all w ≡ Some s) same e)

  -- if a node lacks d units, its net inflow and d more units are in its range
  pub in_range : (flows : List ℤ) (i : ℕ) (r : NodeRange) (d : ℤ) → HasSlackWithin problem link flows → slice_get ranges i ≡ Some r → Lacks problem flows i d → IsInRange r (net_inflow is (mapped_back link flows) i +ℤ d)
  in_range flows i r d carries at lacks = record {
    low = from_low_side r.low r.high (least_inflow is i) (net_inflow is (mapped_back link flows) i +ℤ d) (subst (λ (y : ℤ). low_of is i r ≤ℤ y) same between.0);
    high = from_high_side r.low r.high (most_inflow is i) (net_inflow is (mapped_back link flows) i +ℤ d) (subst (λ (y : ℤ). y ≤ℤ high_of is i r) same between.1);
  }
    where
      parts : (xs : List ℤ) × (ys : List ℤ) × (flows ≡ xs ++ ys) × AllZip (λ a y. ⊤) own xs × AllZip (λ a y. ⊤) rooms ys
      parts = zipped_parts (λ a y. ⊤) own rooms flows (zip_any (own ++ rooms) flows (carries.each ∙ ap (λ (all : List FlowArc). length all) form.arcs))

      count : length own ≡ length parts.0
      count = zipped-length (λ a y. ⊤) own parts.0 parts.3

      held : AllZip IsWithinCapacity rooms parts.1
      held = all_within rooms parts.1 (zipped-length (λ a y. ⊤) rooms parts.1 parts.4) (λ j f y e k.
          let unused = subst (λ (ns : List ℕ). AllByRecursion (λ (n : ℕ). n ≢ suc (length own + j)) ns) (sym form.numbers) (not_numbered p instance.sense outside is 1 (length own + j) (omega arith)) in
          let arc : slice_get problem.arcs.items (length own + j) ≡ Some f = ap (λ (all : List FlowArc). slice_get all (length own + j)) form.arcs ∙ get_behind own rooms j ∙ e in
          let flow : slice_get flows (length own + j) ≡ Some y = ap (λ (zs : List ℤ). slice_get zs (length own + j)) parts.2 ∙ ap (λ (n : ℕ). slice_get (parts.0 ++ parts.1) (n + j)) count ∙ get_behind parts.0 parts.1 j ∙ k in
          carries.slack (length own + j) f y unused arc flow)

      -- the net inflow of which the slack flow is the part above the low side
      carried : ℕ → ℤ
      carried u = room_out is outside 0 ranges parts.1 u +ℤ low_at is u (slice_get ranges u)

      carried_off : EachNode (CarriesOff is carried rooms parts.1) 0 ranges
      carried_off = each-from_get_zero (CarriesOff is carried rooms parts.1) ranges (λ u q e. let low : low_at is u (slice_get ranges u) ≡ low_of is u q = ap (low_at is u) e in omega (arith, ints, low))

      between : IsBetween is carried i r
      between = each-get_from_zero (IsBetween is carried) ranges (surplus_determined is outside carried 0 ranges parts.1 held carried_off).1 i r at

      sent : supply_of p is i r ≡ net_outflow problem.arcs.items flows i -ℤ d
      sent = let supply = supply_is i r at in cc

      same : carried i ≡ net_inflow is (mapped_back link flows) i +ℤ d
      same =
          let low : low_at is i (slice_get ranges i) ≡ low_of is i r = ap (low_at is i) at in
          let back : net_inflow is (mapped_back link flows) i ≡ net_inflow is (added (spread p is parts.0) offsets) i = ap (λ (x : List ℤ). net_inflow is x i) (mapped flows parts.0 parts.1 parts.2 count) in
          omega (arith, ints, low, back, sent, sends flows parts.0 parts.1 i r parts.2 at count)

  pub record Carries (x : List ℤ) : Type 0 where
    pub flows : List ℤ
    pub capacity : AllZip IsWithinCapacity problem.arcs.items flows
    pub back : mapped_back link flows ≡ x
    pub near : (i : ℕ) (r : NodeRange) (d : ℤ) → slice_get ranges i ≡ Some r → IsInRange r (net_inflow is x i +ℤ d) → (e : ℤ) × Lacks problem flows i e × (magnitude e ≤ℤ magnitude d)

  -- an assignment within the bounds has a flow within the capacities in which no node lacks more than its net inflow is from its range
  pub carried_by : (x : List ℤ) → AllZip IsWithinBounds is x → Carries x
  carried_by x bounds = record {
    flows = xs ++ ys;
    capacity = subst (λ (all : List FlowArc). AllZip IsWithinCapacity all (xs ++ ys)) (sym form.arcs) (zipped_whole IsWithinCapacity own rooms xs ys held serves.0);
    back = mapped (xs ++ ys) xs ys refl count ∙ whole;
    near = near;
  }
    where
      zs : List ℤ
      zs = lessened x offsets

      within : AllZip IsWithinCapacity (map (flow_arc_of p instance.sense outside) is) zs
      within = lessened-within p instance.sense outside is x bounds

      xs : List ℤ
      xs = kept p is zs

      held : AllZip IsWithinCapacity own xs
      held = kept-within p instance.sense outside is zs within

      count : length own ≡ length xs
      count = zipped-length IsWithinCapacity own xs held

      even : length x ≡ length offsets
      even = sym (zipped-length IsWithinBounds is x bounds) ∙ sym (length-offsets p is)

      whole : added (spread p is xs) offsets ≡ x
      whole = ap (λ (ws : List ℤ). added ws offsets) (spread-kept p instance.sense outside is zs within) ∙ added-lessened x offsets even

      -- the net inflow of each node, moved into its range
      f : ℕ → ℤ
      f u = clamped is u (net_inflow is x u) (slice_get ranges u)

      ys : List ℤ
      ys = surplus_from is f 0 ranges

      sides : (u : ℕ) (q : NodeRange) → slice_get ranges u ≡ Some q → IsBetween is f u q
      sides u q e =
          let at : f u ≡ clamped is u (net_inflow is x u) (Some q) = ap (clamped is u (net_inflow is x u)) e in
          let limits = inflow_between is x u bounds in
          let ordered : low_of is u q ≤ℤ high_of is u q = sides-ordered q.low q.high (least_inflow is u) (most_inflow is u) q.ordered (omega (arith, ints, limits.0, limits.1)) in
          (omega (arith, ints, clamps, at, ordered), omega (arith, ints, clamps, at, ordered))

      serves : AllZip IsWithinCapacity rooms ys × EachNode (CarriesOff is f rooms ys) 0 ranges
      serves = surplus_serves is outside f 0 ranges (each-from_get_zero (IsBetween is f) ranges sides)

      near : (i : ℕ) (r : NodeRange) (d : ℤ) → slice_get ranges i ≡ Some r → IsInRange r (net_inflow is x i +ℤ d) → (e : ℤ) × Lacks problem (xs ++ ys) i e × (magnitude e ≤ℤ magnitude d)
      near i r d at inside =
          let limits = inflow_between is x i bounds in
          let here : f i ≡ clamped is i (net_inflow is x i) (Some r) = ap (clamped is i (net_inflow is x i)) at in
          let close = nearest r.low r.high (least_inflow is i) (most_inflow is i) (net_inflow is x i) d r.ordered limits.0 limits.1 inside.low inside.high in
          let carried : CarriesOff is f rooms ys i r = each-get_from_zero (CarriesOff is f rooms ys) ranges serves.1 i r at in
          let moved : net_inflow is (added (spread p is xs) offsets) i ≡ net_inflow is x i = ap (λ (ws : List ℤ). net_inflow is ws i) whole in
          let sent : supply_of p is i r ≡ net_outflow problem.arcs.items (xs ++ ys) i -ℤ (f i -ℤ net_inflow is x i) = omega (arith, ints, carried, moved, sends (xs ++ ys) xs ys i r refl at count) in (
            f i -ℤ net_inflow is x i,
            supply_is i r at ∙ ap (λ (s : ℤ). Some s) sent,
            subst (λ (y : ℤ). magnitude (y -ℤ net_inflow is x i) ≤ℤ magnitude d) (sym here) close,
          )

  -- the cost of any flow gives the value of its assignment
  pub cost_is_value : (flows : List ℤ) → length flows ≡ length problem.arcs.items → value_of instance (mapped_back link flows) ≡ value_at link (cost_of problem flows)
  cost_is_value flows long = ap (value_of instance) (mapped flows xs ys parts.2 count) ∙ omega (arith, ints, sums, form.constant, back)
    where
      parts : (xs : List ℤ) × (ys : List ℤ) × (flows ≡ xs ++ ys) × AllZip (λ a y. ⊤) own xs × AllZip (λ a y. ⊤) rooms ys
      parts = zipped_parts (λ a y. ⊤) own rooms flows (zip_any (own ++ rooms) flows (long ∙ ap (λ (all : List FlowArc). length all) form.arcs))

      xs : List ℤ
      xs = parts.0

      ys : List ℤ
      ys = parts.1

      count : length own ≡ length xs
      count = zipped-length (λ a y. ⊤) own xs parts.3

      price : List ℤ → ℤ
      price = price_of (λ (a : InstArc). a.coefficient) is

      sums : price (added (spread p is xs) offsets) ≡ price (spread p is xs) +ℤ price offsets
      sums = price_of-added (λ (a : InstArc). a.coefficient) is (spread p is xs) offsets (sym (length-spread p is xs)) (sym (length-offsets p is))

      split : cost_of problem flows ≡ price_of (λ (a : FlowArc). a.cost) own xs +ℤ price_of (λ (a : FlowArc). a.cost) rooms ys
      split =
          ap (λ (all : List FlowArc). price_of (λ (a : FlowArc). a.cost) all flows) form.arcs
          ∙ ap (price_of (λ (a : FlowArc). a.cost) (own ++ rooms)) parts.2
          ∙ price_of-append (λ (a : FlowArc). a.cost) own rooms xs ys count

      cost : cost_of problem flows ≡ signed instance.sense (price (spread p is xs))
      cost = omega (arith, ints, split, room_price-zero is outside 0 ranges ys, written_price p instance.sense outside is xs)

      back : signed link.sense (cost_of problem flows) ≡ price (spread p is xs)
      back = ap (λ (s : Sense). signed s (cost_of problem flows)) form.sense ∙ ap (signed instance.sense) cost ∙ signed_twice instance.sense (price (spread p is xs))
