-- A certificate of a normal form or a lean form, seen on the network: the prices that are made of its potentials show which arcs are at a bound
-- and which nodes at a side of their range.
use Rattle.std.proofs.Common.{◌≡◌, ◌≢◌, ℕ, zero, suc, ◌+◌, ◌<◌, ◌≤◌, Bool, true, false, cond, List, [], ◌∷◌, ◌++◌, length, map, drop, vec_len, nat_eq, Option, None, Some, ℤ, pos, negsuc, neg_ℤ, ◌+ℤ◌, ◌-ℤ◌, ◌≤ℤ◌, refl, sym, ap, subst, ◌∙◌, arith}
use Rattle.std.specs.Prelude.{◌<ℤ◌, ◌==◌, slice_get, slice_index_or, unwrap_or}
use Rattle.std.specs.List.{AllZip}
use Rattle.std.specs.Option.{ForSome}
use Rattle.std.proofs.lemmas.Int.{ints, clamps}
use Rattle.net_normal.specs.Assignments.{enters, leaves, net_inflow, IsWithinBounds, IsInRange}
use Rattle.net_normal.specs.Flows.{net_outflow, IsWithinCapacity, IsFeasibleFlow}
use Rattle.net_normal.specs.Links.{signed, mapped_back, mapped_back_by}
use Rattle.net_normal.specs.NormalForm.{offset_of, offsets_of, is_left_out, is_open, numbers_from, flow_arc_of, written_arcs, least_inflow, most_inflow, low_side, high_side, low_of, high_of, shift_of, supply_of, supplies_from, slack_arc, slack_arcs_from, IsFormIn}
use Rattle.net_normal.specs.Sums.{flow_on, sum_of}
use Rattle.net_normal.specs.declared.instance.Instance.{Instance}
use Rattle.net_normal.specs.declared.instance.InstArc.{InstArc}
use Rattle.net_normal.specs.declared.instance.NodeRange.{NodeRange}
use Rattle.net_normal.specs.declared.instance.Sense.{Sense}
use Rattle.net_normal.specs.declared.problem.FlowArc.{FlowArc}
use Rattle.net_normal.specs.declared.problem.Link.{Link}
use Rattle.net_normal.specs.declared.problem.Problem.{Problem}
use Rattle.net_normal.specs.declared.profile.Profile.{Profile}
use Rattle.net_normal.proofs.ArcMapsBack.{length-offsets}
use Rattle.net_normal.proofs.ArcSums.{added, rest_of, flow_on-append, flow_on-added, zipped_parts, zipped-length}
use Rattle.net_normal.proofs.NodeRuns.{EachNode, each-weaker, each-get_from_zero, slice_get-inside, standing_on, standing_off}
use Rattle.net_normal.proofs.RangeSides.{closed_sides}
use Rattle.net_normal.proofs.RoomArcs.{room_out-before, room_in-none}
use Rattle.net_normal.proofs.Supplies.{each_supply}
use Rattle.net_normal.proofs.Written.{spread, first_of, by_case, left_out-fixed, length-spread, written_outflow, mapped_back_is}
use Rattle.net_check.specs.Certificates.{reduced_cost, IsComplementary, IsOptimal}
use Rattle.net_report.specs.Prices.{limited}
use Rattle.net_driver.proofs.Extremes.{IsMostAt, IsLeastAt, at_most, at_least, for_each}

-- ---- arcs of the problem

-- a flow within the capacities that agrees with the reduced cost
record IsSettled (potentials : List ℤ) (a : FlowArc) (y : ℤ) : Type 0 where
  within : IsWithinCapacity a y
  slack : IsComplementary potentials a y

settled_all : (potentials : List ℤ) (arcs : List FlowArc) (flows : List ℤ) → AllZip IsWithinCapacity arcs flows → AllZip (IsComplementary potentials) arcs flows → AllZip (IsSettled potentials) arcs flows
settled_all potentials [] [] h k = tt
settled_all potentials [] (y ∷ flows) h k = absurd h
settled_all potentials (a ∷ arcs) [] h k = absurd h
settled_all potentials (a ∷ arcs) (y ∷ flows) h k = (record { within = h.0; slack = k.0 }, settled_all potentials arcs flows h.1 k.1)

-- the flow of an arc of the network, by the reduced cost of its arc in the problem
pub record IsHeld (make : InstArc → FlowArc) (potentials : List ℤ) (a : InstArc) (x : ℤ) : Type 0 where
  pub lower : a.lower ≤ℤ x
  pub upper : x ≤ℤ a.upper
  pub positive : pos 0 <ℤ reduced_cost potentials (make a) → x ≡ a.lower
  pub negative : reduced_cost potentials (make a) <ℤ pos 0 → x ≡ a.upper

held_fixed : (make : InstArc → FlowArc) (potentials : List ℤ) (a : InstArc) (offset : ℤ) → a.lower ≡ offset → a.upper ≡ offset → IsHeld make potentials a (pos 0 +ℤ offset)
held_fixed make potentials a offset lower upper = record {
  lower = omega (arith, ints, lower);
  upper = omega (arith, ints, upper);
  positive = λ _. omega (arith, ints, lower);
  negative = λ _. omega (arith, ints, upper);
}

held_written : (p : Profile) (sense : Sense) (outside : ℕ) (potentials : List ℤ) (a : InstArc) (x : ℤ) → IsSettled potentials (flow_arc_of p sense outside a) x → IsHeld (flow_arc_of p sense outside) potentials a (x +ℤ offset_of p a)
held_written p sense outside potentials a x h =
    let low : (a.lower -ℤ offset_of p a) ≤ℤ x = h.within.low in
    let cap : x ≤ℤ (a.upper -ℤ offset_of p a) = h.within.cap in
    record {
      lower = omega (arith, ints, low);
      upper = omega (arith, ints, cap);
      positive = λ q. let at : x ≡ a.lower -ℤ offset_of p a = h.slack.positive q in omega (arith, ints, at);
      negative = λ q. let at : x ≡ a.upper -ℤ offset_of p a = h.slack.negative q in omega (arith, ints, at);
    }

held : (p : Profile) (sense : Sense) (outside : ℕ) (potentials : List ℤ) (arcs : List InstArc) (xs : List ℤ) → AllZip (IsSettled potentials) (written_arcs p sense outside arcs) xs
    → AllZip (IsHeld (flow_arc_of p sense outside) potentials) arcs (added (spread p arcs xs) (offsets_of p arcs))
held p sense outside potentials [] xs h = tt
held p sense outside potentials (a ∷ arcs) [] h =
    let make = flow_arc_of p sense outside in
    let rest = written_arcs p sense outside arcs in
    by_case (is_left_out p a) (λ b. AllZip (IsSettled potentials) (cond b rest (make a ∷ rest)) [] → AllZip (IsHeld make potentials) (a ∷ arcs) (added (cond b (pos 0 ∷ spread p arcs []) (pos 0 ∷ spread p arcs [])) (offset_of p a ∷ offsets_of p arcs)))
    (λ out k. let fixed = left_out-fixed p a out in (held_fixed make potentials a (offset_of p a) fixed.0 fixed.1, held p sense outside potentials arcs [] k))
    (λ _ k. absurd k) h
held p sense outside potentials (a ∷ arcs) (x ∷ xs) h =
    let make = flow_arc_of p sense outside in
    let rest = written_arcs p sense outside arcs in
    by_case (is_left_out p a) (λ b. AllZip (IsSettled potentials) (cond b rest (make a ∷ rest)) (x ∷ xs) → AllZip (IsHeld make potentials) (a ∷ arcs) (added (cond b (pos 0 ∷ spread p arcs (x ∷ xs)) (x ∷ spread p arcs xs)) (offset_of p a ∷ offsets_of p arcs)))
    (λ out k. let fixed = left_out-fixed p a out in (held_fixed make potentials a (offset_of p a) fixed.0 fixed.1, held p sense outside potentials arcs (x ∷ xs) k))
    (λ _ k. (held_written p sense outside potentials a x k.0, held p sense outside potentials arcs xs k.1)) h

-- ---- slack arcs

-- the potential of a node above that of the outside node
abbrev pub above : List ℤ → ℕ → ℕ → ℤ
above potentials outside u = slice_index_or potentials u (pos 0) -ℤ slice_index_or potentials outside (pos 0)

-- what a node sends over its slack arc: nothing if its potential is the greater one, all that its range allows if it is the smaller one
abbrev IsSlackAt : List InstArc → ℕ → List ℤ → List FlowArc → List ℤ → ℕ → NodeRange → Type 0
IsSlackAt arcs outside potentials rooms flows u r =
    (pos 0 <ℤ above potentials outside u → flow_on (λ (a : FlowArc). nat_eq a.src u) rooms flows ≡ pos 0)
    × (above potentials outside u <ℤ pos 0 → flow_on (λ (a : FlowArc). nat_eq a.src u) rooms flows ≡ high_of arcs u r -ℤ low_of arcs u r)

module _ (arcs : List InstArc) (outside : ℕ) (potentials : List ℤ) where
  abbrev Slacks : ℕ → List NodeRange → List FlowArc → List ℤ → Type 0
  Slacks v ranges rooms flows = EachNode (IsSlackAt arcs outside potentials rooms flows) v ranges

  slack_open : (v : ℕ) (r : NodeRange) (ranges : List NodeRange) → ((ys : List ℤ) → AllZip (IsSettled potentials) (slack_arcs_from arcs outside (suc v) ranges) ys → Slacks (suc v) ranges (slack_arcs_from arcs outside (suc v) ranges) ys)
      → (flows : List ℤ) → AllZip (IsSettled potentials) (slack_arc arcs outside v r ∷ slack_arcs_from arcs outside (suc v) ranges) flows → Slacks v (r ∷ ranges) (slack_arc arcs outside v r ∷ slack_arcs_from arcs outside (suc v) ranges) flows
  slack_open v r ranges ih [] h = absurd h
  slack_open v r ranges ih (y ∷ ys) h =
      let rest = slack_arcs_from arcs outside (suc v) ranges in
      let all : List FlowArc = slack_arc arcs outside v r ∷ rest in
      let here : flow_on (λ (a : FlowArc). nat_eq a.src v) all (y ∷ ys) ≡ y = omega (arith, ints, standing_on v v y refl, room_out-before arcs outside (suc v) ranges ys v (omega arith)) in (
        (
          (λ q. let at : y ≡ pos 0 = h.0.slack.positive (omega (arith, ints, q)) in here ∙ at),
          (λ q. let at : y ≡ high_of arcs v r -ℤ low_of arcs v r = h.0.slack.negative (omega (arith, ints, q)) in here ∙ at),
        ),
        each-weaker (IsSlackAt arcs outside potentials rest ys) (IsSlackAt arcs outside potentials all (y ∷ ys)) (suc v) ranges
            (λ u q l p.
            let same : flow_on (λ (a : FlowArc). nat_eq a.src u) all (y ∷ ys) ≡ flow_on (λ (a : FlowArc). nat_eq a.src u) rest ys = omega (arith, ints, standing_off v u y (λ e. omega arith)) in
            ((λ s. same ∙ p.0 s), (λ s. same ∙ p.1 s))) (ih ys h.1),
      )

  slack_closed : (v : ℕ) (r : NodeRange) (ranges : List NodeRange) → is_open r.low r.high ≡ false → ((ys : List ℤ) → AllZip (IsSettled potentials) (slack_arcs_from arcs outside (suc v) ranges) ys → Slacks (suc v) ranges (slack_arcs_from arcs outside (suc v) ranges) ys)
      → (flows : List ℤ) → AllZip (IsSettled potentials) (slack_arcs_from arcs outside (suc v) ranges) flows → Slacks v (r ∷ ranges) (slack_arcs_from arcs outside (suc v) ranges) flows
  slack_closed v r ranges closed ih flows h =
      let one : low_of arcs v r ≡ high_of arcs v r = closed_sides r.low r.high (least_inflow arcs v) (most_inflow arcs v) r.ordered closed in
      let none = room_out-before arcs outside (suc v) ranges flows v (omega arith) in
      (((λ _. none), (λ _. omega (arith, ints, none, one))), ih flows h)

  slacks : (v : ℕ) (ranges : List NodeRange) (flows : List ℤ) → AllZip (IsSettled potentials) (slack_arcs_from arcs outside v ranges) flows → Slacks v ranges (slack_arcs_from arcs outside v ranges) flows
  slacks v [] flows h = tt
  slacks v (r ∷ ranges) flows h =
      let rest = slack_arcs_from arcs outside (suc v) ranges in
      by_case (is_open r.low r.high) (λ b. AllZip (IsSettled potentials) (cond b (slack_arc arcs outside v r ∷ rest) rest) flows → Slacks v (r ∷ ranges) (cond b (slack_arc arcs outside v r ∷ rest) rest) flows)
      (λ _. slack_open v r ranges (slacks (suc v) ranges) flows) (λ closed. slack_closed v r ranges closed (slacks (suc v) ranges) flows) h

-- ---- a certificate on the network

-- the net inflow of a node is at a side of its range, by its potential; a missing side is completed by what the arcs' bounds allow
pub record IsCompleted (arcs : List InstArc) (u : ℕ) (r : NodeRange) (d y : ℤ) : Type 0 where
  pub low : pos 0 <ℤ d → y ≡ low_side r.low r.high (least_inflow arcs u)
  pub high : d <ℤ pos 0 → y ≡ high_side r.low r.high (most_inflow arcs u)

module _ (p : Profile) (instance : Instance) (problem : Problem) (link : Link) (form : IsFormIn p instance problem link) (potentials flows : List ℤ)
    (feasible : IsFeasibleFlow problem flows) (slackness : AllZip (IsComplementary potentials) problem.arcs.items flows) where
  abbrev is : List InstArc
  is = instance.arcs.items

  abbrev ranges : List NodeRange
  ranges = instance.nodes.items

  abbrev outside : ℕ
  outside = vec_len instance.nodes

  abbrev own : List FlowArc
  own = written_arcs p instance.sense outside is

  abbrev rooms : List FlowArc
  rooms = slack_arcs_from is outside 0 ranges

  parts : (xs : List ℤ) × (ys : List ℤ) × (flows ≡ xs ++ ys) × AllZip (IsSettled potentials) own xs × AllZip (IsSettled potentials) rooms ys
  parts = zipped_parts (IsSettled potentials) own rooms flows (subst (λ (all : List FlowArc). AllZip (IsSettled potentials) all flows) form.arcs (settled_all potentials problem.arcs.items flows feasible.capacity slackness))

  abbrev xs : List ℤ
  xs = parts.0

  abbrev ys : List ℤ
  ys = parts.1

  count : length own ≡ length xs
  count = zipped-length (IsSettled potentials) own xs parts.3

  mapped : mapped_back link flows ≡ added (spread p is xs) (offsets_of p is)
  mapped =
      ap (λ (ns : List ℕ). mapped_back_by ns link.offsets.items flows) form.numbers
      ∙ ap (λ (os : List ℤ). mapped_back_by (numbers_from p 1 is) os flows) form.offsets
      ∙ mapped_back_is p instance.sense outside is 0 flows xs ys parts.2 count

  pub all_held : AllZip (IsHeld (flow_arc_of p instance.sense outside) potentials) is (mapped_back link flows)
  all_held = subst (AllZip (IsHeld (flow_arc_of p instance.sense outside) potentials) is) (sym mapped) (held p instance.sense outside potentials is xs parts.3)

  -- what a node sends out: the flow on its slack arc, less its net inflow without the offsets
  outflow : (u : ℕ) (r : NodeRange) → slice_get ranges u ≡ Some r → net_outflow (own ++ rooms) (xs ++ ys) u ≡ flow_on (λ (a : FlowArc). nat_eq a.src u) rooms ys -ℤ (net_inflow is (added (spread p is xs) (offsets_of p is)) u -ℤ shift_of p is u)
  outflow u r at =
      let apart : outside ≢ u = λ same. omega (arith, slice_get-inside ranges u r at, instance.nodes.ok.0, same) in
      let k : length is ≡ length (offsets_of p is) = sym (length-offsets p is) in
      let h : length is ≡ length (spread p is xs) = sym (length-spread p is xs) in
      omega (
        arith,
        ints,
        flow_on-append (λ (a : FlowArc). nat_eq a.src u) own rooms xs ys count,
        flow_on-append (λ (a : FlowArc). nat_eq a.dst u) own rooms xs ys count,
        written_outflow p instance.sense outside u apart is xs,
        room_in-none is outside 0 ranges ys u apart,
        flow_on-added (enters u) is (spread p is xs) (offsets_of p is) h k,
        flow_on-added (leaves u) is (spread p is xs) (offsets_of p is) h k,
      )

  supply_is : (u : ℕ) (r : NodeRange) → slice_get ranges u ≡ Some r → slice_get problem.supplies.items u ≡ Some (supply_of p is u r)
  supply_is u r at = ap (λ (ss : List ℤ). slice_get ss u) form.supplies ∙ each-get_from_zero (λ v q. slice_get all v ≡ Some (supply_of p is v q)) ranges each u r at
    where
      inner : List ℤ
      inner = supplies_from p is 0 ranges

      all : List ℤ
      all = inner ++ neg_ℤ (sum_of inner) ∷ []

      each : EachNode (λ v q. slice_get all v ≡ Some (supply_of p is v q)) 0 ranges
      each = each_supply p is (λ v s. slice_get all v ≡ Some s) 0 ranges (neg_ℤ (sum_of inner) ∷ []) (λ v s e. let same : v ≡ 0 + v = omega arith in subst (λ w. slice_get all w ≡ Some s) same e)

  -- the slack arc of a node carries its net inflow above the low side
  carried : (u : ℕ) (r : NodeRange) → slice_get ranges u ≡ Some r → flow_on (λ (a : FlowArc). nat_eq a.src u) rooms ys ≡ net_inflow is (mapped_back link flows) u -ℤ low_of is u r
  carried u r at =
      let sent : net_outflow problem.arcs.items flows u ≡ supply_of p is u r = feasible.balance u (supply_of p is u r) (supply_is u r at) in
      let moved : net_outflow problem.arcs.items flows u ≡ net_outflow (own ++ rooms) (xs ++ ys) u = ap (λ (all : List FlowArc). net_outflow all flows u) form.arcs ∙ ap (λ (zs : List ℤ). net_outflow (own ++ rooms) zs u) parts.2 in
      let back : net_inflow is (mapped_back link flows) u ≡ net_inflow is (added (spread p is xs) (offsets_of p is)) u = ap (λ (x : List ℤ). net_inflow is x u) mapped in
      omega (arith, ints, sent, moved, back, outflow u r at)

  pub completed : (u : ℕ) (r : NodeRange) → slice_get ranges u ≡ Some r → IsCompleted is u r (above potentials outside u) (net_inflow is (mapped_back link flows) u)
  completed u r at =
      let slack = each-get_from_zero (IsSlackAt is outside potentials rooms ys) ranges (slacks is outside potentials 0 ranges ys parts.4) u r at in
      let carries = carried u r at in
      record {
        low = λ q. let none = slack.0 q in omega (arith, ints, none, carries);
        high = λ q. let full = slack.1 q in omega (arith, ints, full, carries);
      }
