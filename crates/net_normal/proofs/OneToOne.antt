-- What is laid down by the rules corresponds one to one.
use Rattle.std.proofs.Common.{◌≡◌, ◌≢◌, ℕ, suc, ◌+◌, ◌<◌, Some, List, [], ◌∷◌, ◌++◌, length, map, ℤ, pos, ◌+ℤ◌, ◌-ℤ◌, ◌≤ℤ◌, neg_ℤ, nat_eq, slice_get, vec_len, refl, sym, ◌∙◌, ap, subst, arith, length-append}
use Rattle.std.proofs.lemmas.Int.{ints}
use Rattle.std.proofs.lemmas.List.Elements.{recursion_from_All, All-weaker}
use Rattle.std.specs.List.{All, AllZip}
use Rattle.net_normal.specs.Limits.{IsFlowArcOf}
use Rattle.net_normal.specs.Sums.{price_of, sum_of}
use Rattle.net_normal.specs.Assignments.{enters, leaves, net_inflow, IsWithinBounds, IsFeasibleAssignment, value_of}
use Rattle.net_normal.specs.Flows.{net_outflow, IsWithinCapacity, IsFeasibleFlow, cost_of}
use Rattle.net_normal.specs.Links.{signed, mapped_back, mapped_back_by, value_at}
use Rattle.net_normal.specs.NormalForm.{offsets_of, numbers_from, flow_arc_of, written_arcs, least_inflow, most_inflow, shift_of, supply_of, supplies_from, slack_arcs_from, IsFormIn}
use Rattle.net_normal.specs.Correspondence.{CorrespondsOneToOne}
use Rattle.net_normal.specs.declared.instance.Instance.{Instance}
use Rattle.net_normal.specs.declared.instance.InstArc.{InstArc}
use Rattle.net_normal.specs.declared.instance.NodeRange.{NodeRange}
use Rattle.net_normal.specs.declared.instance.Sense.{Sense}
use Rattle.net_normal.specs.declared.instance.Sense.TheVariants.{Minimise, Maximise}
use lib.IntN.{neg_ℤ-neg_ℤ}
use Rattle.net_normal.specs.declared.problem.FlowArc.{FlowArc}
use Rattle.net_normal.specs.declared.problem.Problem.{Problem}
use Rattle.net_normal.specs.declared.problem.Link.{Link}
use Rattle.net_normal.specs.declared.profile.Profile.{Profile}
use Rattle.net_normal.proofs.ArcSums.{added, lessened, flow_on-append, flow_on-added, flow_on-le, flow_on-ge, price_of-append, price_of-added, zipped_parts, zipped_whole, zipped-weaker, zipped-length, added-lessened, lessened-added}
use Rattle.net_normal.proofs.NodeRuns.{EachNode, each-get_from_zero, each-from_get_zero, slice_get-inside, sum_over_last}
use Rattle.net_normal.proofs.RangeSides.{within_sides, from_low_side, from_high_side}
use Rattle.net_normal.proofs.RoomArcs.{room_out, room_in-none, room_price-zero, surplus_from}
use Rattle.net_normal.proofs.Surplus.{IsBetween, CarriesOff, surplus_determined, surplus_serves}
use Rattle.net_normal.proofs.Supplies.{length-supplies_from, each_supply, supply_at, sum-supplies, outflows-sum}
use Rattle.net_normal.proofs.ArcMapsBack.{length-offsets, added-within, lessened-within}
use Rattle.net_normal.proofs.Written.{spread, kept, length-spread, written_outflow, written_price, spread-within, kept-within, spread-kept, kept-spread, mapped_back_is}

-- what a node of the network sends out by all arcs of the problem
node_outflow : (p : Profile) (sense : Sense) (outside : ℕ) (arcs : List InstArc) (ranges : List NodeRange) (xs ys : List ℤ) (u : ℕ) → outside ≢ u → length (written_arcs p sense outside arcs) ≡ length xs →
    net_outflow (written_arcs p sense outside arcs ++ slack_arcs_from arcs outside 0 ranges) (xs ++ ys) u ≡ room_out arcs outside 0 ranges ys u -ℤ net_inflow arcs (spread p arcs xs) u
node_outflow p sense outside arcs ranges xs ys u apart same =
    omega (
      arith,
      ints,
      flow_on-append (λ (a : FlowArc). nat_eq a.src u) (written_arcs p sense outside arcs) (slack_arcs_from arcs outside 0 ranges) xs ys same,
      flow_on-append (λ (a : FlowArc). nat_eq a.dst u) (written_arcs p sense outside arcs) (slack_arcs_from arcs outside 0 ranges) xs ys same,
      written_outflow p sense outside u apart arcs xs,
      room_in-none arcs outside 0 ranges ys u apart,
    )

-- the offsets shift each net inflow
inflow-added : (p : Profile) (arcs : List InstArc) (xs : List ℤ) (u : ℕ) → length arcs ≡ length xs → net_inflow arcs (added xs (offsets_of p arcs)) u ≡ net_inflow arcs xs u +ℤ shift_of p arcs u
inflow-added p arcs xs u h =
    let k : length arcs ≡ length (offsets_of p arcs) = sym (length-offsets p arcs) in
    omega (arith, ints, flow_on-added (enters u) arcs xs (offsets_of p arcs) h k, flow_on-added (leaves u) arcs xs (offsets_of p arcs) h k)

-- what a feasible flow of a form is made of
record Reading (p : Profile) (instance : Instance) (problem : Problem) (link : Link) (flows : List ℤ) : Type 0 where
  own : List ℤ
  others : List ℤ
  parts : flows ≡ own ++ others
  written : length (written_arcs p instance.sense (vec_len instance.nodes) instance.arcs.items) ≡ length own
  map_back : mapped_back link flows ≡ added (spread p instance.arcs.items own) (offsets_of p instance.arcs.items)
  bounds : AllZip IsWithinBounds instance.arcs.items (added (spread p instance.arcs.items own) (offsets_of p instance.arcs.items))
  surplus : others ≡ surplus_from instance.arcs.items (net_inflow instance.arcs.items (added (spread p instance.arcs.items own) (offsets_of p instance.arcs.items))) 0 instance.nodes.items
  between : EachNode (IsBetween instance.arcs.items (net_inflow instance.arcs.items (added (spread p instance.arcs.items own) (offsets_of p instance.arcs.items)))) 0 instance.nodes.items

-- a node of the network sends out its supply, so its surplus is carried off
carries_off : (p : Profile) (instance : Instance) (xs ys : List ℤ) → length (written_arcs p instance.sense (vec_len instance.nodes) instance.arcs.items) ≡ length xs →
    ((u : ℕ) (r : NodeRange) → slice_get instance.nodes.items u ≡ Some r → net_outflow (written_arcs p instance.sense (vec_len instance.nodes) instance.arcs.items ++ slack_arcs_from instance.arcs.items (vec_len instance.nodes) 0 instance.nodes.items) (xs ++ ys) u ≡ supply_of p instance.arcs.items u r) →
    EachNode (CarriesOff instance.arcs.items (net_inflow instance.arcs.items (added (spread p instance.arcs.items xs) (offsets_of p instance.arcs.items))) (slack_arcs_from instance.arcs.items (vec_len instance.nodes) 0 instance.nodes.items) ys) 0 instance.nodes.items
carries_off p instance xs ys count balance =
    let arcs = instance.arcs.items in
    let ranges = instance.nodes.items in
    let outside = vec_len instance.nodes in
    let zs = spread p arcs xs in
    each-from_get_zero (CarriesOff arcs (net_inflow arcs (added zs (offsets_of p arcs))) (slack_arcs_from arcs outside 0 ranges) ys) ranges
    (λ u r e.
    let apart : outside ≢ u = λ same. omega (arith, slice_get-inside ranges u r e, instance.nodes.ok.0, same) in
    omega (arith, ints, balance u r e, node_outflow p instance.sense outside arcs ranges xs ys u apart count, inflow-added p arcs zs u (sym (length-spread p arcs xs))))

reading : (p : Profile) (instance : Instance) (problem : Problem) (link : Link) → IsFormIn p instance problem link → (flows : List ℤ) → IsFeasibleFlow problem flows → Reading p instance problem link flows
reading p instance problem link form flows feasible =
    let arcs = instance.arcs.items in
    let ranges = instance.nodes.items in
    let outside = vec_len instance.nodes in
    let written = written_arcs p instance.sense outside arcs in
    let rooms = slack_arcs_from arcs outside 0 ranges in
    let inner = supplies_from p arcs 0 ranges in
    let zipped : AllZip IsWithinCapacity (written ++ rooms) flows = subst (λ (all : List FlowArc). AllZip IsWithinCapacity all flows) form.arcs feasible.capacity in
    let parts = zipped_parts IsWithinCapacity written rooms flows zipped in
    let xs = parts.0 in
    let ys = parts.1 in
    let count : length written ≡ length xs = zipped-length IsWithinCapacity written xs parts.3 in
    let zs = spread p arcs xs in
    let f = net_inflow arcs (added zs (offsets_of p arcs)) in
    let reported : (u : ℕ) (s : ℤ) → slice_get (inner ++ neg_ℤ (sum_of inner) ∷ []) u ≡ Some s → net_outflow (written ++ rooms) (xs ++ ys) u ≡ s
    = λ u s e. ap (λ (all : List FlowArc). net_outflow all (xs ++ ys) u) (sym form.arcs) ∙ ap (λ (ws : List ℤ). net_outflow problem.arcs.items ws u) (sym parts.2) ∙ feasible.balance u s (ap (λ (ss : List ℤ). slice_get ss u) form.supplies ∙ e) in
    let balance : EachNode (λ u r. net_outflow (written ++ rooms) (xs ++ ys) u ≡ supply_of p arcs u r) 0 ranges
    = each_supply p arcs (λ u s. net_outflow (written ++ rooms) (xs ++ ys) u ≡ s) 0 ranges (neg_ℤ (sum_of inner) ∷ [])
    (λ u s e. let at : u ≡ 0 + u = omega arith in subst (λ (w : ℕ). net_outflow (written ++ rooms) (xs ++ ys) w ≡ s) at (reported u s e)) in
    let carries = carries_off p instance xs ys count (each-get_from_zero (λ u r. net_outflow (written ++ rooms) (xs ++ ys) u ≡ supply_of p arcs u r) ranges balance) in
    let found = surplus_determined arcs outside f 0 ranges ys parts.4 carries in
    record {
      own = xs;
      others = ys;
      parts = parts.2;
      written = count;
      map_back = ap (λ (ns : List ℕ). mapped_back_by ns link.offsets.items flows) form.numbers ∙ ap (λ (os : List ℤ). mapped_back_by (numbers_from p 1 arcs) os flows) form.offsets ∙ mapped_back_is p instance.sense outside arcs 0 flows xs ys parts.2 count;
      bounds = added-within p instance.sense outside arcs zs (spread-within p instance.sense outside arcs xs parts.3);
      surplus = found.0;
      between = found.1;
    }

forward : (p : Profile) (instance : Instance) (problem : Problem) (link : Link) (flows : List ℤ) → Reading p instance problem link flows → IsFeasibleAssignment instance (mapped_back link flows)
forward p instance problem link flows r =
    let arcs = instance.arcs.items in
    let x = added (spread p arcs r.own) (offsets_of p arcs) in
    let feasible : IsFeasibleAssignment instance x = record {
      bounds = r.bounds;
      ranges = λ v range e.
          let between : IsBetween arcs (net_inflow arcs x) v range = each-get_from_zero (IsBetween arcs (net_inflow arcs x)) instance.nodes.items r.between v range e in
          record {
            low = from_low_side range.low range.high (least_inflow arcs v) (net_inflow arcs x v) between.0;
            high = from_high_side range.low range.high (most_inflow arcs v) (net_inflow arcs x v) between.1;
          };
    } in
    subst (IsFeasibleAssignment instance) (sym r.map_back) feasible

injective : (p : Profile) (instance : Instance) (problem : Problem) (link : Link) (flows others : List ℤ) → Reading p instance problem link flows → Reading p instance problem link others → mapped_back link flows ≡ mapped_back link others → flows ≡ others
injective p instance problem link flows others r s e =
    let arcs = instance.arcs.items in
    let outside = vec_len instance.nodes in
    let offsets = offsets_of p arcs in
    let rs = spread p arcs r.own in
    let ss = spread p arcs s.own in
    let same : added rs offsets ≡ added ss offsets = sym r.map_back ∙ e ∙ s.map_back in
    let m : length rs ≡ length offsets = length-spread p arcs r.own ∙ sym (length-offsets p arcs) in
    let n : length ss ≡ length offsets = length-spread p arcs s.own ∙ sym (length-offsets p arcs) in
    let all : rs ≡ ss = sym (lessened-added rs offsets m) ∙ ap (λ (zs : List ℤ). lessened zs offsets) same ∙ lessened-added ss offsets n in
    let own : r.own ≡ s.own = sym (kept-spread p instance.sense outside arcs r.own r.written) ∙ ap (kept p arcs) all ∙ kept-spread p instance.sense outside arcs s.own s.written in
    let rest : r.others ≡ s.others = r.surplus ∙ ap (λ (zs : List ℤ). surplus_from arcs (net_inflow arcs zs) 0 instance.nodes.items) same ∙ sym s.surplus in
    r.parts ∙ ap (λ (zs : List ℤ). zs ++ r.others) own ∙ ap (λ (zs : List ℤ). s.own ++ zs) rest ∙ sym s.parts

signed_twice : (sense : Sense) (z : ℤ) → signed sense (signed sense z) ≡ z
signed_twice Minimise z = refl
signed_twice Maximise z = neg_ℤ-neg_ℤ z

value : (p : Profile) (instance : Instance) (problem : Problem) (link : Link) → IsFormIn p instance problem link → (flows : List ℤ) → Reading p instance problem link flows → value_of instance (mapped_back link flows) ≡ value_at link (cost_of problem flows)
value p instance problem link form flows r =
    let arcs = instance.arcs.items in
    let ranges = instance.nodes.items in
    let outside = vec_len instance.nodes in
    let offsets = offsets_of p arcs in
    let written = written_arcs p instance.sense outside arcs in
    let rooms = slack_arcs_from arcs outside 0 ranges in
    let zs = spread p arcs r.own in
    let price : List ℤ → ℤ = price_of (λ (a : InstArc). a.coefficient) arcs in
    let at : value_of instance (mapped_back link flows) ≡ instance.constant +ℤ price (added zs offsets) = ap (value_of instance) r.map_back in
    let sums : price (added zs offsets) ≡ price zs +ℤ price offsets = price_of-added (λ (a : InstArc). a.coefficient) arcs zs offsets (sym (length-spread p arcs r.own)) (sym (length-offsets p arcs)) in
    let whole : cost_of problem flows ≡ price_of (λ (a : FlowArc). a.cost) (written ++ rooms) (r.own ++ r.others) = ap (λ (all : List FlowArc). price_of (λ (a : FlowArc). a.cost) all flows) form.arcs ∙ ap (price_of (λ (a : FlowArc). a.cost) (written ++ rooms)) r.parts in
    let split = price_of-append (λ (a : FlowArc). a.cost) written rooms r.own r.others r.written in
    let none : price_of (λ (a : FlowArc). a.cost) rooms r.others ≡ pos 0 = room_price-zero arcs outside 0 ranges r.others in
    let costs : price_of (λ (a : FlowArc). a.cost) written r.own ≡ signed instance.sense (price zs) = written_price p instance.sense outside arcs r.own in
    let cost : cost_of problem flows ≡ signed instance.sense (price zs) = whole ∙ split ∙ omega (arith, ints, none, costs) in
    let back : signed link.sense (cost_of problem flows) ≡ price zs = ap (λ (s : Sense). signed s (cost_of problem flows)) form.sense ∙ ap (signed instance.sense) cost ∙ signed_twice instance.sense (price zs) in
    at ∙ omega (arith, ints, sums, form.constant, back)

-- the net inflow lies between what the bounds allow at least and at most
inflow_least : (arcs : List InstArc) (x : List ℤ) (u : ℕ) → AllZip IsWithinBounds arcs x → least_inflow arcs u ≤ℤ net_inflow arcs x u
inflow_least arcs x u h =
    let lower = zipped-weaker IsWithinBounds (λ a y. a.lower ≤ℤ y) (λ a y p. p.lower) arcs x h in
    let upper = zipped-weaker IsWithinBounds (λ a y. y ≤ℤ a.upper) (λ a y p. p.upper) arcs x h in
    omega (arith, ints, flow_on-le (enters u) (λ a. a.lower) arcs x lower, flow_on-ge (leaves u) (λ a. a.upper) arcs x upper)

inflow_most : (arcs : List InstArc) (x : List ℤ) (u : ℕ) → AllZip IsWithinBounds arcs x → net_inflow arcs x u ≤ℤ most_inflow arcs u
inflow_most arcs x u h =
    let lower = zipped-weaker IsWithinBounds (λ a y. a.lower ≤ℤ y) (λ a y p. p.lower) arcs x h in
    let upper = zipped-weaker IsWithinBounds (λ a y. y ≤ℤ a.upper) (λ a y p. p.upper) arcs x h in
    omega (arith, ints, flow_on-ge (enters u) (λ a. a.upper) arcs x upper, flow_on-le (leaves u) (λ a. a.lower) arcs x lower)

between_sides : (instance : Instance) (x : List ℤ) → IsFeasibleAssignment instance x → EachNode (IsBetween instance.arcs.items (net_inflow instance.arcs.items x)) 0 instance.nodes.items
between_sides instance x feasible =
    let arcs = instance.arcs.items in
    each-from_get_zero (IsBetween arcs (net_inflow arcs x)) instance.nodes.items
    (λ u r e. let inside = feasible.ranges u r e in
    within_sides r.low r.high (least_inflow arcs u) (most_inflow arcs u) (net_inflow arcs x u) r.given inside.low inside.high (inflow_least arcs x u feasible.bounds) (inflow_most arcs x u feasible.bounds))

onto : (p : Profile) (instance : Instance) (problem : Problem) (link : Link) → IsFormIn p instance problem link → (x : List ℤ) → IsFeasibleAssignment instance x → (flows : List ℤ) × IsFeasibleFlow problem flows × (mapped_back link flows ≡ x)
onto p instance problem link form x feasible =
    let arcs = instance.arcs.items in
    let ranges = instance.nodes.items in
    let outside = vec_len instance.nodes in
    let offsets = offsets_of p arcs in
    let made = map (flow_arc_of p instance.sense outside) arcs in
    let written = written_arcs p instance.sense outside arcs in
    let rooms = slack_arcs_from arcs outside 0 ranges in
    let inner = supplies_from p arcs 0 ranges in
    let f = net_inflow arcs x in
    let zs = lessened x offsets in
    let xs = kept p arcs zs in
    let ys = surplus_from arcs f 0 ranges in
    let flows = xs ++ ys in
    let count : length arcs ≡ length x = zipped-length IsWithinBounds arcs x feasible.bounds in
    let even : length x ≡ length offsets = sym count ∙ sym (length-offsets p arcs) in
    let within : AllZip IsWithinCapacity made zs = lessened-within p instance.sense outside arcs x feasible.bounds in
    let held : AllZip IsWithinCapacity written xs = kept-within p instance.sense outside arcs zs within in
    let each : length written ≡ length xs = zipped-length IsWithinCapacity written xs held in
    let all : spread p arcs xs ≡ zs = spread-kept p instance.sense outside arcs zs within in
    let back : added (spread p arcs xs) offsets ≡ x = ap (λ (ws : List ℤ). added ws offsets) all ∙ added-lessened x offsets even in
    let serves = surplus_serves arcs outside f 0 ranges (between_sides instance x feasible) in
    let capacity : AllZip IsWithinCapacity (written ++ rooms) flows = zipped_whole IsWithinCapacity written rooms xs ys held serves.0 in
    let inside : EachNode (λ u r. net_outflow (written ++ rooms) flows u ≡ supply_of p arcs u r) 0 ranges = each-from_get_zero (λ u r. net_outflow (written ++ rooms) flows u ≡ supply_of p arcs u r) ranges
    (λ u r e.
    let apart : outside ≢ u = λ same. omega (arith, slice_get-inside ranges u r e, instance.nodes.ok.0, same) in
    let carried : CarriesOff arcs f rooms ys u r = each-get_from_zero (CarriesOff arcs f rooms ys) ranges serves.1 u r e in
    let moved : f u ≡ net_inflow arcs (added (spread p arcs xs) offsets) u = ap (λ (ws : List ℤ). net_inflow arcs ws u) (sym back) in
    omega (arith, ints, carried, moved, node_outflow p instance.sense outside arcs ranges xs ys u apart each, inflow-added p arcs (spread p arcs xs) u (sym (length-spread p arcs xs)))) in
    let size : vec_len problem.supplies ≡ suc (length ranges) = problem.supplies.ok.0 ∙ ap length form.supplies ∙ omega (arith, length-append inner (neg_ℤ (sum_of inner) ∷ []), length-supplies_from p arcs 0 ranges) in
    let fits : All (IsFlowArcOf (suc (length ranges))) (written ++ rooms) = subst (λ (them : List FlowArc). All (IsFlowArcOf (suc (length ranges))) them) form.arcs (subst (λ (n : ℕ). All (IsFlowArcOf n) problem.arcs.items) size problem.arcs_fit) in
    let sources = recursion_from_All (λ (a : FlowArc). a.src < suc (length ranges)) (written ++ rooms) (All-weaker (IsFlowArcOf (suc (length ranges))) (λ a. a.src < suc (length ranges)) (λ a h. h.src) (written ++ rooms) fits) in
    let targets = recursion_from_All (λ (a : FlowArc). a.dst < suc (length ranges)) (written ++ rooms) (All-weaker (IsFlowArcOf (suc (length ranges))) (λ a. a.dst < suc (length ranges)) (λ a h. h.dst) (written ++ rooms) fits) in
    let last : net_outflow (written ++ rooms) flows (0 + length ranges) ≡ neg_ℤ (sum_of inner)
    = omega (arith, ints, outflows-sum (suc (length ranges)) (written ++ rooms) flows sources targets, sum_over_last (net_outflow (written ++ rooms) flows) 0 (length ranges), sum-supplies p arcs (net_outflow (written ++ rooms) flows) 0 ranges inside) in
    let balance : (u : ℕ) (s : ℤ) → slice_get (inner ++ neg_ℤ (sum_of inner) ∷ []) u ≡ Some s → net_outflow (written ++ rooms) flows u ≡ s
    = λ u s e. let at : 0 + u ≡ u = omega arith in subst (λ (w : ℕ). net_outflow (written ++ rooms) flows w ≡ s) at (supply_at p arcs (λ w t. net_outflow (written ++ rooms) flows w ≡ t) 0 ranges (neg_ℤ (sum_of inner)) inside last u s e) in (
      flows,
      record {
        capacity = subst (λ (them : List FlowArc). AllZip IsWithinCapacity them flows) (sym form.arcs) capacity;
        balance = λ u s e. ap (λ (them : List FlowArc). net_outflow them flows u) form.arcs ∙ balance u s (ap (λ (ss : List ℤ). slice_get ss u) (sym form.supplies) ∙ e);
      },
      ap (λ (ns : List ℕ). mapped_back_by ns link.offsets.items flows) form.numbers ∙ ap (λ (os : List ℤ). mapped_back_by (numbers_from p 1 arcs) os flows) form.offsets ∙ mapped_back_is p instance.sense outside arcs 0 flows xs ys refl each ∙ back,
    )

-- the theorem
pub form-corresponds : (p : Profile) (instance : Instance) (problem : Problem) (link : Link) → IsFormIn p instance problem link → CorrespondsOneToOne instance problem link
form-corresponds p instance problem link form = record {
  forward = λ flows feasible. forward p instance problem link flows (reading p instance problem link form flows feasible);
  onto = onto p instance problem link form;
  injective = λ flows others feasible feasible_too. injective p instance problem link flows others (reading p instance problem link form flows feasible) (reading p instance problem link form others feasible_too);
  value = λ flows feasible. value p instance problem link form flows (reading p instance problem link form flows feasible);
}
