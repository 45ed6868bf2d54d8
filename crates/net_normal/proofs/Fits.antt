-- A normal form is within the limits of a problem and of a link.
use Rattle.std.proofs.Common.{◌≡◌, ℕ, suc, ◌+◌, ◌<◌, ◌≤◌, true, false, cond, Option, Some, None, List, [], ◌∷◌, length, ℤ, pos, ◌-ℤ◌, ◌≤ℤ◌, neg_ℤ, unwrap_or, vec_len, All, refl, ◌∙◌, ap, arith, length-append}
use Rattle.std.proofs.lemmas.Int.{ints, clamps}
use Rattle.std.specs.Option.{ForSome}
use Rattle.std.specs.List.{AllByRecursion}
use Rattle.std.proofs.lemmas.List.Elements.{recursion_from_All, All-from_recursion, All-append, All-cons, All-nil}
use Rattle.net_normal.specs.Limits.{IsSized, IsArcOf, IsFlowArcOf, value_limit, flow_limit, cost_limit, arc_limit, node_limit, flow_arc_limit}
use Rattle.net_normal.specs.Numbers.{CountUp}
use Rattle.net_normal.specs.Sums.{sum_of}
use Rattle.net_normal.specs.Links.{signed}
use Rattle.net_normal.specs.NormalForm.{offset_of, offsets_of, is_left_out, numbers_from, flow_arc_of, written_arcs, is_open, least_inflow, most_inflow, supplies_from, supplies_of, slack_arc, slack_arcs_from, flow_arcs_of}
use Rattle.net_normal.specs.declared.instance.Instance.{Instance}
use Rattle.net_normal.specs.declared.instance.InstArc.{InstArc}
use Rattle.net_normal.specs.declared.instance.NodeRange.{NodeRange}
use Rattle.net_normal.specs.declared.instance.Sense.{Sense}
use Rattle.net_normal.specs.declared.instance.Sense.TheVariants.{Minimise, Maximise}
use Rattle.net_normal.specs.declared.profile.Profile.{Profile}
use Rattle.net_normal.specs.declared.profile.Profile.TheVariants.{Plain, Lean}
use Rattle.net_normal.proofs.NodeRuns.{sum_over}
use Rattle.net_normal.proofs.Supplies.{length-supplies_from}
use Rattle.net_normal.proofs.Written.{length_written, numbers-count_up}
use Rattle.net_normal.proofs.RangeSides.{sides-ordered}
use Rattle.net_normal.proofs.Sizes.{reach-small, supply_bound, supply_bounds-sum, supply_within, low_within, high_within, least_upto_most, offset_sized}

-- each arc of the network
end_among : (nodes : ℕ) (end : Option ℕ) → ForSome end (λ v. v < nodes) → unwrap_or end nodes < suc nodes
end_among nodes None h = omega arith
end_among nodes (Some v) h = let below : v < nodes = h v refl in omega arith

signed_sized : (sense : Sense) (n : ℕ) (x : ℤ) → IsSized n x → IsSized n (signed sense x)
signed_sized Minimise n x h = h
signed_sized Maximise n x h = record { above = omega (arith, ints, h.below); below = omega (arith, ints, h.above) }

made_low : (p : Profile) (a : InstArc) → pos 0 ≤ℤ (a.lower -ℤ offset_of p a)
made_low Plain a = omega (arith, ints, clamps)
made_low Lean a = omega (arith, ints)

made_fits : (p : Profile) (sense : Sense) (nodes : ℕ) (a : InstArc) → IsArcOf nodes a → IsFlowArcOf (suc nodes) (flow_arc_of p sense nodes a)
made_fits p sense nodes a h =
    let offset = offset_sized p a h.lower in
    record {
      src = end_among nodes a.tail h.tail;
      dst = end_among nodes a.head h.head;
      low = made_low p a;
      room = omega (arith, ints, h.ordered);
      cap = omega (arith, ints, h.upper.below, offset.above);
      cost = signed_sized sense cost_limit a.coefficient h.coefficient;
    }

all_written : (p : Profile) (sense : Sense) (nodes : ℕ) (arcs : List InstArc) → AllByRecursion (IsArcOf nodes) arcs → AllByRecursion (IsFlowArcOf (suc nodes)) (written_arcs p sense nodes arcs)
all_written p sense nodes [] h = h
all_written p sense nodes (a ∷ arcs) h =
    let rest = written_arcs p sense nodes arcs in
    elim (is_left_out p a) as (λ b. AllByRecursion (IsFlowArcOf (suc nodes)) (cond b rest (flow_arc_of p sense nodes a ∷ rest))) [
      | true ↦ all_written p sense nodes arcs h.1
      | false ↦ (made_fits p sense nodes a h.0, all_written p sense nodes arcs h.1)
    ]

-- each arc for room
room_fits : (nodes : ℕ) (arcs : List InstArc) (v : ℕ) (r : NodeRange) → All (IsArcOf nodes) arcs → length arcs ≤ arc_limit → v < nodes → IsFlowArcOf (suc nodes) (slack_arc arcs nodes v r)
room_fits nodes arcs v r fit few inside =
    let low = low_within nodes arcs v r fit in
    let high = high_within nodes arcs v r fit in
    let small = reach-small value_limit arcs v in
    let ordered = sides-ordered r.low r.high (least_inflow arcs v) (most_inflow arcs v) r.ordered (least_upto_most nodes arcs v fit) in
    record {
      src = omega arith;
      dst = omega arith;
      low = omega (arith, ints);
      room = omega (arith, ints, ordered);
      cap = omega (arith, ints, low.0, high.1, small.1);
      cost = record { above = omega (arith, ints); below = omega (arith, ints) };
    }

all_rooms : (nodes : ℕ) (arcs : List InstArc) (v : ℕ) (ranges : List NodeRange) → All (IsArcOf nodes) arcs → length arcs ≤ arc_limit → v + length ranges ≤ nodes → AllByRecursion (IsFlowArcOf (suc nodes)) (slack_arcs_from arcs nodes v ranges)
all_rooms nodes arcs v [] fit few upto = tt
all_rooms nodes arcs v (r ∷ ranges) fit few upto =
    let rest = all_rooms nodes arcs (suc v) ranges fit few (omega arith) in
    elim (is_open r.low r.high) as (λ b. AllByRecursion (IsFlowArcOf (suc nodes)) (cond b (slack_arc arcs nodes v r ∷ slack_arcs_from arcs nodes (suc v) ranges) (slack_arcs_from arcs nodes (suc v) ranges))) [
      | true ↦ (room_fits nodes arcs v r fit few (omega arith), rest)
      | false ↦ rest
    ]

length_rooms : (nodes : ℕ) (arcs : List InstArc) (v : ℕ) (ranges : List NodeRange) → length (slack_arcs_from arcs nodes v ranges) ≤ length ranges
length_rooms nodes arcs v [] = omega arith
length_rooms nodes arcs v (r ∷ ranges) =
    let rest = length_rooms nodes arcs (suc v) ranges in
    elim (is_open r.low r.high) as (λ b. length (cond b (slack_arc arcs nodes v r ∷ slack_arcs_from arcs nodes (suc v) ranges) (slack_arcs_from arcs nodes (suc v) ranges)) ≤ suc (length ranges)) [
      | true ↦ omega (arith, rest)
      | false ↦ omega (arith, rest)
    ]

pub arcs_fit : (p : Profile) (instance : Instance) → All (IsFlowArcOf (suc (vec_len instance.nodes))) (flow_arcs_of p instance)
arcs_fit p instance =
    let nodes = vec_len instance.nodes in
    let arcs = instance.arcs.items in
    let few : length arcs ≤ arc_limit = omega (arith, instance.few_arcs, instance.arcs.ok.0) in
    let made = all_written p instance.sense nodes arcs (recursion_from_All (IsArcOf nodes) arcs instance.arcs_fit) in
    let rooms = all_rooms nodes arcs 0 instance.nodes.items instance.arcs_fit few (omega (arith, instance.nodes.ok.0)) in
    All-append (IsFlowArcOf (suc nodes)) (written_arcs p instance.sense nodes arcs) (slack_arcs_from arcs nodes 0 instance.nodes.items)
    (All-from_recursion (IsFlowArcOf (suc nodes)) (written_arcs p instance.sense nodes arcs) made)
    (All-from_recursion (IsFlowArcOf (suc nodes)) (slack_arcs_from arcs nodes 0 instance.nodes.items) rooms)

pub few_arcs : (p : Profile) (instance : Instance) → length (flow_arcs_of p instance) ≤ flow_arc_limit
few_arcs p instance =
    let nodes = vec_len instance.nodes in
    let arcs = instance.arcs.items in
    omega (
      arith,
      length-append (written_arcs p instance.sense nodes arcs) (slack_arcs_from arcs nodes 0 instance.nodes.items),
      length_written p instance.sense nodes arcs,
      length_rooms nodes arcs 0 instance.nodes.items,
      instance.few_arcs,
      instance.few_nodes,
      instance.arcs.ok.0,
      instance.nodes.ok.0,
    )

-- each supply
all_inner : (p : Profile) (nodes : ℕ) (arcs : List InstArc) (v : ℕ) (ranges : List NodeRange) → All (IsArcOf nodes) arcs → length arcs ≤ arc_limit → AllByRecursion (IsSized flow_limit) (supplies_from p arcs v ranges)
all_inner p nodes arcs v [] fit few = tt
all_inner p nodes arcs v (r ∷ ranges) fit few =
    let within = supply_within p nodes arcs v r fit in
    let small = reach-small value_limit arcs v in
    (record { above = omega (arith, ints, within.0, small.1); below = omega (arith, ints, within.1, small.1) }, all_inner p nodes arcs (suc v) ranges fit few)

sum_within : (p : Profile) (nodes : ℕ) (arcs : List InstArc) (v : ℕ) (ranges : List NodeRange) → All (IsArcOf nodes) arcs →
    (neg_ℤ (sum_over (supply_bound arcs) v (length ranges)) ≤ℤ sum_of (supplies_from p arcs v ranges)) × (sum_of (supplies_from p arcs v ranges) ≤ℤ sum_over (supply_bound arcs) v (length ranges))
sum_within p nodes arcs v [] fit = (omega (arith, ints), omega (arith, ints))
sum_within p nodes arcs v (r ∷ ranges) fit =
    let within = supply_within p nodes arcs v r fit in
    let rest = sum_within p nodes arcs (suc v) ranges fit in
    (omega (arith, ints, within.0, rest.0), omega (arith, ints, within.1, rest.1))

pub supplies_fit : (p : Profile) (instance : Instance) → All (IsSized flow_limit) (supplies_of p instance)
supplies_fit p instance =
    let nodes = vec_len instance.nodes in
    let arcs = instance.arcs.items in
    let inner = supplies_from p arcs 0 instance.nodes.items in
    let few : length arcs ≤ arc_limit = omega (arith, instance.few_arcs, instance.arcs.ok.0) in
    let short : length instance.nodes.items ≤ node_limit = omega (arith, instance.few_nodes, instance.nodes.ok.0) in
    let sum = sum_within p nodes arcs 0 instance.nodes.items instance.arcs_fit in
    let bound = supply_bounds-sum arcs (length instance.nodes.items) few short in
    let last : IsSized flow_limit (neg_ℤ (sum_of inner)) = record { above = omega (arith, ints, sum.1, bound); below = omega (arith, ints, sum.0, bound) } in
    All-append (IsSized flow_limit) inner (neg_ℤ (sum_of inner) ∷ [])
    (All-from_recursion (IsSized flow_limit) inner (all_inner p nodes arcs 0 instance.nodes.items instance.arcs_fit few))
    (All-cons (IsSized flow_limit) (neg_ℤ (sum_of inner)) [] last (All-nil (IsSized flow_limit)))

-- a link's entries
pub numbered : (p : Profile) (arcs : List InstArc) → CountUp (numbers_from p 1 arcs)
numbered p arcs = numbers-count_up p arcs

offsets_sized : (p : Profile) (nodes : ℕ) (arcs : List InstArc) → AllByRecursion (IsArcOf nodes) arcs → AllByRecursion (IsSized value_limit) (offsets_of p arcs)
offsets_sized p nodes [] h = tt
offsets_sized p nodes (a ∷ arcs) h = (offset_sized p a h.0.lower, offsets_sized p nodes arcs h.1)

pub offsets_fit : (p : Profile) (instance : Instance) → All (IsSized value_limit) (offsets_of p instance.arcs.items)
offsets_fit p instance =
    All-from_recursion (IsSized value_limit) (offsets_of p instance.arcs.items)
    (offsets_sized p (vec_len instance.nodes) instance.arcs.items (recursion_from_All (IsArcOf (vec_len instance.nodes)) instance.arcs.items instance.arcs_fit))

-- the numbers of nodes and of supplies
pub length-supplies : (p : Profile) (instance : Instance) → length (supplies_of p instance) ≡ suc (vec_len instance.nodes)
length-supplies p instance =
    let inner = supplies_from p instance.arcs.items 0 instance.nodes.items in
    omega (arith, length-append inner (neg_ℤ (sum_of inner) ∷ []), length-supplies_from p instance.arcs.items 0 instance.nodes.items, instance.nodes.ok.0)

-- a problem that holds a normal form's lists keeps the limits
pub length_of : {A : Type 0} (xs ys : List A) (n m : ℕ) → n ≡ length xs → xs ≡ ys → length ys ≡ m → n ≡ m
length_of xs ys n m h e k = h ∙ ap length e ∙ k
