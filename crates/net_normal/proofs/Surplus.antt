-- Flows on the arcs that stand for room: given net inflows are served by the surplus over the low sides, and by nothing else.
use Rattle.std.proofs.Common.{◌≡◌, ℕ, suc, true, false, cond, List, [], ◌∷◌, ℤ, pos, ◌-ℤ◌, ◌≤ℤ◌, nat_eq, refl, ◌∙◌, ap, arith}
use Rattle.std.proofs.lemmas.Int.{ints}
use Rattle.std.specs.List.{AllZip}
use Rattle.net_normal.specs.Sums.{flow_on}
use Rattle.net_normal.specs.Flows.{IsWithinCapacity}
use Rattle.net_normal.specs.NormalForm.{is_open, low_of, high_of, least_inflow, most_inflow, slack_arc, slack_arcs_from}
use Rattle.net_normal.specs.declared.instance.InstArc.{InstArc}
use Rattle.net_normal.specs.declared.instance.NodeRange.{NodeRange}
use Rattle.net_normal.specs.declared.problem.FlowArc.{FlowArc}
use Rattle.net_normal.proofs.NodeRuns.{EachNode, each-weaker, standing_on, standing_off}
use Rattle.net_normal.proofs.RangeSides.{closed_sides}
use Rattle.net_normal.proofs.RoomArcs.{room_out-before, surplus_from}

-- the net inflow lies between the completed sides
abbrev pub IsBetween : List InstArc → (ℕ → ℤ) → ℕ → NodeRange → Type 0
IsBetween arcs f u r = (low_of arcs u r ≤ℤ f u) × (f u ≤ℤ high_of arcs u r)

-- these arcs carry off node u's surplus
abbrev pub CarriesOff : List InstArc → (ℕ → ℤ) → List FlowArc → List ℤ → ℕ → NodeRange → Type 0
CarriesOff arcs f rooms flows u r = flow_on (λ a. nat_eq a.src u) rooms flows ≡ f u -ℤ low_of arcs u r

-- both ways: which flows carry off the surplus, and what follows for the net inflows
abbrev pub IsDetermined : List InstArc → ℕ → (ℕ → ℤ) → ℕ → List NodeRange → List FlowArc → List ℤ → List ℤ → Type 0
IsDetermined arcs outside f v ranges rooms surplus flows =
    AllZip IsWithinCapacity rooms flows → EachNode (CarriesOff arcs f rooms flows) v ranges → (flows ≡ surplus) × EachNode (IsBetween arcs f) v ranges

determined_open : (arcs : List InstArc) (outside : ℕ) (f : ℕ → ℤ) (v : ℕ) (r : NodeRange) (ranges : List NodeRange) →
    ((ys : List ℤ) → IsDetermined arcs outside f (suc v) ranges (slack_arcs_from arcs outside (suc v) ranges) (surplus_from arcs f (suc v) ranges) ys) →
    (flows : List ℤ) → IsDetermined arcs outside f v (r ∷ ranges) (slack_arc arcs outside v r ∷ slack_arcs_from arcs outside (suc v) ranges) ((f v -ℤ low_of arcs v r) ∷ surplus_from arcs f (suc v) ranges) flows
determined_open arcs outside f v r ranges ih [] h k = absurd h
determined_open arcs outside f v r ranges ih (y ∷ ys) h k =
    let rest = slack_arcs_from arcs outside (suc v) ranges in
    let here : y ≡ f v -ℤ low_of arcs v r = omega (arith, ints, k.0, standing_on v v y refl, room_out-before arcs outside (suc v) ranges ys v (omega arith)) in
    let tail = ih ys h.1 (each-weaker (CarriesOff arcs f (slack_arc arcs outside v r ∷ rest) (y ∷ ys)) (CarriesOff arcs f rest ys) (suc v) ranges
    (λ u q l p. omega (arith, ints, p, standing_off v u y (λ e. omega arith))) k.1) in
    let from : pos 0 ≤ℤ y = h.0.low in
    let upto : y ≤ℤ (high_of arcs v r -ℤ low_of arcs v r) = h.0.cap in
    (ap (λ (z : ℤ). z ∷ ys) here ∙ ap (λ (zs : List ℤ). (f v -ℤ low_of arcs v r) ∷ zs) tail.0, ((omega (arith, ints, here, from), omega (arith, ints, here, upto)), tail.1))

determined_closed : (arcs : List InstArc) (outside : ℕ) (f : ℕ → ℤ) (v : ℕ) (r : NodeRange) (ranges : List NodeRange) → is_open r.low r.high ≡ false →
    ((ys : List ℤ) → IsDetermined arcs outside f (suc v) ranges (slack_arcs_from arcs outside (suc v) ranges) (surplus_from arcs f (suc v) ranges) ys) →
    (flows : List ℤ) → IsDetermined arcs outside f v (r ∷ ranges) (slack_arcs_from arcs outside (suc v) ranges) (surplus_from arcs f (suc v) ranges) flows
determined_closed arcs outside f v r ranges closed ih flows h k =
    let tail = ih flows h k.1 in
    let one : low_of arcs v r ≡ high_of arcs v r = closed_sides r.low r.high (least_inflow arcs v) (most_inflow arcs v) r.ordered closed in
    let here : f v ≡ low_of arcs v r = omega (arith, ints, k.0, room_out-before arcs outside (suc v) ranges flows v (omega arith)) in
    (tail.0, ((omega (arith, ints, here), omega (arith, ints, here, one)), tail.1))

pub surplus_determined : (arcs : List InstArc) (outside : ℕ) (f : ℕ → ℤ) (v : ℕ) (ranges : List NodeRange) (flows : List ℤ) → IsDetermined arcs outside f v ranges (slack_arcs_from arcs outside v ranges) (surplus_from arcs f v ranges) flows
surplus_determined arcs outside f v [] [] h k = (refl, tt)
surplus_determined arcs outside f v [] (y ∷ ys) h k = absurd h
surplus_determined arcs outside f v (r ∷ ranges) flows h k =
    let rest = slack_arcs_from arcs outside (suc v) ranges in
    let left = surplus_from arcs f (suc v) ranges in
    let ih = λ (ys : List ℤ). surplus_determined arcs outside f (suc v) ranges ys in
    let both : is_open r.low r.high ≡ is_open r.low r.high → IsDetermined arcs outside f v (r ∷ ranges) (slack_arcs_from arcs outside v (r ∷ ranges)) (surplus_from arcs f v (r ∷ ranges)) flows =
    elim (is_open r.low r.high) as (λ b. is_open r.low r.high ≡ b → IsDetermined arcs outside f v (r ∷ ranges) (cond b (slack_arc arcs outside v r ∷ rest) rest) (cond b ((f v -ℤ low_of arcs v r) ∷ left) left) flows) [
      | true ↦ λ e. determined_open arcs outside f v r ranges ih flows
      | false ↦ λ e. determined_closed arcs outside f v r ranges e ih flows
    ] in
    both refl h k

-- the surplus fits the arcs, and they carry it off
abbrev pub Serves : List InstArc → (ℕ → ℤ) → ℕ → List NodeRange → List FlowArc → List ℤ → Type 0
Serves arcs f v ranges rooms flows = AllZip IsWithinCapacity rooms flows × EachNode (CarriesOff arcs f rooms flows) v ranges

serves_open : (arcs : List InstArc) (outside : ℕ) (f : ℕ → ℤ) (v : ℕ) (r : NodeRange) (ranges : List NodeRange) → IsBetween arcs f v r →
    Serves arcs f (suc v) ranges (slack_arcs_from arcs outside (suc v) ranges) (surplus_from arcs f (suc v) ranges) →
    Serves arcs f v (r ∷ ranges) (slack_arc arcs outside v r ∷ slack_arcs_from arcs outside (suc v) ranges) ((f v -ℤ low_of arcs v r) ∷ surplus_from arcs f (suc v) ranges)
serves_open arcs outside f v r ranges between tail =
    let rest = slack_arcs_from arcs outside (suc v) ranges in
    let left = surplus_from arcs f (suc v) ranges in
    let y : ℤ = f v -ℤ low_of arcs v r in (
      (record { low = omega (arith, ints, between.0); cap = omega (arith, ints, between.1) }, tail.0),
      (
        omega (arith, ints, standing_on v v y refl, room_out-before arcs outside (suc v) ranges left v (omega arith)),
        each-weaker (CarriesOff arcs f rest left) (CarriesOff arcs f (slack_arc arcs outside v r ∷ rest) (y ∷ left)) (suc v) ranges
            (λ u q l p. omega (arith, ints, p, standing_off v u y (λ e. omega arith))) tail.1,
      ),
    )

serves_closed : (arcs : List InstArc) (outside : ℕ) (f : ℕ → ℤ) (v : ℕ) (r : NodeRange) (ranges : List NodeRange) → is_open r.low r.high ≡ false → IsBetween arcs f v r →
    Serves arcs f (suc v) ranges (slack_arcs_from arcs outside (suc v) ranges) (surplus_from arcs f (suc v) ranges) →
    Serves arcs f v (r ∷ ranges) (slack_arcs_from arcs outside (suc v) ranges) (surplus_from arcs f (suc v) ranges)
serves_closed arcs outside f v r ranges closed between tail =
    let left = surplus_from arcs f (suc v) ranges in
    let one : low_of arcs v r ≡ high_of arcs v r = closed_sides r.low r.high (least_inflow arcs v) (most_inflow arcs v) r.ordered closed in
    (tail.0, (omega (arith, ints, one, between.0, between.1, room_out-before arcs outside (suc v) ranges left v (omega arith)), tail.1))

pub surplus_serves : (arcs : List InstArc) (outside : ℕ) (f : ℕ → ℤ) (v : ℕ) (ranges : List NodeRange) → EachNode (IsBetween arcs f) v ranges → Serves arcs f v ranges (slack_arcs_from arcs outside v ranges) (surplus_from arcs f v ranges)
surplus_serves arcs outside f v [] h = (tt, tt)
surplus_serves arcs outside f v (r ∷ ranges) h =
    let rest = slack_arcs_from arcs outside (suc v) ranges in
    let left = surplus_from arcs f (suc v) ranges in
    let tail = surplus_serves arcs outside f (suc v) ranges h.1 in
    let both : is_open r.low r.high ≡ is_open r.low r.high → Serves arcs f v (r ∷ ranges) (slack_arcs_from arcs outside v (r ∷ ranges)) (surplus_from arcs f v (r ∷ ranges)) =
    elim (is_open r.low r.high) as (λ b. is_open r.low r.high ≡ b → Serves arcs f v (r ∷ ranges) (cond b (slack_arc arcs outside v r ∷ rest) rest) (cond b ((f v -ℤ low_of arcs v r) ∷ left) left)) [
      | true ↦ λ e. serves_open arcs outside f v r ranges h.0 tail
      | false ↦ λ e. serves_closed arcs outside f v r ranges e h.0 tail
    ] in
    both refl
