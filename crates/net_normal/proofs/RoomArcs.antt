-- The arcs that stand for the room in the nodes' ranges: which flows on them serve given net inflows.
use Rattle.std.proofs.Common.{◌≡◌, ◌≢◌, ℕ, suc, ◌<◌, Bool, true, false, cond, List, [], ◌∷◌, ℤ, pos, ◌-ℤ◌, nat_eq, refl, ◌∙◌, arith}
use Rattle.std.proofs.lemmas.Bool.{ne_eqb}
use Rattle.std.proofs.lemmas.Int.{ints}
use lib.IntN.{zero-*ℤ}
use Rattle.net_normal.specs.Sums.{flow_on, price_of}
use Rattle.net_normal.specs.NormalForm.{is_open, low_of, slack_arc, slack_arcs_from}
use Rattle.net_normal.specs.declared.instance.InstArc.{InstArc}
use Rattle.net_normal.specs.declared.instance.NodeRange.{NodeRange}
use Rattle.net_normal.specs.declared.problem.FlowArc.{FlowArc}
use Rattle.net_normal.proofs.ArcSums.{flow_on-skip, rest_of}

-- what leaves node u by these arcs
abbrev pub room_out : List InstArc → ℕ → ℕ → List NodeRange → List ℤ → ℕ → ℤ
room_out arcs outside v ranges flows u = flow_on (λ a. nat_eq a.src u) (slack_arcs_from arcs outside v ranges) flows

-- what each open node receives above its low side, where f is the net inflow
abbrev pub surplus_from : List InstArc → (ℕ → ℤ) → ℕ → List NodeRange → List ℤ
surplus_from arcs f v [] = []
surplus_from arcs f v (r ∷ ranges) = cond (is_open r.low r.high) ((f v -ℤ low_of arcs v r) ∷ surplus_from arcs f (suc v) ranges) (surplus_from arcs f (suc v) ranges)

-- nothing leaves a node that comes before these
pub room_out-before : (arcs : List InstArc) (outside v : ℕ) (ranges : List NodeRange) (flows : List ℤ) (u : ℕ) → u < v → room_out arcs outside v ranges flows u ≡ pos 0
room_out-before arcs outside v [] flows u h = refl
room_out-before arcs outside v (r ∷ ranges) flows u h =
    let test : FlowArc → Bool = λ a. nat_eq a.src u in
    let rest = slack_arcs_from arcs outside (suc v) ranges in
    let other : nat_eq v u ≡ false = ne_eqb v u (λ e. omega arith) in
    elim (is_open r.low r.high) as (λ b. flow_on test (cond b (slack_arc arcs outside v r ∷ rest) rest) flows ≡ pos 0) [
      | true ↦ flow_on-skip test (slack_arc arcs outside v r) rest flows other ∙ room_out-before arcs outside (suc v) ranges (rest_of flows) u (omega arith)
      | false ↦ room_out-before arcs outside (suc v) ranges flows u (omega arith)
    ]

-- nothing comes to a node of the network
pub room_in-none : (arcs : List InstArc) (outside v : ℕ) (ranges : List NodeRange) (flows : List ℤ) (u : ℕ) → outside ≢ u → flow_on (λ a. nat_eq a.dst u) (slack_arcs_from arcs outside v ranges) flows ≡ pos 0
room_in-none arcs outside v [] flows u h = refl
room_in-none arcs outside v (r ∷ ranges) flows u h =
    let test : FlowArc → Bool = λ a. nat_eq a.dst u in
    let rest = slack_arcs_from arcs outside (suc v) ranges in
    elim (is_open r.low r.high) as (λ b. flow_on test (cond b (slack_arc arcs outside v r ∷ rest) rest) flows ≡ pos 0) [
      | true ↦ flow_on-skip test (slack_arc arcs outside v r) rest flows (ne_eqb outside u h) ∙ room_in-none arcs outside (suc v) ranges (rest_of flows) u h
      | false ↦ room_in-none arcs outside (suc v) ranges flows u h
    ]

-- their flow costs nothing
pub room_price-zero : (arcs : List InstArc) (outside v : ℕ) (ranges : List NodeRange) (flows : List ℤ) → price_of (λ a. a.cost) (slack_arcs_from arcs outside v ranges) flows ≡ pos 0
room_price-zero arcs outside v [] flows = refl
room_price-zero arcs outside v (r ∷ ranges) [] =
    let rest = slack_arcs_from arcs outside (suc v) ranges in
    elim (is_open r.low r.high) as (λ b. price_of (λ a. a.cost) (cond b (slack_arc arcs outside v r ∷ rest) rest) [] ≡ pos 0) [
      | true ↦ refl
      | false ↦ room_price-zero arcs outside (suc v) ranges []
    ]
room_price-zero arcs outside v (r ∷ ranges) (y ∷ flows) =
    let rest = slack_arcs_from arcs outside (suc v) ranges in
    elim (is_open r.low r.high) as (λ b. price_of (λ a. a.cost) (cond b (slack_arc arcs outside v r ∷ rest) rest) (y ∷ flows) ≡ pos 0) [
      | true ↦ omega (arith, ints, zero-*ℤ y, room_price-zero arcs outside (suc v) ranges flows)
      | false ↦ room_price-zero arcs outside (suc v) ranges (y ∷ flows)
    ]
