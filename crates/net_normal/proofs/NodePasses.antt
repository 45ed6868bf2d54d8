-- The pass over the nodes of a network: what is made so far, with what the nodes to come will make, is what all nodes make.
use Rattle.std.proofs.Common.{◌≡◌, ℕ, suc, ◌+◌, ◌<◌, ◌≤◌, Bool, true, false, cond, List, [], ◌∷◌, ◌++◌, length, drop, get_or, ℤ, pos, ◌+ℤ◌, ◌-ℤ◌, ◌≤ℤ◌, neg_ℤ, vec_len, sym, ◌∙◌, ap, subst, arith, append_assoc, length-append}
use Rattle.std.proofs.lemmas.Int.{ints}
use Rattle.std.proofs.Math.Seq.{drop-cons}
use Rattle.std.proofs.Math.ListN.{drop_of_length-le}
use Rattle.std.proofs.lemmas.List.{append-nil}
use Rattle.net_normal.specs.Limits.{IsSized, node_limit, arc_limit, flow_limit}
use Rattle.net_normal.specs.Sums.{sum_of}
use Rattle.net_normal.specs.NormalForm.{is_open, high_of, supply_of, supplies_from, supplies_of, slack_arc, slack_arcs_from, low_side, high_side, shift_of}
use Rattle.net_normal.specs.NodeSums.{AreSumsAt, own_supply, own_slack}
use Rattle.net_normal.specs.declared.instance.Instance.{Instance}
use Rattle.net_normal.specs.declared.instance.InstArc.{InstArc}
use Rattle.net_normal.specs.declared.instance.NodeRange.{NodeRange}
use Rattle.net_normal.specs.declared.node_sums.NodeSums.{NodeSums}
use Rattle.net_normal.specs.declared.node_part.NodePart.{NodePart}
use Rattle.net_normal.specs.declared.problem.FlowArc.{FlowArc}
use Rattle.net_normal.specs.declared.profile.Profile.{Profile}
use Rattle.net_normal.proofs.ArcPasses.{snoc_step}
use Rattle.net_normal.proofs.NodeRuns.{sum_over, sum_over_last}
use Rattle.net_normal.proofs.Sizes.{supply_bound, supply_bounds-sum, supply_within}

-- how far the pass has come after i nodes
pub record HasServed (p : Profile) (instance : Instance) (before : List FlowArc) (i : ℕ) (part : NodePart) : Type 0 where
  pub supplies : part.supplies.items ++ supplies_from p instance.arcs.items i (drop i instance.nodes.items) ≡ supplies_from p instance.arcs.items 0 instance.nodes.items
  pub count : vec_len part.supplies ≡ i
  pub arcs : part.arcs.items ++ slack_arcs_from instance.arcs.items (vec_len instance.nodes) i (drop i instance.nodes.items) ≡ before ++ slack_arcs_from instance.arcs.items (vec_len instance.nodes) 0 instance.nodes.items
  pub balance : part.balance ≡ neg_ℤ (sum_of part.supplies.items)
  pub above : neg_ℤ (sum_over (supply_bound instance.arcs.items) 0 i) ≤ℤ part.balance
  pub below : part.balance ≤ℤ sum_over (supply_bound instance.arcs.items) 0 i

-- what `add` says of the next node
pub record Serves (outside : ℕ) (range : NodeRange) (sums : NodeSums) (old new : NodePart) : Type 0 where
  pub supplies : new.supplies.items ≡ old.supplies.items ++ own_supply range sums ∷ []
  pub arcs : new.arcs.items ≡ old.arcs.items ++ cond (is_open range.low range.high) (own_slack (vec_len old.supplies) outside range sums ∷ []) []
  pub balance : new.balance ≡ old.balance -ℤ own_supply range sums

-- what is made by a node's own sums is what the rules lay down
own_supply-is : (p : Profile) (arcs : List InstArc) (v : ℕ) (range : NodeRange) (sums : NodeSums) → AreSumsAt p arcs v sums → own_supply range sums ≡ supply_of p arcs v range
own_supply-is p arcs v range sums is =
    ap (λ (z : ℤ). z -ℤ low_side range.low range.high sums.least) is.shift ∙ ap (λ (z : ℤ). shift_of p arcs v -ℤ low_side range.low range.high z) is.least

own_slack-is : (p : Profile) (arcs : List InstArc) (outside v : ℕ) (range : NodeRange) (sums : NodeSums) → AreSumsAt p arcs v sums → own_slack v outside range sums ≡ slack_arc arcs outside v range
own_slack-is p arcs outside v range sums is =
    ap (λ (z : ℤ). let new : FlowArc = record { src = v; dst = outside; low = pos 0; cap = high_side range.low range.high z -ℤ low_side range.low range.high sums.least; cost = pos 0 } in new) is.most
    ∙ ap (λ (z : ℤ). let new : FlowArc = record { src = v; dst = outside; low = pos 0; cap = high_of arcs v range -ℤ low_side range.low range.high z; cost = pos 0 } in new) is.least

sum-append : (xs : List ℤ) (x : ℤ) → sum_of (xs ++ x ∷ []) ≡ sum_of xs +ℤ x
sum-append [] x = omega (arith, ints)
sum-append (y ∷ xs) x = omega (arith, ints, sum-append xs x)

-- arcs that are made only where a range is open
room_step : (b : Bool) (old new : List FlowArc) (a : FlowArc) (rest whole : List FlowArc) → new ≡ old ++ cond b (a ∷ []) [] → old ++ cond b (a ∷ rest) rest ≡ whole → new ++ rest ≡ whole
room_step true old new a rest whole e h = ap (λ (zs : List FlowArc). zs ++ rest) e ∙ append_assoc old (a ∷ []) rest ∙ h
room_step false old new a rest whole e h = ap (λ (zs : List FlowArc). zs ++ rest) e ∙ append_assoc old [] rest ∙ h

has_served_more : (p : Profile) (instance : Instance) (before : List FlowArc) (i : ℕ) (range d : NodeRange) (sums : NodeSums) (old new : NodePart) → i < length instance.nodes.items → range ≡ get_or instance.nodes.items i d →
    AreSumsAt p instance.arcs.items i sums → HasServed p instance before i old → Serves (vec_len instance.nodes) range sums old new → HasServed p instance before (suc i) new
has_served_more p instance before i range d sums old new inside read is h serves =
    let arcs = instance.arcs.items in
    let nodes = instance.nodes.items in
    let outside = vec_len instance.nodes in
    let rest = drop (suc i) nodes in
    let split : drop i nodes ≡ range ∷ rest = drop-cons nodes i d inside ∙ ap (λ (x : NodeRange). x ∷ rest) (sym read) in
    let supply : own_supply range sums ≡ supply_of p arcs i range = own_supply-is p arcs i range sums is in
    let within = supply_within p outside arcs i range instance.arcs_fit in
    let sums_more : sum_over (supply_bound arcs) 0 (suc i) ≡ sum_over (supply_bound arcs) 0 i +ℤ supply_bound arcs (0 + i) = sum_over_last (supply_bound arcs) 0 i in
    let at : 0 + i ≡ i = omega arith in
    let here : supply_bound arcs (0 + i) ≡ supply_bound arcs i = ap (supply_bound arcs) at in
    let room : own_slack (vec_len old.supplies) outside range sums ≡ slack_arc arcs outside i range = ap (λ (v : ℕ). own_slack v outside range sums) h.count ∙ own_slack-is p arcs outside i range sums is in
    record {
      supplies = snoc_step old.supplies.items new.supplies.items (supply_of p arcs i range) (supplies_from p arcs i (drop i nodes)) (supplies_from p arcs (suc i) rest) (supplies_from p arcs 0 nodes)
          (serves.supplies ∙ ap (λ (z : ℤ). old.supplies.items ++ z ∷ []) supply) (ap (supplies_from p arcs i) split) h.supplies;
      count = new.supplies.ok.0 ∙ ap length serves.supplies ∙ omega (arith, length-append old.supplies.items (own_supply range sums ∷ []), old.supplies.ok.0, h.count);
      arcs = room_step (is_open range.low range.high) old.arcs.items new.arcs.items (slack_arc arcs outside i range) (slack_arcs_from arcs outside (suc i) rest) (before ++ slack_arcs_from arcs outside 0 nodes)
          (serves.arcs ∙ ap (λ (a : FlowArc). old.arcs.items ++ cond (is_open range.low range.high) (a ∷ []) []) room)
          (ap (λ (rs : List NodeRange). old.arcs.items ++ slack_arcs_from arcs outside i rs) (sym split) ∙ h.arcs);
      balance = serves.balance ∙ omega (arith, ints, h.balance, sum-append old.supplies.items (own_supply range sums), ap sum_of serves.supplies);
      above = omega (arith, ints, serves.balance, supply, h.above, within.1, sums_more, here);
      below = omega (arith, ints, serves.balance, supply, h.below, within.0, sums_more, here);
    }

pub has_served_next : (p : Profile) (instance : Instance) (before : List FlowArc) (items : List NodeRange) (i outside : ℕ) (range : NodeRange) (sums : NodeSums) (old new : NodePart) → items ≡ instance.nodes.items → outside ≡ vec_len instance.nodes → i < length items → range ≡ get_or items i range →
    AreSumsAt p instance.arcs.items i sums → HasServed p instance before i old → Serves outside range sums old new → HasServed p instance before (i + 1) new
has_served_next p instance before items i outside range sums old new same last inside read is h serves =
    let inside' : i < length instance.nodes.items = omega (arith, inside, ap length same) in
    let next : suc i ≡ i + 1 = omega arith in
    subst (λ (n : ℕ). HasServed p instance before n new) next
    (has_served_more p instance before i range range sums old new inside' (read ∙ ap (λ (rs : List NodeRange). get_or rs i range) same) is h
    (subst (λ (n : ℕ). Serves n range sums old new) last serves))

-- the supplies so far stay within the limit
pub balance_sized : (p : Profile) (instance : Instance) (before : List FlowArc) (i : ℕ) (part : NodePart) → i ≤ length instance.nodes.items → HasServed p instance before i part → IsSized flow_limit part.balance
balance_sized p instance before i part upto h =
    let few : length instance.arcs.items ≤ arc_limit = omega (arith, instance.few_arcs, instance.arcs.ok.0) in
    let short : i ≤ node_limit = omega (arith, upto, instance.few_nodes, instance.nodes.ok.0) in
    let bound = supply_bounds-sum instance.arcs.items i few short in
    record { above = omega (arith, ints, h.above, bound); below = omega (arith, ints, h.below, bound) }

-- the outside node's supply comes last
pub all_supplies : (p : Profile) (instance : Instance) (before : List FlowArc) (i : ℕ) (part : NodePart) (all : List ℤ) → length instance.nodes.items ≤ i → HasServed p instance before i part → all ≡ part.supplies.items ++ part.balance ∷ [] → all ≡ supplies_of p instance
all_supplies p instance before i part all past h e =
    let inner = supplies_from p instance.arcs.items 0 instance.nodes.items in
    let none : drop i instance.nodes.items ≡ [] = drop_of_length-le instance.nodes.items past in
    let whole : part.supplies.items ≡ inner = sym (append-nil part.supplies.items) ∙ ap (λ (rs : List NodeRange). part.supplies.items ++ supplies_from p instance.arcs.items i rs) (sym none) ∙ h.supplies in
    e ∙ ap (λ (z : ℤ). part.supplies.items ++ z ∷ []) h.balance ∙ ap (λ (zs : List ℤ). zs ++ neg_ℤ (sum_of zs) ∷ []) whole

-- and all arcs for room
pub all_rooms_served : (p : Profile) (instance : Instance) (before : List FlowArc) (i : ℕ) (part : NodePart) → length instance.nodes.items ≤ i → HasServed p instance before i part → part.arcs.items ≡ before ++ slack_arcs_from instance.arcs.items (vec_len instance.nodes) 0 instance.nodes.items
all_rooms_served p instance before i part past h =
    let none : drop i instance.nodes.items ≡ [] = drop_of_length-le instance.nodes.items past in
    sym (append-nil part.arcs.items) ∙ ap (λ (rs : List NodeRange). part.arcs.items ++ slack_arcs_from instance.arcs.items (vec_len instance.nodes) i rs) (sym none) ∙ h.arcs
