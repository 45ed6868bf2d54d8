-- The normal form and the lean form of a network: which problem and which link belong to an
-- instance. Nodes keep their numbers. The outside node follows them: it is the end of arcs with a
-- missing end, and absorbs the slack in the nodes' ranges.
use Rattle.std.specs.Prelude.{◌≡◌, ℕ, suc, Bool, true, false, List, [], ◌∷◌, ◌++◌, map, Option, Some, None, ℤ, pos, ◌+ℤ◌, ◌-ℤ◌, neg_ℤ, int_lt, vec_len, unwrap_or, if◌then◌else◌}
use Rattle.std.specs.Int.{int_min, int_max}
use Rattle.std.specs.Ordering.{int_eq}
use Rattle.net_normal.specs.Sums.{flow_on, price_of, sum_of}
use Rattle.net_normal.specs.Assignments.{enters, leaves, net_inflow}
use Rattle.net_normal.specs.Links.{signed}
use Rattle.net_normal.specs.declared.instance.Sense.{Sense}
use Rattle.net_normal.specs.declared.instance.InstArc.{InstArc}
use Rattle.net_normal.specs.declared.instance.NodeRange.{NodeRange}
use Rattle.net_normal.specs.declared.instance.Instance.{Instance}
use Rattle.net_normal.specs.declared.problem.FlowArc.{FlowArc}
use Rattle.net_normal.specs.declared.problem.Problem.{Problem}
use Rattle.net_normal.specs.declared.problem.Link.{Link}
use Rattle.net_normal.specs.declared.profile.Profile.{Profile}
use Rattle.net_normal.specs.declared.profile.Profile.TheVariants.{Plain, Lean}

-- the normal form shifts negative lower bounds to 0, the lean form all lower bounds
abbrev pub offset_of : Profile → InstArc → ℤ
offset_of Plain arc = int_min arc.lower (pos 0)
offset_of Lean arc = arc.lower

abbrev pub offsets_of : Profile → List InstArc → List ℤ
offsets_of p arcs = map (offset_of p) arcs

-- the lean form omits arcs whose bounds are equal
abbrev pub is_left_out : Profile → InstArc → Bool
is_left_out Plain arc = false
is_left_out Lean arc = int_eq arc.lower arc.upper

-- the arcs' numbers in the problem, counted from n; 0 for an omitted arc
abbrev pub numbers_from : Profile → ℕ → List InstArc → List ℕ
numbers_from p n [] = []
numbers_from p n (arc ∷ arcs) = if is_left_out p arc then 0 ∷ numbers_from p n arcs else n ∷ numbers_from p (suc n) arcs

abbrev pub flow_arc_of : Profile → Sense → ℕ → InstArc → FlowArc
flow_arc_of p sense outside arc =
    record {
      src = unwrap_or arc.tail outside;
      dst = unwrap_or arc.head outside;
      low = arc.lower -ℤ offset_of p arc;
      cap = arc.upper -ℤ offset_of p arc;
      cost = signed sense arc.coefficient;
    }

-- one arc for each arc that is not omitted
abbrev pub written_arcs : Profile → Sense → ℕ → List InstArc → List FlowArc
written_arcs p sense outside [] = []
written_arcs p sense outside (arc ∷ arcs) =
    if is_left_out p arc then written_arcs p sense outside arcs
    else flow_arc_of p sense outside arc ∷ written_arcs p sense outside arcs

-- the greatest net inflow of node v that the arcs' bounds allow
abbrev pub most_inflow : List InstArc → ℕ → ℤ
most_inflow arcs v = flow_on (enters v) arcs (map (λ arc. arc.upper) arcs) -ℤ flow_on (leaves v) arcs (map (λ arc. arc.lower) arcs)

-- the least net inflow of node v that the arcs' bounds allow
abbrev pub least_inflow : List InstArc → ℕ → ℤ
least_inflow arcs v = flow_on (enters v) arcs (map (λ arc. arc.lower) arcs) -ℤ flow_on (leaves v) arcs (map (λ arc. arc.upper) arcs)

-- the net inflow of node v that the offsets contribute
abbrev pub shift_of : Profile → List InstArc → ℕ → ℤ
shift_of p arcs v = net_inflow arcs (offsets_of p arcs) v

-- a missing low side is the minimum of the high side and the least net inflow
abbrev pub low_side : Option ℤ → Option ℤ → ℤ → ℤ
low_side (Some low) high least = low
low_side None (Some high) least = int_min high least
low_side None None least = least

-- a missing high side is the maximum of the low side and the greatest net inflow
abbrev pub high_side : Option ℤ → Option ℤ → ℤ → ℤ
high_side low (Some high) most = high
high_side (Some low) None most = int_max low most
high_side None None most = most

abbrev pub low_of : List InstArc → ℕ → NodeRange → ℤ
low_of arcs v range = low_side range.low range.high (least_inflow arcs v)

abbrev pub high_of : List InstArc → ℕ → NodeRange → ℤ
high_of arcs v range = high_side range.low range.high (most_inflow arcs v)

-- whether the declared range allows more than one net inflow
abbrev pub is_open : Option ℤ → Option ℤ → Bool
is_open (Some low) (Some high) = int_lt low high
is_open (Some low) None = true
is_open None high = true

abbrev pub supply_of : Profile → List InstArc → ℕ → NodeRange → ℤ
supply_of p arcs v range = shift_of p arcs v -ℤ low_of arcs v range

-- the supplies of the nodes from number v on
abbrev pub supplies_from : Profile → List InstArc → ℕ → List NodeRange → List ℤ
supplies_from p arcs v [] = []
supplies_from p arcs v (range ∷ ranges) = supply_of p arcs v range ∷ supplies_from p arcs (suc v) ranges

-- the slack arc of a node: it carries the node's inflow above its low side to the outside node
abbrev pub slack_arc : List InstArc → ℕ → ℕ → NodeRange → FlowArc
slack_arc arcs outside v range = record { src = v; dst = outside; low = pos 0; cap = high_of arcs v range -ℤ low_of arcs v range; cost = pos 0 }

abbrev pub slack_arcs_from : List InstArc → ℕ → ℕ → List NodeRange → List FlowArc
slack_arcs_from arcs outside v [] = []
slack_arcs_from arcs outside v (range ∷ ranges) =
    if is_open range.low range.high then slack_arc arcs outside v range ∷ slack_arcs_from arcs outside (suc v) ranges
    else slack_arcs_from arcs outside (suc v) ranges

-- the supply of the outside node makes the supplies sum to 0
abbrev pub supplies_of : Profile → Instance → List ℤ
supplies_of p instance = let inner = supplies_from p instance.arcs.items 0 instance.nodes.items in inner ++ neg_ℤ (sum_of inner) ∷ []

-- the arcs of the network in order, then one slack arc for each node with an open range, in node
-- order
abbrev pub flow_arcs_of : Profile → Instance → List FlowArc
flow_arcs_of p instance =
    let outside = vec_len instance.nodes in
    written_arcs p instance.sense outside instance.arcs.items ++ slack_arcs_from instance.arcs.items outside 0 instance.nodes.items

-- the objective's constant plus the cost of the offsets
abbrev pub constant_of : Profile → Instance → ℤ
constant_of p instance = instance.constant +ℤ price_of (λ arc. arc.coefficient) instance.arcs.items (offsets_of p instance.arcs.items)

pub record IsFormIn (p : Profile) (instance : Instance) (problem : Problem) (link : Link) : Type 0 where
  pub supplies : problem.supplies.items ≡ supplies_of p instance
  pub arcs : problem.arcs.items ≡ flow_arcs_of p instance
  pub numbers : link.numbers.items ≡ numbers_from p 1 instance.arcs.items
  pub offsets : link.offsets.items ≡ offsets_of p instance.arcs.items
  pub constant : link.constant ≡ constant_of p instance
  pub sense : link.sense ≡ instance.sense

abbrev pub IsNormalForm : Instance → Problem → Link → Type 0
IsNormalForm = IsFormIn Plain

abbrev pub IsLeanForm : Instance → Problem → Link → Type 0
IsLeanForm = IsFormIn Lean
