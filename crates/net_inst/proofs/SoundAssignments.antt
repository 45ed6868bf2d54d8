-- An assignment is feasible in the model exactly when the network's linear forms say so.
use Rattle.std.specs.Prelude.{◌≡◌, ◌↔◌, ◌+◌, ℕ, zero, suc, Bool, List, [], ◌∷◌, map, slice_get, take, Option, None, Some, if◌then◌else◌, Ok, ℤ, pos, ◌+ℤ◌, ◌≤ℤ◌}
use Rattle.std.specs.List.{AllByRecursion, AllZip}
use Rattle.std.proofs.Common.{refl, ap, sym, ◌∙◌, subst, arith}
use Rattle.std.proofs.lemmas.Int.{ints}
use Rattle.net_sets.specs.Sets.{Tuple}
use Rattle.net_tree.specs.Conditions.{IsCondition}
use Rattle.net_tree.specs.Declarations.{AreDeclarations}
use Rattle.net_tree.specs.Erasure.{clause}
use Rattle.net_tree.specs.Syntax.{Clause, absent, present}
use Rattle.net_tree.specs.Tree.{Declaration, set, param, check, node, arc, objective}
use Rattle.net_normal.specs.Assignments.{net_inflow, IsWithinBounds, IsInRange, IsFeasibleAssignment, value_of}
use Rattle.net_normal.specs.declared.instance.InstArc.{InstArc}
use Rattle.net_normal.specs.declared.instance.NodeRange.{NodeRange}
use Rattle.net_expr.specs.declared.row.Row.{Row}
use Rattle.net_expr.specs.SetValues.{HasSets}
use Rattle.net_expr.specs.Worlds.{Name, World}
use Rattle.net_linear.specs.declared.condition.Sides.{Sides}
use Rattle.net_linear.specs.Conditions.{Holds, sides_in, uncrossed}
use Rattle.net_linear.proofs.ConditionsSound.{conditions_are_sound, sides_have_numbers}
use Rattle.net_meaning.specs.Network as meaning
use Rattle.net_meaning.specs.Network.{is_at, with_inflow, HasSides, IsSatisfied, IsExpressionValue}
use Rattle.net_meaning.specs.OfTrees.{env_of}
use Rattle.net_meaning.specs.Operators as values
use Rattle.net_meaning.specs.Values.{Env}
use Rattle.net_meaning.proofs.Unique.{values_are_unique, number_same}
use Rattle.net_inst.specs.AsWritten as written
use Rattle.net_inst.specs.AsWritten.{is_named, from_end, to_end, number_on, IsWithin, IsMet, in_order, nodes_of, rows_of, node_at_row}
use Rattle.net_expr.specs.Indexings.{indexing_in}
use Rattle.net_inst.specs.Laws.{IsBoundedAs, IsRangeOf}
use Rattle.net_inst.specs.Nodes.{sides_of}
use Rattle.net_inst.specs.Instances.{seen_as}
use Rattle.net_inst.specs.Readings.{Objective, part_value, prices}
use Rattle.net_inst.specs.Readings.{value_of as objective_value}
use Rattle.net_inst.specs.Soundness.{IsSameNode, IsSameArc, HasBounds, IsRangeAt, AssignmentsAreSound}
use Rattle.net_inst.proofs.Agreement.{IsFinished, network_is}
use Rattle.net_inst.proofs.Aiming.{have_objective, objective_has, objective_valued}
use Rattle.net_inst.proofs.Built.{HasRange}
use Rattle.net_inst.proofs.Feasible.{amount_of, in_range_to, in_range_from, inflow_is, label_get, have_feasible}
use Rattle.net_inst.proofs.KeysOnce.{front_has, are_distinct_in_sets}
use Rattle.net_inst.proofs.Once.{all_join}
use Rattle.net_inst.proofs.SoundEnds.{as_label}
use Rattle.net_inst.proofs.SoundGrammar.{no_flows, condition_plain}
use Rattle.net_inst.proofs.SoundGoals.{some_is}
use Rattle.net_inst.proofs.SoundNames.{nodes_once, arcs_once, objectives_once}
use Rattle.net_inst.proofs.SoundNetworks.{IsFound, network_found}
use Rattle.net_inst.proofs.SoundPrices.{terms_are, all_prices}
use Rattle.net_inst.proofs.Written.{all_written, have_bounds, have_ends, have_exact_ranges}
use Rattle.net_inst.proofs.Zips.{ok_then}

-- ---- flows

pub flow_same : (v : written.WrittenArc) (a : meaning.Arc) (x : meaning.Assignment) → IsSameArc v a → meaning.flow_on x a ≡ number_on x v
flow_same v a x same = ap (λ (m : Name). x m a.label.key) same.name ∙ ap (x v.label.name) same.key

pub flows_same : (xs : List written.WrittenArc) (all : List meaning.Arc) (x : meaning.Assignment) → AllZip IsSameArc xs all → map (meaning.flow_on x) all ≡ map (number_on x) xs
flows_same [] [] x h = refl
flows_same [] (a ∷ all) x h = absurd h
flows_same (v ∷ xs) [] x h = absurd h
flows_same (v ∷ xs) (a ∷ all) x h =
    let one = flow_same v a x h.0 in
    let rest = flows_same xs all x h.1 in
    λ t. one t ∷ rest t

at_label : (r : Option (Name × Tuple)) (l : written.WrittenLabel) → is_at r (as_label l) ≡ is_named l r
at_label None l = refl
at_label (Some r) l = refl

-- the part of an arc in the net inflow, at one of its ends
at_end : (v : written.WrittenArc) (a : meaning.Arc) (x : meaning.Assignment) (l : written.WrittenLabel) (r q : Option (Name × Tuple)) → IsSameArc v a → r ≡ q → (if is_at r (as_label l) then meaning.flow_on x a else pos 0) ≡ (if is_named l q then number_on x v else pos 0)
at_end v a x l r q same e =
    ap (λ (o : Option (Name × Tuple)). if is_at o (as_label l) then meaning.flow_on x a else pos 0) e
    ∙ ap (λ (b : Bool). if b then meaning.flow_on x a else pos 0) (at_label q l)
    ∙ ap (λ (n : ℤ). if is_named l q then n else pos 0) (flow_same v a x same)

inflow_same : (xs : List written.WrittenArc) (all : List meaning.Arc) (x : meaning.Assignment) (l : written.WrittenLabel) → AllZip IsSameArc xs all → meaning.net_inflow all x (as_label l) ≡ written.net_inflow xs x l
inflow_same [] [] x l h = omega (arith, ints)
inflow_same [] (a ∷ all) x l h = absurd h
inflow_same (v ∷ xs) [] x l h = absurd h
inflow_same (v ∷ xs) (a ∷ all) x l h = omega (arith, ints, at_end v a x l a.to (to_end v) h.0 h.0.to, at_end v a x l a.from (from_end v) h.0 h.0.from, inflow_same xs all x l h.1)

-- ---- bounds

abbrev Bounded : meaning.Assignment → meaning.Arc → Type 0
Bounded x a = (a.lower ≤ℤ meaning.flow_on x a) × (meaning.flow_on x a ≤ℤ a.upper)

bounds_to : (xs : List written.WrittenArc) (all : List meaning.Arc) (is : List InstArc) (x : meaning.Assignment) → AllZip IsSameArc xs all → AllZip HasBounds all is → AllZip IsBoundedAs xs is → AllByRecursion (Bounded x) all → AllByRecursion (IsWithin x) xs
bounds_to [] all is x same has ok h = tt
bounds_to (v ∷ xs) [] is x same has ok h = absurd same
bounds_to (v ∷ xs) (a ∷ all) [] x same has ok h = absurd has
bounds_to (v ∷ xs) (a ∷ all) (i ∷ is) x same has ok h =
    let low = amount_of v.env v.scope v.parts.lower i.lower ok.0.lower ∙ has.0.lower in
    let high = amount_of v.env v.scope v.parts.upper i.upper ok.0.upper ∙ has.0.upper in
    let flow = flow_same v a x same.0 in (
      record { lower = search (arith, ints, low, flow, h.0.0); upper = search (arith, ints, high, flow, h.0.1) },
      bounds_to xs all is x same.1 has.1 ok.1 h.1,
    )

bounds_from : (xs : List written.WrittenArc) (all : List meaning.Arc) (is : List InstArc) (x : meaning.Assignment) → AllZip IsSameArc xs all → AllZip HasBounds all is → AllZip IsBoundedAs xs is → AllByRecursion (IsWithin x) xs → AllByRecursion (Bounded x) all
bounds_from [] [] is x same has ok h = tt
bounds_from [] (a ∷ all) is x same has ok h = absurd same
bounds_from (v ∷ xs) [] is x same has ok h = absurd same
bounds_from (v ∷ xs) (a ∷ all) [] x same has ok h = absurd has
bounds_from (v ∷ xs) (a ∷ all) (i ∷ is) x same has ok h =
    let low = amount_of v.env v.scope v.parts.lower i.lower ok.0.lower ∙ has.0.lower in
    let high = amount_of v.env v.scope v.parts.upper i.upper ok.0.upper ∙ has.0.upper in
    let flow = flow_same v a x same.0 in
    let lower = h.0.lower in
    let upper = h.0.upper in ((search (arith, ints, low, flow, lower), search (arith, ints, high, flow, upper)), bounds_from xs all is x same.1 has.1 ok.1 h.1)

-- ---- conditions

-- a node has a condition of the grammar, and the declared sets before the node are sets
abbrev HasCondition : written.WrittenNode → Type 0
HasCondition v = IsCondition v.condition × HasSets v.env

conditions_of : (w : World) → HasSets w → (k : ℕ) (ds : List Declaration) → AreDeclarations ds → AllByRecursion HasCondition (in_order nodes_of w k ds)
conditions_of w sets k [] h = tt
conditions_of w sets k (set t n ps e ∷ ds) h = conditions_of w sets (k + 1) ds h.1
conditions_of w sets k (param t n b ps e ∷ ds) h = conditions_of w sets (k + 1) ds h.1
conditions_of w sets k (check t b m x e ∷ ds) h = conditions_of w sets k ds h.1
conditions_of w sets k (arc t n b ps e ∷ ds) h = conditions_of w sets k ds h.1
conditions_of w sets k (objective t n p e ∷ ds) h = conditions_of w sets k ds h.1
conditions_of w sets k (node t n b c e ∷ ds) h =
    all_join HasCondition (map (node_at_row (take k w) n b c) (rows_of (indexing_in (take k w) b))) (in_order nodes_of w k ds) (each (rows_of (indexing_in (take k w) b))) (conditions_of w sets k ds h.1)
  where
    each : (rows : List Row) → AllByRecursion HasCondition (map (node_at_row (take k w) n b c) rows)
    each [] = tt
    each (row ∷ rows) = ((h.0.3, front_has k w sets), each rows)

-- a node's condition is true in the model exactly when its form holds
one_condition : (n : written.WrittenNode) (v : meaning.Node) (r : Sides) (y : ℤ) → IsSameNode n v → HasCondition n → HasRange n r → IsSatisfied v.env v.condition y ↔ Holds n.env n.scope n.condition y
one_condition n v r y same good range =
    ok_then (sides_in n.env n.scope n.condition) (λ s. Ok (uncrossed s)) (Some r) range.is (λ s i j.
    subst (λ e. IsSatisfied e v.condition y ↔ Holds n.env n.scope n.condition y) (sym same.env)
    (subst (λ c. IsSatisfied (env_of n.env n.scope) c y ↔ Holds n.env n.scope n.condition y) (sym same.condition)
    (conditions_are_sound no_flows n.env n.scope n.condition s y good.1 (condition_plain y n.condition good.0) i)))

-- the sides of a node's condition have numbers
one_has_sides : (n : written.WrittenNode) (v : meaning.Node) (r : Sides) (y : ℤ) → IsSameNode n v → HasCondition n → HasRange n r → HasSides (with_inflow v.env y) v.condition
one_has_sides n v r y same good range =
    ok_then (sides_in n.env n.scope n.condition) (λ s. Ok (uncrossed s)) (Some r) range.is (λ s i j.
    subst (λ e. HasSides (with_inflow e y) v.condition) (sym same.env)
    (subst (λ c. HasSides (with_inflow (env_of n.env n.scope) y) c) (sym same.condition) (sides_have_numbers no_flows n.env n.scope n.condition s y good.1 (condition_plain y n.condition good.0) i)))

all_have_sides : (y : ℤ) (ns : List written.WrittenNode) (vs : List meaning.Node) (rs : List Sides) → AllZip IsSameNode ns vs → AllByRecursion HasCondition ns → AllZip HasRange ns rs → AllByRecursion (λ (v : meaning.Node). HasSides (with_inflow v.env y) v.condition) vs
all_have_sides y [] [] rs same good ranges = tt
all_have_sides y [] (v ∷ vs) rs same good ranges = absurd same
all_have_sides y (n ∷ ns) [] rs same good ranges = absurd same
all_have_sides y (n ∷ ns) (v ∷ vs) [] same good ranges = absurd ranges
all_have_sides y (n ∷ ns) (v ∷ vs) (r ∷ rs) same good ranges = (one_has_sides n v r y same.0 good.0 ranges.0, all_have_sides y ns vs rs same.1 good.1 ranges.1)

-- what a node's label is as written
label_is : (n : written.WrittenNode) (v : meaning.Node) → IsSameNode n v → v.label ≡ as_label n.label
label_is n v same =
    let name = same.name in
    let indexed = same.indexed in
    let key = same.key in
    λ t. record { name = name t; indexed = indexed t; key = key t }

module _ (xs : List written.WrittenArc) (all : List meaning.Arc) (x : meaning.Assignment) (arcs : AllZip IsSameArc xs all) where
  abbrev Satisfied : meaning.Node → Type 0
  Satisfied v = IsSatisfied v.env v.condition (meaning.net_inflow all x v.label)

  node_alike : (n : written.WrittenNode) (v : meaning.Node) (r : Sides) → IsSameNode n v → HasCondition n → HasRange n r → Satisfied v ↔ IsMet xs x n
  node_alike n v r same good range =
      subst (λ y. IsSatisfied v.env v.condition y ↔ IsMet xs x n) (sym (ap (meaning.net_inflow all x) (label_is n v same) ∙ inflow_same xs all x n.label arcs)) (one_condition n v r (written.net_inflow xs x n.label) same good range)

  conditions_to : (ns : List written.WrittenNode) (vs : List meaning.Node) (rs : List Sides) → AllZip IsSameNode ns vs → AllByRecursion HasCondition ns → AllZip HasRange ns rs → AllByRecursion Satisfied vs → AllByRecursion (IsMet xs x) ns
  conditions_to [] vs rs same good ranges h = tt
  conditions_to (n ∷ ns) [] rs same good ranges h = absurd same
  conditions_to (n ∷ ns) (v ∷ vs) [] same good ranges h = absurd ranges
  conditions_to (n ∷ ns) (v ∷ vs) (r ∷ rs) same good ranges h = ((node_alike n v r same.0 good.0 ranges.0).0 h.0, conditions_to ns vs rs same.1 good.1 ranges.1 h.1)

  conditions_from : (ns : List written.WrittenNode) (vs : List meaning.Node) (rs : List Sides) → AllZip IsSameNode ns vs → AllByRecursion HasCondition ns → AllZip HasRange ns rs → AllByRecursion (IsMet xs x) ns → AllByRecursion Satisfied vs
  conditions_from [] [] rs same good ranges h = tt
  conditions_from [] (v ∷ vs) rs same good ranges h = absurd same
  conditions_from (n ∷ ns) [] rs same good ranges h = absurd same
  conditions_from (n ∷ ns) (v ∷ vs) [] same good ranges h = absurd ranges
  conditions_from (n ∷ ns) (v ∷ vs) (r ∷ rs) same good ranges h = ((node_alike n v r same.0 good.0 ranges.0).1 h.0, conditions_from ns vs rs same.1 good.1 ranges.1 h.1)

-- ---- bounds and ranges by number

limits_to : (all : List meaning.Arc) (is : List InstArc) (x : meaning.Assignment) → AllZip HasBounds all is → AllByRecursion (Bounded x) all → AllZip IsWithinBounds is (map (meaning.flow_on x) all)
limits_to [] [] x has h = tt
limits_to [] (i ∷ is) x has h = absurd has
limits_to (a ∷ all) [] x has h = absurd has
limits_to (a ∷ all) (i ∷ is) x has h =
    let low = has.0.lower in
    let high = has.0.upper in (record { lower = search (arith, ints, low, h.0.0); upper = search (arith, ints, high, h.0.1) }, limits_to all is x has.1 h.1)

limits_from : (all : List meaning.Arc) (is : List InstArc) (x : meaning.Assignment) → AllZip HasBounds all is → AllZip IsWithinBounds is (map (meaning.flow_on x) all) → AllByRecursion (Bounded x) all
limits_from [] [] x has h = tt
limits_from [] (i ∷ is) x has h = absurd has
limits_from (a ∷ all) [] x has h = absurd has
limits_from (a ∷ all) (i ∷ is) x has h =
    let low = has.0.lower in
    let high = has.0.upper in
    let lower = h.0.lower in
    let upper = h.0.upper in ((search (arith, ints, low, lower), search (arith, ints, high, upper)), limits_from all is x has.1 h.1)

-- the node with number i, as written, with its range
record IsFoundAt (ns : List written.WrittenNode) (v : meaning.Node) (rs : List Sides) (ranges : List NodeRange) (i : ℕ) : Type 0 where
  node : written.WrittenNode
  at : slice_get ns i ≡ Some node
  same : IsSameNode node v
  good : HasCondition node
  sides : Sides
  has : HasRange node sides
  range : NodeRange
  range_at : slice_get ranges i ≡ Some range
  exact : IsRangeOf node (sides_of range)

found_at : (i : ℕ) (ns : List written.WrittenNode) (vs : List meaning.Node) (rs : List Sides) (ranges : List NodeRange) (v : meaning.Node) → AllZip IsSameNode ns vs → AllByRecursion HasCondition ns → AllZip HasRange ns rs → AllZip IsRangeOf ns (map sides_of ranges)
    → slice_get vs i ≡ Some v → IsFoundAt ns v rs ranges i
found_at i ns [] rs ranges v same good has exact e = absurd (let h = e in cc)
found_at i [] (u ∷ vs) rs ranges v same good has exact e = absurd same
found_at i (n ∷ ns) (u ∷ vs) [] ranges v same good has exact e = absurd has
found_at i (n ∷ ns) (u ∷ vs) (r ∷ rs) [] v same good has exact e = absurd exact
found_at zero (n ∷ ns) (u ∷ vs) (r ∷ rs) (q ∷ ranges) v same good has exact e =
    let is : u ≡ v = cc in
    record { node = n; at = refl; same = subst (IsSameNode n) is same.0; good = good.0; sides = r; has = has.0; range = q; range_at = refl; exact = exact.0 }
found_at (suc i) (n ∷ ns) (u ∷ vs) (r ∷ rs) (q ∷ ranges) v same good has exact e =
    let more = found_at i ns vs rs ranges v same.1 good.1 has.1 exact.1 e in
    record { node = more.node; at = more.at; same = more.same; good = more.good; sides = more.sides; has = more.has; range = more.range; range_at = more.range_at; exact = more.exact }

-- the condition is true of a net inflow exactly when this is in the range
condition_alike : (ns : List written.WrittenNode) (v : meaning.Node) (rs : List Sides) (ranges : List NodeRange) (i : ℕ) (f : IsFoundAt ns v rs ranges i) (y : ℤ) → IsSatisfied v.env v.condition y ↔ IsInRange f.range y
condition_alike ns v rs ranges i f y =
    let one = one_condition f.node v f.sides y f.same f.good f.has in (
      (λ h. in_range_from f.range y ((f.exact y).1 (one.0 h))),
      (λ h. one.1 ((f.exact y).0 (in_range_to f.range y h))),
    )

-- ---- feasible assignments

pub feasible_alike : (w : World) (ds : List Declaration) (network : meaning.Network) (rs : List Sides) (is : List InstArc) (x : meaning.Assignment) → HasSets w → AreDeclarations ds → AllZip IsSameNode (written.nodes w ds) network.nodes → AllZip IsSameArc (written.arcs w ds) network.arcs
    → AllZip HasRange (written.nodes w ds) rs → AllZip HasBounds network.arcs is → AllZip IsBoundedAs (written.arcs w ds) is → meaning.IsFeasible network x ↔ written.IsFeasible (written.nodes w ds) (written.arcs w ds) x
feasible_alike w ds network rs is x sets good nodes arcs ranges has ok = (
  (λ h. record { bounds = bounds_to (written.arcs w ds) network.arcs is x arcs has ok h.bounds; conditions = conditions_to (written.arcs w ds) network.arcs x arcs (written.nodes w ds) network.nodes rs nodes (conditions_of w sets 0 ds good) ranges h.conditions }),
  (λ h. record { bounds = bounds_from (written.arcs w ds) network.arcs is x arcs has ok h.bounds; conditions = conditions_from (written.arcs w ds) network.arcs x arcs (written.nodes w ds) network.nodes rs nodes (conditions_of w sets 0 ds good) ranges h.conditions }),
)

expression_unique : (e : Env) (p : Clause) (k m : ℤ) → IsExpressionValue e p k → IsExpressionValue e p m → k ≡ m
expression_unique e absent k m h j = h ∙ sym j
expression_unique e (present x) k m h j = number_same k m (values_are_unique e x (values.number k) (values.number m) h j)

pub assignments_are_sound : AssignmentsAreSound
assignments_are_sound requested w ds n sets names good e = record {
  has = found.has;
  evaluated = record {
    conditions = λ y. all_have_sides y (written.nodes w ds) found.has.network.nodes f.drawing.nodes.ranges found.has.same_nodes (conditions_of w sets 0 ds good) all_ranges;
    objective = λ x. (value_of n.instance (map (meaning.flow_on x) found.has.network.arcs), (value x _).1 refl);
    alike = λ x y m same h. (value y m).1 ((value x m).0 h ∙ ap (value_of n.instance) same);
  };
  bounds = λ x. (limits_to found.has.network.arcs n.instance.arcs.items x found.has.bounds, limits_from found.has.network.arcs n.instance.arcs.items x found.has.bounds);
  ranges = ranges;
  feasible = feasible;
  value = value;
}
  where
    found : IsFound requested w ds (seen_as n)
    found = network_found requested w ds (seen_as n) sets names e

    f : IsFinished requested w ds (seen_as n)
    f = network_is requested w ds (seen_as n) e

    apart : written.AreDistinct (written.nodes w ds) (written.arcs w ds)
    apart = are_distinct_in_sets w ds sets (nodes_once ds names.once) (arcs_once ds names.once)

    flows : (x : meaning.Assignment) → map (meaning.flow_on x) found.has.network.arcs ≡ map (number_on x) (written.arcs w ds)
    flows x = flows_same (written.arcs w ds) found.has.network.arcs x found.has.same_arcs

    all_ranges : AllZip HasRange (written.nodes w ds) f.drawing.nodes.ranges
    all_ranges = (all_written requested w ds f.drawing f.is_built).nodes.ranges

    ranges : (i : ℕ) (v : meaning.Node) → slice_get found.has.network.nodes i ≡ Some v → IsRangeAt n.instance found.has.network.arcs i v
    ranges i v at = (one.range, one.range_at, condition_alike (written.nodes w ds) v f.drawing.nodes.ranges n.instance.nodes.items i one, inflow)
      where
        one : IsFoundAt (written.nodes w ds) v f.drawing.nodes.ranges n.instance.nodes.items i
        one = found_at i (written.nodes w ds) found.has.network.nodes f.drawing.nodes.ranges n.instance.nodes.items v found.has.same_nodes (conditions_of w sets 0 ds good) all_ranges (have_exact_ranges requested w ds (seen_as n) e) at

        inflow : (x : meaning.Assignment) → meaning.net_inflow found.has.network.arcs x v.label ≡ net_inflow n.instance.arcs.items (map (meaning.flow_on x) found.has.network.arcs) i
        inflow x =
            ap (meaning.net_inflow found.has.network.arcs x) (label_is one.node v one.same)
            ∙ inflow_same (written.arcs w ds) found.has.network.arcs x one.node.label found.has.same_arcs
            ∙ inflow_is (map (λ u. u.label) (written.nodes w ds)) i one.node.label apart.nodes (label_get (written.nodes w ds) i one.node one.at) (written.arcs w ds) n.instance.arcs.items x (have_ends requested w ds (seen_as n) e apart)
            ∙ ap (λ (ys : List ℤ). net_inflow n.instance.arcs.items ys i) (sym (flows x))

    feasible : (x : meaning.Assignment) → meaning.IsFeasible found.has.network x ↔ IsFeasibleAssignment n.instance (map (meaning.flow_on x) found.has.network.arcs)
    feasible x =
        let alike = feasible_alike w ds found.has.network f.drawing.nodes.ranges n.instance.arcs.items x sets good found.has.same_nodes found.has.same_arcs all_ranges found.has.bounds (have_bounds requested w ds (seen_as n) e) in
        let by_number = have_feasible requested w ds n e apart x in (
          (λ h. subst (IsFeasibleAssignment n.instance) (sym (flows x)) (by_number.0 (alike.0 h))),
          (λ h. alike.1 (by_number.1 (subst (IsFeasibleAssignment n.instance) (flows x) h))),
        )

    p : Objective
    p = found.objective

    phrase_expression : meaning.Assignment → ℤ
    phrase_expression x = part_value p.before p.env p.expression x

    terms : (x : meaning.Assignment) → meaning.coefficient_terms found.has.network.arcs x ≡ prices p.name p.behind x
    terms x =
        terms_are p.name (written.arcs w ds) found.has.network.arcs x found.prices found.has.same_arcs
        ∙ all_prices requested [] [] w 0 ds x p names.priced (objectives_once w ds names.once) (λ m l. absurd l) found.is_chosen

    total : (x : meaning.Assignment) → value_of n.instance (map (number_on x) (written.arcs w ds)) ≡ phrase_expression x +ℤ prices p.name p.behind x
    total x =
        let aims = have_objective requested w ds (seen_as n) e in
        let same : aims.0 ≡ p = some_is aims.0 p (sym aims.1 ∙ found.is_chosen) in
        aims.2.value apart.arcs x ∙ ap (λ (o : Objective). objective_value o x) same

    whole : (x : meaning.Assignment) → value_of n.instance (map (meaning.flow_on x) found.has.network.arcs) ≡ phrase_expression x +ℤ meaning.coefficient_terms found.has.network.arcs x
    whole x = ap (value_of n.instance) (flows x) ∙ total x ∙ ap (λ (m : ℤ). phrase_expression x +ℤ m) (sym (terms x))

    value : (x : meaning.Assignment) (m : ℤ) → meaning.HasValue found.has.network x m ↔ (m ≡ value_of n.instance (map (meaning.flow_on x) found.has.network.arcs))
    value x m =
        let valued = objective_valued requested w ds (seen_as n) e p found.is_chosen (objective_has requested w ds sets p found.is_chosen) apart.arcs x in
        subst (λ (o : meaning.Objective). meaning.HasValue (record { nodes = found.has.network.nodes; arcs = found.has.network.arcs; objective = o }) x m ↔ (m ≡ value_of n.instance (map (meaning.flow_on x) found.has.network.arcs))) (sym found.same) (
          (λ h. h.2 ∙ ap (λ (k : ℤ). k +ℤ meaning.coefficient_terms found.has.network.arcs x) (expression_unique _ (clause p.expression) h.0 (phrase_expression x) h.1 valued) ∙ sym (whole x)),
          (λ k. (phrase_expression x, valued, k ∙ whole x)),
        )
