-- The normal form and the lean form of a network represent the network of the model.
use Rattle.std.specs.Prelude.{◌≡◌, ◌+◌, ℕ, zero, suc, Bool, true, false, List, [], ◌∷◌, ◌++◌, length, map, slice_get, Option, None, Some, unwrap_or, if◌then◌else◌, IsTrue, ℤ, neg_ℤ, ◌+ℤ◌}
use Rattle.std.specs.List.{AllByRecursion, AllZip, IsDistinct}
use Rattle.std.proofs.Common.{refl, ap, sym, ◌∙◌, subst, arith, append_assoc}
use Rattle.std.proofs.lemmas.Int.{ints}
use Rattle.std.proofs.lemmas.List.{length-append, length-map}
use Rattle.std.proofs.lemmas.Bool.Decides.{Decides-int_eq}
use Rattle.net_sets.specs.Sets.{Tuple}
use Rattle.net_normal.specs.Assignments.{net_inflow, IsInRange, IsFeasibleAssignment, value_of}
use Rattle.net_normal.specs.declared.instance.InstArc.{InstArc}
use Rattle.net_normal.specs.declared.instance.NodeRange.{NodeRange}
use Rattle.net_normal.specs.declared.instance.Sense.{Sense}
use Rattle.net_normal.specs.declared.problem.FlowArc.{FlowArc}
use Rattle.net_normal.specs.declared.profile.Profile.{Profile}
use Rattle.net_normal.specs.declared.profile.Profile.TheVariants.{Plain, Lean}
use Rattle.net_normal.specs.Flows.{cost_of}
use Rattle.net_normal.specs.Links.{mapped_back, mapped_back_by, value_at}
use Rattle.net_normal.specs.NormalForm.{offset_of, is_left_out, numbers_from, flow_arc_of, written_arcs, slack_arcs_from, supplies_from}
use Rattle.net_normal.specs.Sums.{sum_of}
use Rattle.net_normal.proofs.ArcMapsBack.{length-offsets}
use Rattle.net_normal.proofs.Written.{length-numbers}
use Rattle.net_expr.specs.Worlds.{Name}
use Rattle.net_meaning.specs.Network as meaning
use Rattle.net_meaning.specs.Network.{is_at, flow_on}
use Rattle.net_meaning.specs.Represents as represents
use Rattle.net_meaning.specs.Represents.{IsNodeNumber, AreEncoded, by_label, assignment_of}
use Rattle.net_inst.specs.AsWritten as written
use Rattle.net_inst.specs.Instances.{seen_as}
use Rattle.net_inst.specs.Laws.{IsPlaceOf, HasEndsOf, IsRangeOf}
use Rattle.net_inst.specs.Nodes.{sides_of}
use Rattle.net_inst.specs.Represented.{ProblemsRepresent}
use Rattle.net_inst.specs.Soundness.{IsSameNode, IsSameArc, HasBounds, HasAssignments}
use Rattle.net_inst.proofs.Built.{node_labels}
use Rattle.net_inst.proofs.KeysOnce.{are_distinct_in_sets}
use Rattle.net_inst.proofs.SoundAssignments.{assignments_are_sound}
use Rattle.net_inst.proofs.SoundBalances.{in_range, carried_by, cost_is_value}
use Rattle.net_inst.proofs.SoundEnds.{both_same}
use Rattle.net_inst.proofs.SoundNames.{nodes_once, arcs_once}
use Rattle.net_inst.proofs.Written.{have_ends, have_exact_ranges}
use Rattle.net_inst.proofs.Zips.{zip_long, get_last}

-- ---- nodes

record IsFoundAt (r : Name × Tuple) (vs : List meaning.Node) (i : ℕ) : Type 0 where
  node : meaning.Node
  at : slice_get vs i ≡ Some node
  named : IsTrue (is_at (Some r) node.label)

found_at : (r : Name × Tuple) (ns : List written.WrittenNode) (vs : List meaning.Node) (i : ℕ) (l : written.WrittenLabel) → AllZip IsSameNode ns vs → slice_get (node_labels ns) i ≡ Some l → l.name ≡ r.0 → l.key ≡ r.1 → IsFoundAt r vs i
found_at r [] vs i l h e n k = absurd (let q = e in cc)
found_at r (x ∷ ns) [] i l h e n k = absurd h
found_at r (x ∷ ns) (v ∷ vs) zero l h e n k =
    let same : x.label ≡ l = cc in
    let name : r.0 ≡ v.label.name = sym n ∙ ap (λ (m : written.WrittenLabel). m.name) (sym same) ∙ sym h.0.name in
    let key : r.1 ≡ v.label.key = sym k ∙ ap (λ (m : written.WrittenLabel). m.key) (sym same) ∙ sym h.0.key in
    record { node = v; at = refl; named = both_same r.0 v.label.name r.1 v.label.key name key }
found_at r (x ∷ ns) (v ∷ vs) (suc i) l h e n k =
    let more = found_at r ns vs i l h.1 e n k in
    record { node = more.node; at = more.at; named = more.named }

number_is : (ns : List written.WrittenNode) (vs : List meaning.Node) → AllZip IsSameNode ns vs → (r : Option (Name × Tuple)) (v : Option ℕ) → IsPlaceOf (node_labels ns) r v → IsNodeNumber vs r (unwrap_or v (length vs))
number_is ns vs same None None p = represents.outside
number_is ns vs same None (Some i) p = absurd p
number_is ns vs same (Some r) None p = absurd p
number_is ns vs same (Some r) (Some i) p =
    let one = found_at r ns vs i p.0 same p.1 p.2 p.3 in
    represents.named r i one.node one.at one.named

-- ---- arcs

-- the nodes of an arc have the numbers of the computed arc; a missing end is outside
record HasNodes (vs : List meaning.Node) (outside : ℕ) (a : meaning.Arc) (x : InstArc) : Type 0 where
  from : IsNodeNumber vs a.from (unwrap_or x.tail outside)
  to : IsNodeNumber vs a.to (unwrap_or x.head outside)

have_nodes : (ns : List written.WrittenNode) (vs : List meaning.Node) (xs : List written.WrittenArc) (all : List meaning.Arc) (is : List InstArc) → AllZip IsSameNode ns vs → AllZip IsSameArc xs all → AllZip (HasEndsOf (node_labels ns)) xs is → AllZip (HasNodes vs (length vs)) all is
have_nodes ns vs [] [] [] nodes same ends = tt
have_nodes ns vs [] [] (i ∷ is) nodes same ends = absurd ends
have_nodes ns vs [] (a ∷ all) is nodes same ends = absurd same
have_nodes ns vs (x ∷ xs) [] is nodes same ends = absurd same
have_nodes ns vs (x ∷ xs) (a ∷ all) [] nodes same ends = absurd ends
have_nodes ns vs (x ∷ xs) (a ∷ all) (i ∷ is) nodes same ends = (
  record {
    from = subst (λ r. IsNodeNumber vs r (unwrap_or i.tail (length vs))) (sym same.0.from) (number_is ns vs nodes (written.from_end x) i.tail ends.0.from);
    to = subst (λ r. IsNodeNumber vs r (unwrap_or i.head (length vs))) (sym same.0.to) (number_is ns vs nodes (written.to_end x) i.head ends.0.to);
  },
  have_nodes ns vs xs all is nodes same.1 ends.1,
)

-- the bounds of an arc that the lean form leaves out are its offset
left_out : (p : Profile) (x : InstArc) → is_left_out p x ≡ true → (x.lower ≡ offset_of p x) × (x.upper ≡ offset_of p x)
left_out Plain x e = cc
left_out Lean x e = (refl, sym ((Decides-int_eq x.lower x.upper).0 e))

module _ (p : Profile) (sense : Sense) (vs : List meaning.Node) (rooms : List FlowArc) where
  encoded : (xs : List InstArc) (all : List meaning.Arc) → AllZip HasBounds all xs → AllZip (HasNodes vs (length vs)) all xs
      → (done : List FlowArc) → AreEncoded vs (done ++ (written_arcs p sense (length vs) xs ++ rooms)) all (map (offset_of p) xs) (numbers_from p (suc (length done)) xs)
  encoded [] [] h k done = tt
  encoded [] (a ∷ all) h k done = absurd h
  encoded (x ∷ xs) [] h k done = absurd h
  encoded (x ∷ xs) (a ∷ all) h k done = go (is_left_out p x) refl (encoded xs all h.1 k.1)
    where
      own : FlowArc
      own = flow_arc_of p sense (length vs) x

      rest : List FlowArc
      rest = written_arcs p sense (length vs) xs

      go : (b : Bool) → is_left_out p x ≡ b
          → ((before : List FlowArc) → AreEncoded vs (before ++ (rest ++ rooms)) all (map (offset_of p) xs) (numbers_from p (suc (length before)) xs))
          → AreEncoded vs (done ++ ((if b then rest else own ∷ rest) ++ rooms)) (a ∷ all) (map (offset_of p) (x ∷ xs))
          (if b then 0 ∷ numbers_from p (suc (length done)) xs else suc (length done) ∷ numbers_from p (suc (suc (length done))) xs)
      go true e more = let bounds = left_out p x e in (represents.fixed (sym h.0.lower ∙ bounds.0) (sym h.0.upper ∙ bounds.1), more done)
      go false e more =
          let long : length (done ++ own ∷ []) ≡ suc (length done) = omega (arith, length-append done (own ∷ [])) in (
            represents.at (length done) own (get_last done (rest ++ rooms) own) k.0.from k.0.to (omega (arith, ints, h.0.lower)) (omega (arith, ints, h.0.upper)),
            subst (λ (arcs : List FlowArc). AreEncoded vs arcs all (map (offset_of p) xs) (numbers_from p (suc (suc (length done))) xs)) (append_assoc done (own ∷ []) (rest ++ rooms))
                (subst (λ (m : ℕ). AreEncoded vs ((done ++ own ∷ []) ++ (rest ++ rooms)) all (map (offset_of p) xs) (numbers_from p (suc m) xs)) long (more (done ++ own ∷ []))),
          )

-- ---- assignments

flows_stay : (a : meaning.Arc) (y : ℤ) (front : List meaning.Arc) (ys : List ℤ) (bs : List meaning.Arc) → AllByRecursion (λ m. meaning.same_label a.label m ≡ false) (map (λ (b : meaning.Arc). b.label) bs)
    → map (flow_on (by_label (a ∷ front) (y ∷ ys))) bs ≡ map (flow_on (by_label front ys)) bs
flows_stay a y front ys [] h = refl
flows_stay a y front ys (b ∷ bs) h =
    let one : flow_on (by_label (a ∷ front) (y ∷ ys)) b ≡ flow_on (by_label front ys) b = ap (λ (t : Bool). if t then y else by_label front ys b.label.name b.label.key) h.0 in
    let rest = flows_stay a y front ys bs h.1 in
    λ t. one t ∷ rest t

pub flows_are : (all : List meaning.Arc) (ys : List ℤ) → IsDistinct meaning.same_label (map (λ (a : meaning.Arc). a.label) all) → length ys ≡ length all → map (flow_on (by_label all ys)) all ≡ ys
unfolding IsDistinct
flows_are [] [] d l = refl
flows_are [] (y ∷ ys) d l = absurd (let e = l in omega arith)
flows_are (a ∷ all) [] d l = absurd (let e = l in omega arith)
flows_are (a ∷ all) (y ∷ ys) d l =
    let one : flow_on (by_label (a ∷ all) (y ∷ ys)) a ≡ y = ap (λ (t : Bool). if t then y else by_label all ys a.label.name a.label.key) (both_same a.label.name a.label.name a.label.key a.label.key refl refl) in
    let rest = flows_stay a y all ys all d.0 ∙ flows_are all ys d.1 (omega (arith, l)) in
    λ t. one t ∷ rest t

mapped_back_long : (ns : List ℕ) (offsets flows : List ℤ) → length ns ≡ length offsets → length (mapped_back_by ns offsets flows) ≡ length ns
mapped_back_long [] offsets flows e = refl
mapped_back_long (n ∷ ns) [] flows e = absurd (omega (arith, e))
mapped_back_long (n ∷ ns) (y ∷ offsets) flows e = ap suc (mapped_back_long ns offsets flows (omega (arith, e)))

supplies_long : (p : Profile) (arcs : List InstArc) (v : ℕ) (ranges : List NodeRange) → length (supplies_from p arcs v ranges) ≡ length ranges
supplies_long p arcs v [] = refl
supplies_long p arcs v (r ∷ ranges) = ap suc (supplies_long p arcs (suc v) ranges)

sum-append : (xs : List ℤ) (x : ℤ) → sum_of (xs ++ x ∷ []) ≡ sum_of xs +ℤ x
sum-append [] x = omega (arith, ints)
sum-append (y ∷ xs) x = omega (arith, ints, sum-append xs x)

-- ---- the law

pub problems_represent : ProblemsRepresent
problems_represent requested w ds n p problem link sets names good e form one = (
  a.has,
  a.evaluated,
  record {
    sense = form.sense ∙ sym a.has.same_sense;
    nodes = counted;
    total = ap sum_of form.supplies ∙ omega (arith, ints, sum-append (supplies_from p is 0 n.instance.nodes.items) (neg_ℤ (sum_of (supplies_from p is 0 n.instance.nodes.items))));
    arcs = arcs;
    forward = λ flows h. (a.feasible (assignment_of all link flows)).1 (subst (IsFeasibleAssignment n.instance) (sym (numbers flows)) (one.forward flows h));
    onto = λ x h.
        let found = one.onto (map (flow_on x) all) ((a.feasible x).0 h) in
        (found.0, found.1, numbers found.0 ∙ found.2);
    injective = λ flows others h k same. one.injective flows others h k (sym (numbers flows) ∙ same ∙ numbers others);
    value = λ flows long. (a.value (assignment_of all link flows) (value_at link (cost_of problem flows))).1 (sym (cost_is_value p n.instance problem link form flows long) ∙ ap (value_of n.instance) (sym (numbers flows)));
    satisfied = λ flows i v d carries at lacks.
        let range = a.ranges i v at in
        let same = range.3 (assignment_of all link flows) ∙ ap (λ (ys : List ℤ). net_inflow is ys i) (numbers flows) in
        (range.2 (meaning.net_inflow all (assignment_of all link flows) v.label +ℤ d)).1
        (subst (λ (y : ℤ). IsInRange range.0 (y +ℤ d)) (sym same) (in_range p n.instance problem link form flows i range.0 d carries range.1 lacks));
    balanced = λ x within.
        let found = carried_by p n.instance problem link form (map (flow_on x) all) ((a.bounds x).0 within) in (
          found.flows,
          found.capacity,
          numbers found.flows ∙ found.back,
          λ i v d at h. let range = a.ranges i v at in found.near i range.0 d range.1 (subst (λ (y : ℤ). IsInRange range.0 (y +ℤ d)) (range.3 x) ((range.2 (meaning.net_inflow all x v.label +ℤ d)).0 h)),
        );
  },
)
  where
    a : HasAssignments requested w ds n
    a = assignments_are_sound requested w ds n sets names good e

    vs : List meaning.Node
    vs = a.has.network.nodes

    all : List meaning.Arc
    all = a.has.network.arcs

    is : List InstArc
    is = n.instance.arcs.items

    apart : written.AreDistinct (written.nodes w ds) (written.arcs w ds)
    apart = are_distinct_in_sets w ds sets (nodes_once ds names.once) (arcs_once ds names.once)

    long : length n.instance.nodes.items ≡ length vs
    long =
        sym (length-map n.instance.nodes.items sides_of)
        ∙ zip_long IsRangeOf (written.nodes w ds) (map sides_of n.instance.nodes.items) (have_exact_ranges requested w ds (seen_as n) e)
        ∙ sym (zip_long IsSameNode (written.nodes w ds) vs a.has.same_nodes)

    counted : length problem.supplies.items ≡ length vs + 1
    counted =
        let inner = supplies_from p is 0 n.instance.nodes.items in
        ap (λ (l : List ℤ). length l) form.supplies ∙ omega (arith, length-append inner (neg_ℤ (sum_of inner) ∷ []), supplies_long p is 0 n.instance.nodes.items, long)

    nodes : AllZip (HasNodes vs (length vs)) all is
    nodes = have_nodes (written.nodes w ds) vs (written.arcs w ds) all is a.has.same_nodes a.has.same_arcs (have_ends requested w ds (seen_as n) e apart)

    rooms : ℕ → List FlowArc
    rooms outside = slack_arcs_from is outside 0 n.instance.nodes.items

    arcs_are : problem.arcs.items ≡ written_arcs p n.instance.sense (length vs) is ++ rooms (length vs)
    arcs_are = form.arcs ∙ ap (λ (m : ℕ). written_arcs p n.instance.sense m is ++ rooms m) (n.instance.nodes.ok.0 ∙ long)

    arcs : AreEncoded vs problem.arcs.items all link.offsets.items link.numbers.items
    arcs =
        subst (λ l. AreEncoded vs l all link.offsets.items link.numbers.items) (sym arcs_are)
        (subst (λ l. AreEncoded vs (written_arcs p n.instance.sense (length vs) is ++ rooms (length vs)) all l link.numbers.items) (sym form.offsets)
        (subst (λ l. AreEncoded vs (written_arcs p n.instance.sense (length vs) is ++ rooms (length vs)) all (map (offset_of p) is) l) (sym form.numbers) (encoded p n.instance.sense vs (rooms (length vs)) is all a.has.bounds nodes [])))

    counts : length link.numbers.items ≡ length link.offsets.items
    counts = ap length form.numbers ∙ length-numbers p 1 is ∙ sym (length-offsets p is) ∙ sym (ap length form.offsets)

    numbers : (flows : List ℤ) → map (flow_on (assignment_of all link flows)) all ≡ mapped_back link flows
    numbers flows = flows_are all (mapped_back link flows) a.has.is_network.arcs_apart (mapped_back_long link.numbers.items link.offsets.items flows counts ∙ ap length form.numbers ∙ length-numbers p 1 is ∙ zip_long HasBounds all is a.has.bounds)
