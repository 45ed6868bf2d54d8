-- The printed prices prove the plan in the network that the two inputs mean.
use Rattle.std.specs.Prelude.{◌≡◌, ◌&&◌, ◌+◌, ℕ, zero, suc, Bool, true, false, List, [], ◌∷◌, length, map, slice_get, slice_index_or, Option, None, Some, if◌then◌else◌, ℤ, pos, ◌+ℤ◌, ◌-ℤ◌}
use Rattle.std.specs.List.{AllByRecursion, AllZip, IsDistinct}
use Rattle.std.proofs.Common.{refl, ap, sym, subst, ◌∙◌, arith}
use Rattle.std.proofs.lemmas.Int.{ints}
use Rattle.std.proofs.lemmas.Slice.Eq.{bytes_eq-Decides}
use Rattle.net_sets.specs.Sets.{Tuple, same_tuple}
use Rattle.net_sets.proofs.Sames.{tuple_decides}
use Rattle.net_tree.specs.Tree.{Declaration}
use Rattle.net_expr.specs.Worlds.{Name, World}
use Rattle.net_normal.specs.Assignments.{net_inflow}
use Rattle.net_normal.specs.Links.{signed}
use Rattle.net_normal.specs.declared.instance.InstArc.{InstArc}
use Rattle.net_normal.specs.declared.instance.NodeRange.{NodeRange}
use Rattle.net_normal.specs.declared.instance.Sense.{Sense}
use Rattle.net_normal.proofs.ArcSums.{price_of-map}
use Rattle.net_meaning.specs.Network as meaning
use Rattle.net_meaning.specs.Network.{flow_on, is_at}
use Rattle.net_meaning.specs.Represents.{by_label}
use Rattle.net_inst.specs.AsWritten as written
use Rattle.net_inst.specs.declared.network.Named.{Named}
use Rattle.net_inst.specs.Laws.{IsPlaceOf, HasEndsOf}
use Rattle.net_inst.specs.Soundness.{IsSameNode, IsSameArc, HasBounds, HasAssignments}
use Rattle.net_inst.proofs.Feasible.{have_assignments}
use Rattle.net_report.specs.Prices as printed
use Rattle.net_driver.specs.PlanProofs.{price_at, reduced_costs, AreCoefficients, IsAtBound, IsAtSide, ProvePlan}
use Rattle.net_driver.proofs.ModelMeaning.{flows_same, by_same}
use Rattle.net_driver.proofs.PlanProofs.{not_both}
use Rattle.net_driver.proofs.PriceBounds.{IsBoundBy, IsSideBy}

-- ---- nodes by index

abbrev as_label : written.WrittenLabel → meaning.Label
as_label l = record { name = l.name; indexed = l.indexed; key = l.key }

label_is : (n : written.WrittenNode) (v : meaning.Node) → IsSameNode n v → v.label ≡ as_label n.label
label_is n v same =
    let name = same.name in
    let indexed = same.indexed in
    let key = same.key in
    λ t. record { name = name t; indexed = indexed t; key = key t }

meant_at : (ns : List written.WrittenNode) (vs : List meaning.Node) (i : ℕ) (l : written.WrittenLabel) → AllZip IsSameNode ns vs → slice_get (map (λ (n : written.WrittenNode). n.label) ns) i ≡ Some l → (v : meaning.Node) × (slice_get vs i ≡ Some v) × (v.label ≡ as_label l)
meant_at [] vs i l same e = absurd (let k = e in cc)
meant_at (n ∷ ns) [] i l same e = absurd same
meant_at (n ∷ ns) (v ∷ vs) zero l same e = let is : n.label ≡ l = cc in (v, refl, label_is n v same.0 ∙ ap as_label is)
meant_at (n ∷ ns) (v ∷ vs) (suc i) l same e = meant_at ns vs i l same.1 e

label_at : (P : meaning.Label → Type 0) (vs : List meaning.Node) (i : ℕ) (v : meaning.Node) → AllByRecursion P (map (λ (u : meaning.Node). u.label) vs) → slice_get vs i ≡ Some v → P v.label
label_at P [] i v h e = absurd (let k = e in cc)
label_at P (u ∷ vs) zero v h e = let is : u ≡ v = cc in subst (λ (w : meaning.Node). P w.label) is h.0
label_at P (u ∷ vs) (suc i) v h e = label_at P vs i v h.1 e

-- ---- prices at the ends of arcs

price_found : (r : Name × Tuple) (vs : List meaning.Node) (prices : List ℤ) (i : ℕ) (v : meaning.Node) → IsDistinct meaning.same_label (map (λ (u : meaning.Node). u.label) vs) → length prices ≡ length vs
    → slice_get vs i ≡ Some v → is_at (Some r) v.label ≡ true → price_at vs prices (Some r) ≡ slice_index_or prices i (pos 0)
unfolding IsDistinct
price_found r [] prices i v apart long e at = absurd (let k = e in cc)
price_found r (u ∷ vs) [] i v apart long e at = absurd (omega (arith, long))
price_found r (u ∷ vs) (p ∷ prices) zero v apart long e at =
    let is : u ≡ v = cc in
    ap (λ (b : Bool). if b then p else price_at vs prices (Some r)) (ap (λ (w : meaning.Node). is_at (Some r) w.label) is ∙ at)
price_found r (u ∷ vs) (p ∷ prices) (suc i) v apart long e at =
    ap (λ (b : Bool). if b then p else price_at vs prices (Some r)) (go (is_at (Some r) u.label) refl) ∙ price_found r vs prices i v apart.1 (omega (arith, long)) e at
  where
    go : (b : Bool) → is_at (Some r) u.label ≡ b → b ≡ false
    go true h = let other = not_both u.label (Some r) h v.label (label_at (λ m. meaning.same_label u.label m ≡ false) vs i v apart.0 e) in absurd (let k = sym at ∙ other in cc)
    go false h = refl

named : (r : Name × Tuple) (l : meaning.Label) → l.name ≡ r.0 → l.key ≡ r.1 → is_at (Some r) l ≡ true
named r l n k = ap (λ (b : Bool). b && same_tuple r.1 l.key) ((bytes_eq-Decides r.0 l.name).1 (sym n)) ∙ (tuple_decides r.1 l.key).1 (sym k)

module _ (ns : List written.WrittenNode) (vs : List meaning.Node) (prices : List ℤ) (same : AllZip IsSameNode ns vs) (apart : IsDistinct meaning.same_label (map (λ (u : meaning.Node). u.label) vs)) (long : length prices ≡ length vs) where
  abbrev labels : List written.WrittenLabel
  labels = map (λ (n : written.WrittenNode). n.label) ns

  end_price : (r : Option (Name × Tuple)) (o : Option ℕ) → IsPlaceOf labels r o → price_at vs prices r ≡ printed.price_at prices o
  end_price None None p = refl
  end_price None (Some i) p = absurd p
  end_price (Some r) None p = absurd p
  end_price (Some r) (Some i) p =
      let found = meant_at ns vs i p.0 same p.1 in
      let name : found.0.label.name ≡ r.0 = ap (λ (l : meaning.Label). l.name) found.2 ∙ p.2 in
      let key : found.0.label.key ≡ r.1 = ap (λ (l : meaning.Label). l.key) found.2 ∙ p.3 in
      price_found r vs prices i found.0 apart long found.1 (named r found.0.label name key)

  costs_same : (xs : List written.WrittenArc) (all : List meaning.Arc) (is : List InstArc) → AllZip IsSameArc xs all → AllZip (HasEndsOf labels) xs is → map (printed.reduced_cost prices) is ≡ reduced_costs vs prices all (map (λ (i : InstArc). i.coefficient) is)
  costs_same [] [] [] h k = refl
  costs_same [] [] (i ∷ is) h k = absurd k
  costs_same [] (a ∷ all) is h k = absurd h
  costs_same (x ∷ xs) [] is h k = absurd h
  costs_same (x ∷ xs) (a ∷ all) [] h k = absurd k
  costs_same (x ∷ xs) (a ∷ all) (i ∷ is) h k =
      let from : price_at vs prices a.from ≡ printed.price_at prices i.tail = ap (price_at vs prices) h.0.from ∙ end_price (written.from_end x) i.tail k.0.from in
      let to : price_at vs prices a.to ≡ printed.price_at prices i.head = ap (price_at vs prices) h.0.to ∙ end_price (written.to_end x) i.head k.0.to in
      let here : (i.coefficient +ℤ printed.price_at prices i.tail) -ℤ printed.price_at prices i.head ≡ (i.coefficient +ℤ price_at vs prices a.from) -ℤ price_at vs prices a.to = omega (arith, ints, from, to) in
      let rest = costs_same xs all is h.1 k.1 in
      λ t. here t ∷ rest t

-- ---- arcs and nodes

bounds_moved : (sense : Sense) (x : meaning.Assignment) (prices : List ℤ) (all : List meaning.Arc) (is : List InstArc) → AllZip HasBounds all is
    → AllZip (λ a y. IsBoundBy (signed sense (printed.reduced_cost prices a)) a y) is (map (flow_on x) all) → AllZip (IsAtBound sense x) all (map (printed.reduced_cost prices) is)
bounds_moved sense x prices [] [] h k = tt
bounds_moved sense x prices [] (i ∷ is) h k = absurd h
bounds_moved sense x prices (a ∷ all) [] h k = absurd h
bounds_moved sense x prices (a ∷ all) (i ∷ is) h k =
    (record { positive = λ q. k.0.positive q ∙ h.0.lower; negative = λ q. k.0.negative q ∙ h.0.upper }, bounds_moved sense x prices all is h.1 k.1)

zip_by_index : {A : Type 0} (R : A → ℤ → Type 0) (xs : List A) (ys : List ℤ) → length ys ≡ length xs → ((i : ℕ) (x : A) → slice_get xs i ≡ Some x → R x (slice_index_or ys i (pos 0))) → AllZip R xs ys
zip_by_index R [] [] long f = tt
zip_by_index R [] (y ∷ ys) long f = absurd (omega (arith, long))
zip_by_index R (x ∷ xs) [] long f = absurd (omega (arith, long))
zip_by_index R (x ∷ xs) (y ∷ ys) long f = (f 0 x refl, zip_by_index R xs ys (omega (arith, long)) (λ i z e. f (suc i) z e))

-- ---- the plan

module _ (wanted : Option Name) (w : World) (ds : List Declaration) (n : Named) (s : HasAssignments wanted w ds n) (apart : written.AreDistinct (written.nodes w ds) (written.arcs w ds)) (ends : AllZip (HasEndsOf (map (λ (v : written.WrittenNode). v.label) (written.nodes w ds))) (written.arcs w ds) n.instance.arcs.items) where
  abbrev ns : List written.WrittenNode
  ns = written.nodes w ds

  abbrev xs : List written.WrittenArc
  xs = written.arcs w ds

  abbrev vs : List meaning.Node
  vs = s.has.network.nodes

  abbrev all : List meaning.Arc
  all = s.has.network.arcs

  abbrev is : List InstArc
  is = n.instance.arcs.items

  flows_are : (numbers : List ℤ) → length numbers ≡ length xs → map (flow_on (by_label all numbers)) all ≡ numbers
  flows_are numbers long =
      let same : by_label all numbers ≡ written.by_label (map (λ (a : written.WrittenArc). a.label) xs) numbers = λ t name key. by_same xs all numbers s.has.same_arcs name key t in
      flows_same xs all (by_label all numbers) s.has.same_arcs ∙ ap (λ (x : meaning.Assignment). written.numbers_on x xs) same ∙ have_assignments xs numbers apart.arcs long

  coefficients_are : AreCoefficients s.has.network n.instance.constant (map (λ (i : InstArc). i.coefficient) is)
  coefficients_are x = (s.value x _).1 (ap (λ (m : ℤ). n.instance.constant +ℤ m) (price_of-map (λ (c : ℤ). c) (λ (i : InstArc). i.coefficient) is (map (flow_on x) all)))

  pub proved : (numbers prices : List ℤ) → length numbers ≡ length xs → length prices ≡ length vs → AllZip (λ a y. IsBoundBy (signed n.instance.sense (printed.reduced_cost prices a)) a y) is numbers
      → ((u : ℕ) (r : NodeRange) → slice_get n.instance.nodes.items u ≡ Some r → IsSideBy (signed n.instance.sense (slice_index_or prices u (pos 0))) r (net_inflow is numbers u))
      → ProvePlan s.has.network (by_label all numbers) prices (map (printed.reduced_cost prices) is)
  proved numbers prices each many arcs nodes = record {
    constant = n.instance.constant;
    coefficients = map (λ (i : InstArc). i.coefficient) is;
    are_coefficients = coefficients_are;
    are_costs = costs_same ns vs prices s.has.same_nodes s.has.is_network.nodes_apart many xs all is s.has.same_arcs ends;
    arcs = subst (λ (t : Sense). AllZip (IsAtBound t x) all (map (printed.reduced_cost prices) is)) (sym s.has.same_sense)
        (bounds_moved n.instance.sense x prices all is s.has.bounds (subst (AllZip (λ a y. IsBoundBy (signed n.instance.sense (printed.reduced_cost prices a)) a y) is) (sym flows) arcs));
    nodes = subst (λ (t : Sense). AllZip (IsAtSide t all x) vs prices) (sym s.has.same_sense) (zip_by_index (IsAtSide n.instance.sense all x) vs prices many side);
  }
    where
      x : meaning.Assignment
      x = by_label all numbers

      flows : map (flow_on x) all ≡ numbers
      flows = flows_are numbers each

      side : (i : ℕ) (v : meaning.Node) → slice_get vs i ≡ Some v → IsAtSide n.instance.sense all x v (slice_index_or prices i (pos 0))
      side i v at =
          let range = s.ranges i v at in
          let by = nodes i range.0 range.1 in
          let own : meaning.net_inflow all x v.label ≡ net_inflow is numbers i = range.3 x ∙ ap (λ (ys : List ℤ). net_inflow is ys i) flows in
          record {
            positive = λ q z h. let least = by.positive q (meaning.net_inflow all z v.label) ((range.2 (meaning.net_inflow all z v.label)).0 h) in omega (arith, ints, least, own);
            negative = λ q z h. let most = by.negative q (meaning.net_inflow all z v.label) ((range.2 (meaning.net_inflow all z v.label)).0 h) in omega (arith, ints, most, own);
          }
