-- An assignment is feasible by names exactly when its numbers are.
use Rattle.std.specs.Prelude.{◌≡◌, ◌==◌, ◌&&◌, ℕ, zero, suc, Bool, true, false, List, [], ◌∷◌, map, slice_get, Option, None, Some, if◌then◌else◌, Ok, ℤ, pos, ◌+ℤ◌, ◌-ℤ◌, ◌≤ℤ◌}
use Rattle.std.specs.List.{AllByRecursion, AllZip, IsDistinct}
use Rattle.std.specs.Str.{bytes_eq}
use Rattle.std.proofs.Common.{refl, ap, sym, ◌∙◌, subst, arith}
use Rattle.std.proofs.lemmas.Bool.Decides.{Decides-eqb}
use Rattle.std.proofs.lemmas.Map.Keys.{IsDistinct-head, IsDistinct-tail}
use Rattle.std.proofs.lemmas.Slice.Eq.{bytes_eq-Decides}
use Rattle.net_base.specs.Outcomes.{Outcome, and_then}
use Rattle.net_sets.specs.declared.member.Member.TheVariants.{Number}
use Rattle.net_sets.specs.Sets.{Tuple, same_tuple}
use Rattle.net_sets.proofs.Sames.{tuple_decides}
use Rattle.net_tree.specs.Tree.{Tree}
use Rattle.net_normal.specs.Assignments.{enters, leaves, IsWithinBounds, IsInRange, IsFeasibleAssignment}
use Rattle.net_normal.specs.Assignments as by_number
use Rattle.net_normal.specs.Sums.{is_node, flow_on}
use Rattle.net_normal.specs.declared.instance.InstArc.{InstArc}
use Rattle.net_normal.specs.declared.instance.NodeRange.{NodeRange}
use Rattle.net_expr.specs.declared.value.Value.{Value}
use Rattle.net_expr.specs.declared.value.Value.TheVariants.{One}
use Rattle.net_expr.specs.Values.{value}
use Rattle.net_expr.specs.Worlds.{Name, World, Scope}
use Rattle.net_linear.specs.Conditions.{number_of}
use Rattle.net_linear.specs.Amounts.{as_number}
use Rattle.net_inst.specs.AsWritten.{WrittenLabel, WrittenNode, WrittenArc, nodes, arcs, same_label, Assignment, number_on, numbers_on, by_label, is_named, from_end, to_end, flow_at_ends, net_inflow, amount, IsWithin, IsMet}
use Rattle.net_inst.specs.Instances.{seen_as}
use Rattle.net_inst.specs.Laws.{IsInSides, IsRangeOf, IsPlaceOf, IsBoundedAs, HasEndsOf, HaveFeasible, HaveAssignments}
use Rattle.net_inst.specs.Nodes.{sides_of}
use Rattle.net_inst.proofs.Written.{have_exact_ranges, have_bounds, have_ends}

-- ---- places of labels

alike : (l m : WrittenLabel) → same_label l m ≡ true → (l.name ≡ m.name) × (l.key ≡ m.key)
alike l m e = go (bytes_eq l.name m.name) refl e
  where
    go : (b : Bool) → bytes_eq l.name m.name ≡ b → b && same_tuple l.key m.key ≡ true → (l.name ≡ m.name) × (l.key ≡ m.key)
    go true f h = ((bytes_eq-Decides l.name m.name).0 f, (tuple_decides l.key m.key).0 h)
    go false f h = cc

both : (l m : WrittenLabel) → l.name ≡ m.name → l.key ≡ m.key → same_label l m ≡ true
both l m e f = ap (λ (b : Bool). b && same_tuple l.key m.key) ((bytes_eq-Decides l.name m.name).1 e) ∙ (tuple_decides l.key m.key).1 f

turned : (l m : WrittenLabel) → same_label l m ≡ true → same_label m l ≡ true
turned l m e = let h = alike l m e in both m l (sym h.0) (sym h.1)

none_after : (x : WrittenLabel) (xs : List WrittenLabel) (v : ℕ) (m : WrittenLabel) → AllByRecursion (λ y. same_label x y ≡ false) xs → slice_get xs v ≡ Some m → same_label x m ≡ false
none_after x [] v m all e = absurd (let h = e in cc)
none_after x (y ∷ xs) zero m all e = let same : y ≡ m = cc in ap (same_label x) (sym same) ∙ all.0
none_after x (y ∷ xs) (suc v) m all e = none_after x xs v m all.1 e

one_place : (xs : List WrittenLabel) (u v : ℕ) (l m : WrittenLabel) → IsDistinct same_label xs → slice_get xs u ≡ Some l → slice_get xs v ≡ Some m → same_label l m ≡ true → u ≡ v
one_place [] u v l m d e f h = absurd (let k = e in cc)
one_place (x ∷ xs) zero zero l m d e f h = refl
one_place (x ∷ xs) zero (suc v) l m d e f h =
    let same : x ≡ l = cc in
    let other : same_label x m ≡ true = ap (λ (z : WrittenLabel). same_label z m) same ∙ h in
    let apart = none_after x xs v m (IsDistinct-head same_label x xs d) f in cc
one_place (x ∷ xs) (suc u) zero l m d e f h =
    let same : x ≡ m = cc in
    let other : same_label x l ≡ true = ap (λ (z : WrittenLabel). same_label z l) same ∙ turned l m h in
    let apart = none_after x xs u l (IsDistinct-head same_label x xs d) e in cc
one_place (x ∷ xs) (suc u) (suc v) l m d e f h = ap suc (one_place xs u v l m (IsDistinct-tail same_label x xs d) e f h)

-- an end names the node whose number it has
named_as : (labels : List WrittenLabel) (v : ℕ) (l : WrittenLabel) (r : Option (Name × Tuple)) (o : Option ℕ) → IsDistinct same_label labels → slice_get labels v ≡ Some l → IsPlaceOf labels r o → is_named l r ≡ is_node v o
named_as labels v l None None d e h = refl
named_as labels v l None (Some u) d e h = absurd h
named_as labels v l (Some r) None d e h = absurd h
named_as labels v l (Some r) (Some u) d e h = ap (λ (n : Name). bytes_eq n l.name && same_tuple r.1 l.key) (sym h.2) ∙ ap (λ (k : Tuple). bytes_eq h.0.name l.name && same_tuple k l.key) (sym h.3) ∙ go (u == v) refl
  where
    unlike : (b : Bool) → same_label h.0 l ≡ b → u == v ≡ false → b ≡ false
    unlike true f g = let same : u == v ≡ true = (Decides-eqb u v).1 (one_place labels u v h.0 l d h.1 e f) in cc
    unlike false f g = refl

    go : (b : Bool) → u == v ≡ b → same_label h.0 l ≡ b
    go true f =
        let there : slice_get labels u ≡ Some l = ap (slice_get labels) ((Decides-eqb u v).0 f) ∙ e in
        let found = h.1 in
        let same : h.0 ≡ l = cc in
        both h.0 l (ap (λ (z : WrittenLabel). z.name) same) (ap (λ (z : WrittenLabel). z.key) same)
    go false f = unlike (same_label h.0 l) refl f

-- ---- net inflows

choices : (b c : Bool) (y : ℤ) (m n : ℤ) → b ≡ c → m ≡ n → (if b then y else pos 0) +ℤ m ≡ (if c then y else pos 0) +ℤ n
choices b c y m n e f = ap (λ (t : Bool). (if t then y else pos 0) +ℤ m) e ∙ ap (λ (z : ℤ). (if c then y else pos 0) +ℤ z) f

brought : (labels : List WrittenLabel) (v : ℕ) (l : WrittenLabel) → IsDistinct same_label labels → slice_get labels v ≡ Some l → (all : List WrittenArc) (xs : List InstArc) (x : Assignment) → AllZip (HasEndsOf labels) all xs → flow_at_ends to_end l all x ≡ flow_on (enters v) xs (numbers_on x all)
brought labels v l d e [] [] x h = refl
brought labels v l d e [] (q ∷ xs) x h = absurd h
brought labels v l d e (a ∷ all) [] x h = absurd h
brought labels v l d e (a ∷ all) (q ∷ xs) x h = choices (is_named l (to_end a)) (is_node v q.head) (number_on x a) _ _ (named_as labels v l (to_end a) q.head d e h.0.to) (brought labels v l d e all xs x h.1)

taken : (labels : List WrittenLabel) (v : ℕ) (l : WrittenLabel) → IsDistinct same_label labels → slice_get labels v ≡ Some l → (all : List WrittenArc) (xs : List InstArc) (x : Assignment) → AllZip (HasEndsOf labels) all xs → flow_at_ends from_end l all x ≡ flow_on (leaves v) xs (numbers_on x all)
taken labels v l d e [] [] x h = refl
taken labels v l d e [] (q ∷ xs) x h = absurd h
taken labels v l d e (a ∷ all) [] x h = absurd h
taken labels v l d e (a ∷ all) (q ∷ xs) x h = choices (is_named l (from_end a)) (is_node v q.tail) (number_on x a) _ _ (named_as labels v l (from_end a) q.tail d e h.0.from) (taken labels v l d e all xs x h.1)

pub inflow_is : (labels : List WrittenLabel) (v : ℕ) (l : WrittenLabel) → IsDistinct same_label labels → slice_get labels v ≡ Some l → (all : List WrittenArc) (xs : List InstArc) (x : Assignment) → AllZip (HasEndsOf labels) all xs → net_inflow all x l ≡ by_number.net_inflow xs (numbers_on x all) v
inflow_is labels v l d e all xs x h = ap (λ (m : ℤ). m -ℤ flow_at_ends from_end l all x) (brought labels v l d e all xs x h) ∙ ap (λ (m : ℤ). flow_on (enters v) xs (numbers_on x all) -ℤ m) (taken labels v l d e all xs x h)

-- ---- bounds

pub amount_of : (w : World) (s : Scope) (t : Tree) (n : ℤ) → value w s t ≡ Ok (One (Number n)) → amount w s t ≡ n
amount_of w s t n e = ap (λ (o : Outcome Value). number_of (and_then o (λ v. Ok (as_number v)))) e

within_to : (x : Assignment) (all : List WrittenArc) (xs : List InstArc) → AllZip IsBoundedAs all xs → AllByRecursion (IsWithin x) all → AllZip IsWithinBounds xs (numbers_on x all)
within_to x [] [] h k = tt
within_to x [] (q ∷ xs) h k = absurd h
within_to x (a ∷ all) [] h k = absurd h
within_to x (a ∷ all) (q ∷ xs) h k = (
  record {
    lower = subst (λ (m : ℤ). m ≤ℤ number_on x a) (amount_of a.env a.scope a.parts.lower q.lower h.0.lower) k.0.lower;
    upper = subst (λ (m : ℤ). number_on x a ≤ℤ m) (amount_of a.env a.scope a.parts.upper q.upper h.0.upper) k.0.upper;
  },
  within_to x all xs h.1 k.1,
)

within_from : (x : Assignment) (all : List WrittenArc) (xs : List InstArc) → AllZip IsBoundedAs all xs → AllZip IsWithinBounds xs (numbers_on x all) → AllByRecursion (IsWithin x) all
within_from x [] [] h k = tt
within_from x [] (q ∷ xs) h k = absurd h
within_from x (a ∷ all) [] h k = absurd h
within_from x (a ∷ all) (q ∷ xs) h k = (
  record {
    lower = subst (λ (m : ℤ). m ≤ℤ number_on x a) (sym (amount_of a.env a.scope a.parts.lower q.lower h.0.lower)) k.0.lower;
    upper = subst (λ (m : ℤ). number_on x a ≤ℤ m) (sym (amount_of a.env a.scope a.parts.upper q.upper h.0.upper)) k.0.upper;
  },
  within_from x all xs h.1 k.1,
)

-- ---- conditions

pub in_range_to : (r : NodeRange) (y : ℤ) → IsInRange r y → IsInSides (sides_of r) y
in_range_to r y h = record { low = h.low; high = h.high }

pub in_range_from : (r : NodeRange) (y : ℤ) → IsInSides (sides_of r) y → IsInRange r y
in_range_from r y h = record { low = h.low; high = h.high }

-- the v-th node and its range
met_to : (f : ℕ → ℤ) (all : List WrittenArc) (x : Assignment) (ns : List WrittenNode) (rs : List NodeRange) → AllZip IsRangeOf ns (map sides_of rs) → ((v : ℕ) (n : WrittenNode) → slice_get ns v ≡ Some n → net_inflow all x n.label ≡ f v) → AllByRecursion (IsMet all x) ns
    → (v : ℕ) (r : NodeRange) → slice_get rs v ≡ Some r → IsInRange r (f v)
met_to f all x [] [] h same k v r e = absurd (let j = e in cc)
met_to f all x [] (q ∷ rs) h same k v r e = absurd h
met_to f all x (n ∷ ns) [] h same k v r e = absurd h
met_to f all x (n ∷ ns) (q ∷ rs) h same k zero r e =
    let is : q ≡ r = cc in
    subst (λ (z : NodeRange). IsInRange z (f zero)) is (in_range_from q (f zero) (subst (IsInSides (sides_of q)) (same zero n refl) ((h.0 (net_inflow all x n.label)).1 k.0)))
met_to f all x (n ∷ ns) (q ∷ rs) h same k (suc v) r e = met_to (λ u. f (suc u)) all x ns rs h.1 (λ u m j. same (suc u) m j) k.1 v r e

met_from : (f : ℕ → ℤ) (all : List WrittenArc) (x : Assignment) (ns : List WrittenNode) (rs : List NodeRange) → AllZip IsRangeOf ns (map sides_of rs) → ((v : ℕ) (n : WrittenNode) → slice_get ns v ≡ Some n → net_inflow all x n.label ≡ f v)
    → ((v : ℕ) (r : NodeRange) → slice_get rs v ≡ Some r → IsInRange r (f v)) → AllByRecursion (IsMet all x) ns
met_from f all x [] [] h same k = tt
met_from f all x [] (q ∷ rs) h same k = absurd h
met_from f all x (n ∷ ns) [] h same k = absurd h
met_from f all x (n ∷ ns) (q ∷ rs) h same k = (
  (h.0 (net_inflow all x n.label)).0 (subst (IsInSides (sides_of q)) (sym (same zero n refl)) (in_range_to q (f zero) (k zero q refl))),
  met_from (λ u. f (suc u)) all x ns rs h.1 (λ u m j. same (suc u) m j) (λ u r j. k (suc u) r j),
)

pub label_get : (ns : List WrittenNode) (v : ℕ) (n : WrittenNode) → slice_get ns v ≡ Some n → slice_get (map (λ u. u.label) ns) v ≡ Some n.label
label_get [] v n e = absurd (let h = e in cc)
label_get (m ∷ ns) zero n e = let same : m ≡ n = cc in ap (λ (z : WrittenNode). Some z.label) same
label_get (m ∷ ns) (suc v) n e = label_get ns v n e

pub have_feasible : HaveFeasible
have_feasible wanted w ds n e distinct x = (
  (λ h. record {
    bounds = within_to x (arcs w ds) n.instance.arcs.items bounds h.bounds;
    ranges = met_to inflow (arcs w ds) x (nodes w ds) n.instance.nodes.items ranges inflows h.conditions;
  }),
  (λ h. record {
    bounds = within_from x (arcs w ds) n.instance.arcs.items bounds h.bounds;
    conditions = met_from inflow (arcs w ds) x (nodes w ds) n.instance.nodes.items ranges inflows h.ranges;
  }),
)
  where
    bounds : AllZip IsBoundedAs (arcs w ds) n.instance.arcs.items
    bounds = have_bounds wanted w ds (seen_as n) e

    ranges : AllZip IsRangeOf (nodes w ds) (map sides_of n.instance.nodes.items)
    ranges = have_exact_ranges wanted w ds (seen_as n) e

    inflow : ℕ → ℤ
    inflow v = by_number.net_inflow n.instance.arcs.items (numbers_on x (arcs w ds)) v

    inflows : (v : ℕ) (m : WrittenNode) → slice_get (nodes w ds) v ≡ Some m → net_inflow (arcs w ds) x m.label ≡ inflow v
    inflows v m h = inflow_is (map (λ u. u.label) (nodes w ds)) v m.label distinct.nodes (label_get (nodes w ds) v m h) (arcs w ds) n.instance.arcs.items x (have_ends wanted w ds (seen_as n) e distinct)

-- ---- numbers and assignments

apart_stays : (l : WrittenLabel) (y : ℤ) (ls : List WrittenLabel) (ys : List ℤ) (all : List WrittenArc) → AllByRecursion (λ m. same_label l m ≡ false) (map (λ a. a.label) all) → numbers_on (by_label (l ∷ ls) (y ∷ ys)) all ≡ numbers_on (by_label ls ys) all
apart_stays l y ls ys [] h = refl
apart_stays l y ls ys (a ∷ all) h =
    let rest = apart_stays l y ls ys all h.1 in
    ap (λ (b : Bool). (if b then y else by_label ls ys a.label.name a.label.key) ∷ numbers_on (by_label (l ∷ ls) (y ∷ ys)) all) h.0 ∙ ap (◌∷◌ (number_on (by_label ls ys) a)) rest

pub have_assignments : HaveAssignments
have_assignments [] [] d l = refl
have_assignments [] (y ∷ ys) d l = absurd (let e = l in omega arith)
have_assignments (a ∷ all) [] d l = absurd (let e = l in omega arith)
have_assignments (a ∷ all) (y ∷ ys) d l =
    let own = both a.label a.label refl refl in
    let labels = map (λ (b : WrittenArc). b.label) all in
    let rest = have_assignments all ys (IsDistinct-tail same_label a.label labels d) (omega (arith, l)) in
    ap (λ (b : Bool). (if b then y else by_label labels ys a.label.name a.label.key) ∷ numbers_on (by_label (a.label ∷ labels) (y ∷ ys)) all) own
    ∙ ap (◌∷◌ y) (apart_stays a.label y labels ys all (IsDistinct-head same_label a.label labels d) ∙ rest)
