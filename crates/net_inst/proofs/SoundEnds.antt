-- The labels of nodes and arcs are unique, and each end of an arc is at a node.
use Rattle.std.specs.Prelude.{◌≡◌, ◌&&◌, ◌||◌, ℕ, zero, suc, Bool, true, false, List, [], ◌∷◌, map, slice_get, Option, None, Some, is_some, IsTrue}
use Rattle.std.specs.List.{AllByRecursion, AllZip, IsDistinct, list_any}
use Rattle.std.specs.Str.{bytes_eq}
use Rattle.std.proofs.Common.{refl, ap, sym, ◌∙◌, subst}
use Rattle.std.proofs.lemmas.Slice.Eq.{bytes_eq-Decides}
use Rattle.net_sets.specs.Sets.{Tuple, same_tuple}
use Rattle.net_sets.proofs.Sames.{tuple_decides}
use Rattle.net_normal.specs.declared.instance.InstArc.{InstArc}
use Rattle.net_expr.specs.Worlds.{Name}
use Rattle.net_meaning.specs.Network as meaning
use Rattle.net_meaning.specs.Network.{is_at, IsNodeAt}
use Rattle.net_inst.specs.AsWritten as written
use Rattle.net_inst.specs.Laws.{IsPlaceOf, HasEndsOf}
use Rattle.net_inst.specs.Soundness.{IsSameNode, IsSameArc}
use Rattle.net_inst.proofs.Built.{node_labels, arc_labels}

-- ---- labels

abbrev pub as_label : written.WrittenLabel → meaning.Label
as_label l = record { name = l.name; indexed = l.indexed; key = l.key }

node_labels_are : (ns : List written.WrittenNode) (vs : List meaning.Node) → AllZip IsSameNode ns vs → map as_label (node_labels ns) ≡ map (λ (v : meaning.Node). v.label) vs
node_labels_are [] [] h = refl
node_labels_are [] (v ∷ vs) h = absurd h
node_labels_are (x ∷ ns) [] h = absurd h
node_labels_are (x ∷ ns) (v ∷ vs) h =
    let one = h.0 in
    let name = sym one.name in
    let indexed = sym one.indexed in
    let key = sym one.key in
    let rest = node_labels_are ns vs h.1 in
    λ t. (record { name = name t; indexed = indexed t; key = key t }) ∷ rest t

arc_labels_are : (xs : List written.WrittenArc) (all : List meaning.Arc) → AllZip IsSameArc xs all → map as_label (arc_labels xs) ≡ map (λ (a : meaning.Arc). a.label) all
arc_labels_are [] [] h = refl
arc_labels_are [] (a ∷ all) h = absurd h
arc_labels_are (x ∷ xs) [] h = absurd h
arc_labels_are (x ∷ xs) (a ∷ all) h =
    let one = h.0 in
    let name = sym one.name in
    let indexed = sym one.indexed in
    let key = sym one.key in
    let rest = arc_labels_are xs all h.1 in
    λ t. (record { name = name t; indexed = indexed t; key = key t }) ∷ rest t

labels_apart : (ls : List written.WrittenLabel) → IsDistinct written.same_label ls → IsDistinct meaning.same_label (map as_label ls)
unfolding IsDistinct
labels_apart [] h = tt
labels_apart (l ∷ ls) h = (go ls h.0, labels_apart ls h.1)
  where
    go : (ms : List written.WrittenLabel) → AllByRecursion (λ m. written.same_label l m ≡ false) ms → AllByRecursion (λ m. meaning.same_label (as_label l) m ≡ false) (map as_label ms)
    go [] k = tt
    go (m ∷ ms) k = (k.0, go ms k.1)

pub nodes_apart : (ns : List written.WrittenNode) (vs : List meaning.Node) → AllZip IsSameNode ns vs → IsDistinct written.same_label (node_labels ns) → IsDistinct meaning.same_label (map (λ (v : meaning.Node). v.label) vs)
nodes_apart ns vs same h = subst (IsDistinct meaning.same_label) (node_labels_are ns vs same) (labels_apart (node_labels ns) h)

pub arcs_apart : (xs : List written.WrittenArc) (all : List meaning.Arc) → AllZip IsSameArc xs all → IsDistinct written.same_label (arc_labels xs) → IsDistinct meaning.same_label (map (λ (a : meaning.Arc). a.label) all)
arcs_apart xs all same h = subst (IsDistinct meaning.same_label) (arc_labels_are xs all same) (labels_apart (arc_labels xs) h)

-- ---- ends

pub both_same : (n m : Name) (s t : Tuple) → n ≡ m → s ≡ t → (bytes_eq n m && same_tuple s t) ≡ true
both_same n m s t e f = rw ((bytes_eq-Decides n m).1 e) ((tuple_decides s t).1 f)

or_true : (b : Bool) → (b || true) ≡ true
or_true true = refl
or_true false = refl

-- the label at an index is that of a node
found_at : (r : Name × Tuple) (ns : List written.WrittenNode) (vs : List meaning.Node) (i : ℕ) (l : written.WrittenLabel) → AllZip IsSameNode ns vs → slice_get (node_labels ns) i ≡ Some l → l.name ≡ r.0 → l.key ≡ r.1
    → list_any (λ (v : meaning.Node). is_at (Some r) v.label) vs ≡ true
found_at r [] vs i l h e n k = absurd (let q = e in cc)
found_at r (x ∷ ns) [] i l h e n k = absurd h
found_at r (x ∷ ns) (v ∷ vs) zero l h e n k =
    let same : x.label ≡ l = cc in
    let name : r.0 ≡ v.label.name = sym n ∙ ap (λ (m : written.WrittenLabel). m.name) (sym same) ∙ sym h.0.name in
    let key : r.1 ≡ v.label.key = sym k ∙ ap (λ (m : written.WrittenLabel). m.key) (sym same) ∙ sym h.0.key in
    ap (λ (b : Bool). b || list_any (λ (v : meaning.Node). is_at (Some r) v.label) vs) (both_same r.0 v.label.name r.1 v.label.key name key)
found_at r (x ∷ ns) (v ∷ vs) (suc i) l h e n k = ap (λ (b : Bool). is_at (Some r) v.label || b) (found_at r ns vs i l h.1 e n k) ∙ or_true (is_at (Some r) v.label)

at_node : (ns : List written.WrittenNode) (vs : List meaning.Node) → AllZip IsSameNode ns vs → (r : Option (Name × Tuple)) (v : Option ℕ) → IsPlaceOf (node_labels ns) r v → IsNodeAt vs r
at_node ns vs same None v p = tt
at_node ns vs same (Some r) None p = absurd p
at_node ns vs same (Some r) (Some i) p = found_at r ns vs i p.0 same p.1 p.2 p.3

-- at least one end of the arc is at a node
abbrev pub HasEnd : meaning.Arc → Type 0
HasEnd a = IsTrue (is_some a.from || is_some a.to)

pub ends_are_nodes : (ns : List written.WrittenNode) (vs : List meaning.Node) (xs : List written.WrittenArc) (all : List meaning.Arc) (is : List InstArc) → AllZip IsSameNode ns vs → AllZip IsSameArc xs all → AllZip (HasEndsOf (node_labels ns)) xs is
    → AllByRecursion HasEnd all → AllByRecursion (λ (a : meaning.Arc). IsNodeAt vs a.from × IsNodeAt vs a.to × IsTrue (is_some a.from || is_some a.to)) all
ends_are_nodes ns vs xs [] is nodes same ends h = tt
ends_are_nodes ns vs [] (a ∷ all) is nodes same ends h = absurd same
ends_are_nodes ns vs (x ∷ xs) (a ∷ all) [] nodes same ends h = absurd ends
ends_are_nodes ns vs (x ∷ xs) (a ∷ all) (i ∷ is) nodes same ends h = (
  (
    subst (IsNodeAt vs) (sym same.0.from) (at_node ns vs nodes (written.from_end x) i.tail ends.0.from),
    subst (IsNodeAt vs) (sym same.0.to) (at_node ns vs nodes (written.to_end x) i.head ends.0.to),
    h.0,
  ),
  ends_are_nodes ns vs xs all is nodes same.1 ends.1 h.1,
)
