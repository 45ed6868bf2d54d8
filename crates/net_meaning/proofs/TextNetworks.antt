-- The texts of the keys of nodes and arcs come from the names and strings of the declarations and the data statements.
use Rattle.std.specs.Prelude.{◌≡◌, ℕ, ◌+◌, List, [], ◌∷◌, ◌++◌, take, Option}
use Rattle.std.specs.List.{AllByRecursion, AllZip}
use Rattle.std.proofs.Common.{refl, ap, sym, subst, arith}
use Rattle.std.proofs.lemmas.List.Elements.{Contains-append_right}
use Rattle.net_base.proofs.Elements.{all_append, all_take}
use Rattle.net_tree.specs.Syntax.{Braces, Condition, Declaration, set, param, check, node, arc, objective}
use Rattle.net_expr.specs.Worlds.{Name}
use Rattle.net_meaning.specs.Network.{IsArc, IsNode, AreNodesOf, AreArcsOf, IsNetwork, Label, label_at, Node, Arc, InOrder, Network}
use Rattle.net_meaning.specs.Texts.{MeaningHolds, WorldHolds, KeysHold, DeclarationsHold, nodes_in, arcs_in, LabelHolds}
use Rattle.net_meaning.specs.Values.{Meaning, World, Key}
use Rattle.net_meaning.proofs.TextWorlds.{indexed_hold}

module _ (P : List ℕ → Type 0) where
  label_holds : (n : Name) (names : List Name) (b : Option Braces) (k : Key) (l : Label) → KeysHold P (k ∷ []) → l ≡ label_at n b k → LabelHolds P (n ∷ names) l
  label_holds n names b k l h e = subst (LabelHolds P (n ∷ names)) (sym e) ((0, omega arith, refl), h.0.0)

  other_label : (name : Name) (names : List Name) (l : Label) → LabelHolds P names l → LabelHolds P (name ∷ names) l
  other_label name names l h = (Contains-append_right (name ∷ []) names l.name h.0, h.1)

  -- the labels of what a declaration declares, and of what those after it declare
  module _ {A : Type 0} (label : A → Label) where
    abbrev LabelsHold : List Name → List A → Type 0
    LabelsHold names xs = AllByRecursion (λ x. LabelHolds P names (label x)) xs

    other_labels : (name : Name) (names : List Name) (xs : List A) → LabelsHold names xs → LabelsHold (name ∷ names) xs
    other_labels name names [] h = tt
    other_labels name names (x ∷ xs) h = (other_label name names (label x) h.0, other_labels name names xs h.1)

    each_holds : (Is : Key → A → Type 0) (n : Name) (names : List Name) (b : Option Braces) → ((k : Key) (x : A) → Is k x → label x ≡ label_at n b k) → (ks : List Key) (xs : List A) → KeysHold P ks
        → AllZip Is ks xs → LabelsHold (n ∷ names) xs
    each_holds Is n names b f [] [] h z = tt
    each_holds Is n names b f [] (x ∷ xs) h z = absurd z
    each_holds Is n names b f (k ∷ ks) [] h z = absurd z
    each_holds Is n names b f (k ∷ ks) (x ∷ xs) h z = (label_holds n names b k (label x) (h.0, tt) (f k x z.0), each_holds Is n names b f ks xs h.1 z.1)

    -- nothing is declared here
    no_labels : (names : List Name) (these others all : List A) → these ≡ [] → LabelsHold names others → all ≡ these ++ others → LabelsHold names all
    no_labels names these others all none h e = subst (LabelsHold names) (sym e) (subst (λ zs. LabelsHold names (zs ++ others)) (sym none) h)

    more_labels : (name : Name) (names : List Name) (these others all : List A) → LabelsHold (name ∷ names) these → LabelsHold names others → all ≡ these ++ others → LabelsHold (name ∷ names) all
    more_labels name names these others all h k e =
        subst (LabelsHold (name ∷ names)) (sym e) (all_append (λ x. LabelHolds P (name ∷ names) (label x)) these others h (other_labels name names others k))

  taken_holds : (k : ℕ) (w : World) → WorldHolds P w → WorldHolds P (take k w)
  taken_holds k w h = all_take (λ (x : Name × Meaning). MeaningHolds P x.1) k w h

  abbrev node_label : Node → Label
  node_label v = v.label

  abbrev arc_label : Arc → Label
  arc_label a = a.label

  label_of_node : (n : Name) (b : Option Braces) (c : Condition) (k : Key) (v : Node) → IsNode n b c k v → v.label ≡ label_at n b k
  label_of_node n b c k v is = ap (λ (z : Node). z.label) is

  nodes_hold : (w : World) (k : ℕ) (ds : List Declaration) (vs : List Node) → WorldHolds P w → DeclarationsHold P ds → InOrder AreNodesOf w k ds vs → LabelsHold node_label (nodes_in ds) vs
  nodes_hold w k [] vs h i e = subst (LabelsHold node_label []) (sym e) tt
  nodes_hold w k (node n b c ∷ ds) vs h i (these, others, (keys, is, all), more, j) =
      more_labels node_label n (nodes_in ds) these others vs
      (each_holds node_label (IsNode n b c) n (nodes_in ds) b (label_of_node n b c) keys these (indexed_hold P (take k w) b keys (taken_holds k w h) i.0.0 is) all) (nodes_hold w k ds others h i.1 more) j
  nodes_hold w k (set n ps ∷ ds) vs h i (these, others, is, more, j) = no_labels node_label (nodes_in ds) these others vs is (nodes_hold w (k + 1) ds others h i.1 more) j
  nodes_hold w k (param n b ps ∷ ds) vs h i (these, others, is, more, j) = no_labels node_label (nodes_in ds) these others vs is (nodes_hold w (k + 1) ds others h i.1 more) j
  nodes_hold w k (check b x ∷ ds) vs h i (these, others, is, more, j) = no_labels node_label (nodes_in ds) these others vs is (nodes_hold w k ds others h i.1 more) j
  nodes_hold w k (arc n b ps ∷ ds) vs h i (these, others, is, more, j) = no_labels node_label (nodes_in ds) these others vs is (nodes_hold w k ds others h i.1 more) j
  nodes_hold w k (objective minimizes n p ∷ ds) vs h i (these, others, is, more, j) = no_labels node_label (nodes_in ds) these others vs is (nodes_hold w k ds others h i.1 more) j

  arcs_hold : (o : Name) (w : World) (k : ℕ) (ds : List Declaration) (all : List Arc) → WorldHolds P w → DeclarationsHold P ds → InOrder (AreArcsOf o) w k ds all → LabelsHold arc_label (arcs_in ds) all
  arcs_hold o w k [] all h i e = subst (LabelsHold arc_label []) (sym e) tt
  arcs_hold o w k (arc n b ps ∷ ds) all h i (these, others, (keys, is, each), more, j) =
      more_labels arc_label n (arcs_in ds) these others all
      (each_holds arc_label (IsArc o n b ps) n (arcs_in ds) b (λ q a f. f.label) keys these (indexed_hold P (take k w) b keys (taken_holds k w h) i.0.0 is) each) (arcs_hold o w k ds others h i.1 more) j
  arcs_hold o w k (set n ps ∷ ds) all h i (these, others, is, more, j) = no_labels arc_label (arcs_in ds) these others all is (arcs_hold o w (k + 1) ds others h i.1 more) j
  arcs_hold o w k (param n b ps ∷ ds) all h i (these, others, is, more, j) = no_labels arc_label (arcs_in ds) these others all is (arcs_hold o w (k + 1) ds others h i.1 more) j
  arcs_hold o w k (check b x ∷ ds) all h i (these, others, is, more, j) = no_labels arc_label (arcs_in ds) these others all is (arcs_hold o w k ds others h i.1 more) j
  arcs_hold o w k (node n b c ∷ ds) all h i (these, others, is, more, j) = no_labels arc_label (arcs_in ds) these others all is (arcs_hold o w k ds others h i.1 more) j
  arcs_hold o w k (objective minimizes n p ∷ ds) all h i (these, others, is, more, j) = no_labels arc_label (arcs_in ds) these others all is (arcs_hold o w k ds others h i.1 more) j

  pub network_holds : (requested : Option Name) (w : World) (ds : List Declaration) (network : Network) → WorldHolds P w → DeclarationsHold P ds → IsNetwork requested w ds network
      → LabelsHold node_label (nodes_in ds) network.nodes × LabelsHold arc_label (arcs_in ds) network.arcs
  network_holds requested w ds network h i is = (nodes_hold w 0 ds network.nodes h i is.nodes, arcs_hold network.objective.name w 0 ds network.arcs h i is.arcs)
