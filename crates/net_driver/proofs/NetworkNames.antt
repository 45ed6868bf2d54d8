-- The names of a compiled model are those of the network that its inputs mean.
use Rattle.std.specs.Prelude.{◌≡◌, ◌+◌, ℕ, zero, suc, Bool, true, false, not, List, [], ◌∷◌, ◌++◌, map, slice_get, Option, Some}
use Rattle.std.specs.List.{AllByRecursion, AllZip, IsDistinct, flat_map, position_or_len}
use Rattle.std.specs.Str.{bytes_eq}
use Rattle.std.proofs.Common.{cond, refl, ap, sym, ◌∙◌, subst, arith}
use Rattle.std.proofs.lemmas.Slice.Eq.{bytes_eq-Decides}
use Rattle.net_tree.specs.Erasure.{declaration, declarations}
use Rattle.net_tree.specs.Tree.{Declaration, set, param, check, node, arc, objective}
use Rattle.net_expr.specs.Worlds.{Name}
use Rattle.net_meaning.specs.Network as meaning
use Rattle.net_meaning.proofs.Erased.{indexed_is}
use Rattle.net_inst.specs.AsWritten as written
use Rattle.net_inst.specs.AsWritten.{nodes, arcs}
use Rattle.net_inst.specs.Instances.{seen_as}
use Rattle.net_inst.specs.Laws.{IsKeyOf, AreNames, same_name}
use Rattle.net_inst.specs.Lists.{Key, Listed}
use Rattle.net_inst.specs.Soundness.{IsSameNode, IsSameArc, HasNetwork}
use Rattle.net_inst.specs.declared.network_names.Declared.{Declared}
use Rattle.net_driver.specs.declared.compiled.Compiled.{Compiled}
use Rattle.net_driver.specs.IsBuilt.{IsBuilt}
use Rattle.net_driver.specs.Meaning.{node_declared, arc_declared, key_in, listed, network_names}
use Rattle.net_driver.proofs.NamesOnce.{nodes_once, arcs_once}

-- ---- labels

-- the label as a record of net_inst, which has the same fields
abbrev listed_label : meaning.Label → written.WrittenLabel
listed_label l = record { name = l.name; indexed = l.indexed; key = l.key }

one_label : (m : written.WrittenLabel) (l : meaning.Label) → l.name ≡ m.name → l.indexed ≡ m.indexed → l.key ≡ m.key → m ≡ listed_label l
one_label m l name indexed key = λ t. record { name = sym name t; indexed = sym indexed t; key = sym key t }

node_labels : (ns : List written.WrittenNode) (vs : List meaning.Node) → AllZip IsSameNode ns vs → map (λ (n : written.WrittenNode). n.label) ns ≡ map listed_label (map (λ (v : meaning.Node). v.label) vs)
node_labels [] [] h = refl
node_labels [] (v ∷ vs) h = absurd h
node_labels (n ∷ ns) [] h = absurd h
node_labels (n ∷ ns) (v ∷ vs) h =
    let one = one_label n.label v.label h.0.name h.0.indexed h.0.key in
    let more = node_labels ns vs h.1 in
    λ t. one t ∷ more t

arc_labels : (xs : List written.WrittenArc) (all : List meaning.Arc) → AllZip IsSameArc xs all → map (λ (x : written.WrittenArc). x.label) xs ≡ map listed_label (map (λ (a : meaning.Arc). a.label) all)
arc_labels [] [] h = refl
arc_labels [] (a ∷ all) h = absurd h
arc_labels (x ∷ xs) [] h = absurd h
arc_labels (x ∷ xs) (a ∷ all) h =
    let one = one_label x.label a.label h.0.name h.0.indexed h.0.key in
    let more = arc_labels xs all h.1 in
    λ t. one t ∷ more t

-- ---- declared names

nodes_are_declared : (ds : List Declaration) → flat_map node_declared (declarations ds) ≡ flat_map written.node_declared ds
nodes_are_declared [] = refl
nodes_are_declared (d ∷ ds) = ap (λ names. names ++ flat_map node_declared (declarations ds)) (one d) ∙ ap (λ names. written.node_declared d ++ names) (nodes_are_declared ds)
  where
    one : (d : Declaration) → node_declared (declaration d) ≡ written.node_declared d
    one (node t n b c e) = ap (λ i. (record { name = n.text; indexed = i }) ∷ []) (indexed_is b)
    one (set t n ps e) = refl
    one (param t n b ps e) = refl
    one (check t b m x e) = refl
    one (arc t n b ps e) = refl
    one (objective t n p e) = refl

arcs_are_declared : (ds : List Declaration) → flat_map arc_declared (declarations ds) ≡ flat_map written.arc_declared ds
arcs_are_declared [] = refl
arcs_are_declared (d ∷ ds) = ap (λ names. names ++ flat_map arc_declared (declarations ds)) (one d) ∙ ap (λ names. written.arc_declared d ++ names) (arcs_are_declared ds)
  where
    one : (d : Declaration) → arc_declared (declaration d) ≡ written.arc_declared d
    one (arc t n b ps e) = ap (λ i. (record { name = n.text; indexed = i }) ∷ []) (indexed_is b)
    one (set t n ps e) = refl
    one (param t n b ps e) = refl
    one (check t b m x e) = refl
    one (node t n b c e) = refl
    one (objective t n p e) = refl

-- ---- the index of a declaration

-- a declaration in the list has another name than those before it
name_differs : (x d : Declared) (xs : List Declared) (i : ℕ) → AllByRecursion (λ (e : Declared). same_name x e ≡ false) xs → slice_get xs i ≡ Some d → bytes_eq x.name d.name ≡ false
name_differs x d [] i h e = absurd (let k = e in cc)
name_differs x d (y ∷ xs) zero h e = let same : y ≡ d = cc in ap (λ (z : Declared). bytes_eq x.name z.name) (sym same) ∙ h.0
name_differs x d (y ∷ xs) (suc i) h e = name_differs x d xs i h.1 e

abbrev first_with : Name → List Declared → ℕ
first_with n declared = position_or_len (λ (e : Declared). bytes_eq e.name n) declared

first_is : (declared : List Declared) (i : ℕ) (d : Declared) → IsDistinct same_name declared → slice_get declared i ≡ Some d → first_with d.name declared ≡ i
unfolding IsDistinct
first_is [] i d once e = absurd (let k = e in cc)
first_is (x ∷ declared) zero d once e =
    let same : x ≡ d = cc in
    let own : bytes_eq x.name d.name ≡ true = (bytes_eq-Decides x.name d.name).1 (ap (λ (z : Declared). z.name) same) in
    ap (λ (b : Bool). cond (not b) (1 + first_with d.name declared) 0) own
first_is (x ∷ declared) (suc i) d once e =
    let rest : 1 + first_with d.name declared ≡ suc i = omega (arith, first_is declared i d once.1 e) in
    ap (λ (b : Bool). cond (not b) (1 + first_with d.name declared) 0) (name_differs x d declared i once.0 e) ∙ rest

keys_are_listed : (declared : List Declared) (labels : List meaning.Label) (keys : List Key) → IsDistinct same_name declared → AllZip (IsKeyOf declared) (map listed_label labels) keys → keys ≡ map (key_in declared) labels
keys_are_listed declared [] [] once h = refl
keys_are_listed declared [] (k ∷ keys) once h = absurd h
keys_are_listed declared (l ∷ labels) [] once h = absurd h
keys_are_listed declared (l ∷ labels) (k ∷ keys) once h =
    let index = sym (first_is declared k.declaration (record { name = l.name; indexed = l.indexed }) once h.0.declaration) in
    let key = h.0.key in
    let rest = keys_are_listed declared labels keys once h.1 in
    λ t. record { declaration = index t; tuple = key t } ∷ rest t

are_listed : (declared : List Declared) (labels : List meaning.Label) (l : Listed) → IsDistinct same_name declared → AreNames declared (map listed_label labels) l → l ≡ listed declared labels
are_listed declared labels l once h =
    let same = h.declarations in
    let keys = keys_are_listed declared labels l.keys once h.keys in
    λ t. record { declarations = same t; keys = keys t }

-- ---- compiled models

pub names_are_listed : (lean : Bool) (wanted : Option Name) (m d : List ℕ) (c : Compiled) (h : IsBuilt lean wanted m d c) (has : HasNetwork wanted h.world h.declarations (seen_as h.made))
    → c.names ≡ network_names (declarations h.declarations) has.network
names_are_listed lean wanted m d c h has = λ t. record { objective = own t; nodes = nodes_listed t; arcs = arcs_listed t }
  where
    own : c.names.objective ≡ has.network.objective.name
    own = ap (λ n. n.objective) h.names ∙ sym has.same_name

    node_names : List meaning.Label
    node_names = map (λ (v : meaning.Node). v.label) has.network.nodes

    nodes_listed : c.names.nodes ≡ listed (flat_map node_declared (declarations h.declarations)) node_names
    nodes_listed =
        let labels = node_labels (nodes h.world h.declarations) has.network.nodes has.same_nodes in
        subst (λ declared. c.names.nodes ≡ listed declared node_names) (sym (nodes_are_declared h.declarations))
        (are_listed (flat_map written.node_declared h.declarations) node_names c.names.nodes (nodes_once h.declarations h.accepts.model.named)
        (subst (λ ls. AreNames (flat_map written.node_declared h.declarations) ls c.names.nodes) labels h.node_names))

    arc_names : List meaning.Label
    arc_names = map (λ (a : meaning.Arc). a.label) has.network.arcs

    arcs_listed : c.names.arcs ≡ listed (flat_map arc_declared (declarations h.declarations)) arc_names
    arcs_listed =
        let labels = arc_labels (arcs h.world h.declarations) has.network.arcs has.same_arcs in
        subst (λ declared. c.names.arcs ≡ listed declared arc_names) (sym (arcs_are_declared h.declarations))
        (are_listed (flat_map written.arc_declared h.declarations) arc_names c.names.arcs (arcs_once h.declarations h.accepts.model.named)
        (subst (λ ls. AreNames (flat_map written.arc_declared h.declarations) ls c.names.arcs) labels h.arc_names))
