-- Where names and keys are declared once, no two labels are the same.
use Rattle.std.specs.Prelude.{◌≡◌, ◌&&◌, ◌||◌, ℕ, Bool, true, false, List, [], ◌∷◌, ◌++◌, map, take, Option, is_some, Ok, Err}
use Rattle.std.specs.List.{AllByRecursion, IsDistinct, list_any, flat_map}
use Rattle.std.specs.Str.{bytes_eq}
use Rattle.std.proofs.Common.{refl, ap, sym, ◌∙◌, subst}
use Rattle.std.proofs.lemmas.Map.Keys.{IsDistinct-head, IsDistinct-tail, IsDistinct-cons}
use Rattle.std.proofs.lemmas.Slice.Eq.{bytes_eq-Decides}
use Rattle.net_lex.specs.declared.token.Token.{Token}
use Rattle.net_sets.specs.Sets.{Tuple, same_tuple}
use Rattle.net_tree.specs.Tree.{Braces, Phrase, Declaration, set, param, check, node, arc, objective}
use Rattle.net_expr.specs.declared.row.Row.{Row}
use Rattle.net_expr.specs.Worlds.{Name, World}
use Rattle.net_inst.specs.declared.network_names.Declared.{Declared}
use Rattle.net_inst.specs.AsWritten.{WrittenLabel, WrittenNode, WrittenArc, rows_of, label_at, node_at_row, arc_at_row, nodes_of, arcs_with, arcs_of, known_after, in_order, node_declared, arc_declared, same_label}
use Rattle.net_expr.specs.Indexings.{indexing_in}
use Rattle.net_expr.specs.Rows.{keys_of}
use Rattle.net_inst.specs.Laws.{keys_by, HaveKeysOnce, same_name, AreDistinctAsDeclared}
use Rattle.net_base.specs.Outcomes.{Outcome}
use Rattle.net_inst.specs.Phrases.{Parts, parts_of}
use Rattle.net_inst.proofs.Zips.{map_map, map_join, distinct_after}

-- a name is among the declared ones
abbrev among : List Declared → Name → Bool
among ds n = list_any (λ (d : Declared). bytes_eq d.name n) ds

-- each label has a name among them
abbrev AreOf : List Declared → List WrittenLabel → Type 0
AreOf ds ls = AllByRecursion (λ l. among ds l.name ≡ true) ls

all_as : {A : Type 0} (P Q : A → Type 0) (xs : List A) → ((x : A) → P x → Q x) → AllByRecursion P xs → AllByRecursion Q xs
all_as P Q [] f h = tt
all_as P Q (x ∷ xs) f h = (f x h.0, all_as P Q xs f h.1)

pub all_join : {A : Type 0} (P : A → Type 0) (xs ys : List A) → AllByRecursion P xs → AllByRecursion P ys → AllByRecursion P (xs ++ ys)
all_join P [] ys h k = k
all_join P (x ∷ xs) ys h k = (h.0, all_join P xs ys h.1 k)

all_after : {A : Type 0} (P : A → Type 0) (xs ys : List A) → AllByRecursion P (xs ++ ys) → AllByRecursion P ys
all_after P [] ys h = h
all_after P (x ∷ xs) ys h = all_after P xs ys h.1

among_join : (ds es : List Declared) (n : Name) → among (ds ++ es) n ≡ (among ds n || among es n)
among_join [] es n = refl
among_join (d ∷ ds) es n = go (bytes_eq d.name n) (among_join ds es n)
  where
    go : (b : Bool) → among (ds ++ es) n ≡ (among ds n || among es n) → (b || among (ds ++ es) n) ≡ ((b || among ds n) || among es n)
    go true h = refl
    go false h = h

among_front : (ds es : List Declared) (n : Name) → among ds n ≡ true → among (ds ++ es) n ≡ true
among_front ds es n h = among_join ds es n ∙ ap (λ (b : Bool). b || among es n) h

among_after : (ds es : List Declared) (n : Name) → among es n ≡ true → among (ds ++ es) n ≡ true
among_after ds es n h = among_join ds es n ∙ ap (λ (b : Bool). among ds n || b) h ∙ either (among ds n)
  where
    either : (b : Bool) → (b || true) ≡ true
    either true = refl
    either false = refl

-- names that are declared apart differ
unlike_all : (n : Name) (es : List Declared) (m : Name) → AllByRecursion (λ (e : Declared). bytes_eq n e.name ≡ false) es → among es m ≡ true → bytes_eq n m ≡ false
unlike_all n [] m all h = cc
unlike_all n (e ∷ es) m all h = go (bytes_eq e.name m) refl h (unlike_all n es m all.1)
  where
    go : (b : Bool) → bytes_eq e.name m ≡ b → (b || among es m) ≡ true → (among es m ≡ true → bytes_eq n m ≡ false) → bytes_eq n m ≡ false
    go true f k more = ap (bytes_eq n) (sym ((bytes_eq-Decides e.name m).0 f)) ∙ all.0
    go false f k more = more k

names_apart : (ds es : List Declared) (n m : Name) → IsDistinct same_name (ds ++ es) → among ds n ≡ true → among es m ≡ true → bytes_eq n m ≡ false
names_apart [] es n m distinct h k = cc
names_apart (d ∷ ds) es n m distinct h k = go (bytes_eq d.name n) refl h (names_apart ds es n m (IsDistinct-tail same_name d (ds ++ es) distinct))
  where
    others : AllByRecursion (λ (e : Declared). bytes_eq d.name e.name ≡ false) es
    others = all_after (λ (e : Declared). bytes_eq d.name e.name ≡ false) ds es (IsDistinct-head same_name d (ds ++ es) distinct)

    go : (b : Bool) → bytes_eq d.name n ≡ b → (b || among ds n) ≡ true → (among ds n ≡ true → among es m ≡ true → bytes_eq n m ≡ false) → bytes_eq n m ≡ false
    go true f i more = ap (λ (z : Name). bytes_eq z m) (sym ((bytes_eq-Decides d.name n).0 f)) ∙ unlike_all d.name es m others k
    go false f i more = more i k

none_once : IsDistinct same_label []
unfolding IsDistinct
none_once = tt

distinct_join : (xs ys : List WrittenLabel) → IsDistinct same_label xs → IsDistinct same_label ys → AllByRecursion (λ x. AllByRecursion (λ y. same_label x y ≡ false) ys) xs → IsDistinct same_label (xs ++ ys)
distinct_join [] ys h k apart = k
distinct_join (x ∷ xs) ys h k apart =
    IsDistinct-cons same_label x (xs ++ ys) (all_join (λ y. same_label x y ≡ false) xs ys (IsDistinct-head same_label x xs h) apart.0) (distinct_join xs ys (IsDistinct-tail same_label x xs h) k apart.1)

-- labels with names apart
labels_apart : (ds es : List Declared) (xs ys : List WrittenLabel) → IsDistinct same_name (ds ++ es) → AreOf ds xs → AreOf es ys → AllByRecursion (λ x. AllByRecursion (λ y. same_label x y ≡ false) ys) xs
labels_apart ds es xs ys distinct h k =
    all_as (λ x. among ds x.name ≡ true) (λ x. AllByRecursion (λ y. same_label x y ≡ false) ys) xs
    (λ x i. all_as (λ y. among es y.name ≡ true) (λ y. same_label x y ≡ false) ys (λ y j. ap (λ (b : Bool). b && same_tuple x.key y.key) (names_apart ds es x.name y.name distinct i j)) k) h

-- what declarations label: each by a name of its own, and its keys once
pub record Labels (f : World → Declaration → List WrittenLabel) (g : Declaration → List Declared) : Type 0 where
  pub named : (w : World) (d : Declaration) → AreOf (g d) (f w d)
  pub once : (w : World) (d : Declaration) → IsDistinct same_tuple (keys_by w d) → IsDistinct same_label (f w d)

module _ (f : World → Declaration → List WrittenLabel) (g : Declaration → List Declared) (h : Labels f g) (w : World) where
  all_of : (k : ℕ) (ds : List Declaration) → AreOf (flat_map g ds) (in_order f w k ds)
  all_of k [] = tt
  all_of k (d ∷ ds) =
      all_join (λ l. among (g d ++ flat_map g ds) l.name ≡ true) (f (take k w) d) (in_order f w (known_after k d) ds)
      (all_as (λ l. among (g d) l.name ≡ true) (λ l. among (g d ++ flat_map g ds) l.name ≡ true) (f (take k w) d) (λ l i. among_front (g d) (flat_map g ds) l.name i) (h.named (take k w) d))
      (all_as (λ l. among (flat_map g ds) l.name ≡ true) (λ l. among (g d ++ flat_map g ds) l.name ≡ true) (in_order f w (known_after k d) ds) (λ l i. among_after (g d) (flat_map g ds) l.name i) (all_of (known_after k d) ds))

  labelled_once : (k : ℕ) (ds : List Declaration) → HaveKeysOnce w k ds → IsDistinct same_name (flat_map g ds) → IsDistinct same_label (in_order f w k ds)
  labelled_once k [] keys names = none_once
  labelled_once k (d ∷ ds) keys names =
      distinct_join (f (take k w) d) (in_order f w (known_after k d) ds) (h.once (take k w) d keys.0) (labelled_once (known_after k d) ds keys.1 (distinct_after same_name (g d) (flat_map g ds) names))
      (labels_apart (g d) (flat_map g ds) (f (take k w) d) (in_order f w (known_after k d) ds) names (h.named (take k w) d) (all_of (known_after k d) ds))

-- the labels of one declaration
rows_named : (n : Token) (b : Option Braces) (rows : List Row) (d : Declared) → d.name ≡ n.text → AreOf (d ∷ []) (map (label_at n b) rows)
rows_named n b [] d e = tt
rows_named n b (row ∷ rows) d e = (ap (λ (t : Bool). t || false) (ap (λ (z : Name). bytes_eq z n.text) e ∙ (bytes_eq-Decides n.text n.text).1 refl), rows_named n b rows d e)

rows_once : (n : Token) (b : Option Braces) (rows : List Row) → IsDistinct same_tuple (keys_of rows) → IsDistinct same_label (map (label_at n b) rows)
rows_once n b [] h = none_once
rows_once n b (row ∷ rows) h =
    IsDistinct-cons same_label (label_at n b row) (map (label_at n b) rows) (go rows (IsDistinct-head same_tuple row.key (keys_of rows) h)) (rows_once n b rows (IsDistinct-tail same_tuple row.key (keys_of rows) h))
  where
    none : (b : Bool) → (b && false) ≡ false
    none true = refl
    none false = refl

    go : (more : List Row) → AllByRecursion (λ (t : Tuple). same_tuple row.key t ≡ false) (keys_of more) → AllByRecursion (λ (l : WrittenLabel). same_label (label_at n b row) l ≡ false) (map (label_at n b) more)
    go [] i = tt
    go (r ∷ more) i = (ap (λ (t : Bool). bytes_eq n.text n.text && t) i.0 ∙ none (bytes_eq n.text n.text), go more i.1)

abbrev node_labels_of : World → Declaration → List WrittenLabel
node_labels_of w d = map (λ (v : WrittenNode). v.label) (nodes_of w d)

abbrev arc_labels_of : World → Declaration → List WrittenLabel
arc_labels_of w d = map (λ (v : WrittenArc). v.label) (arcs_of w d)

nodes_labelled : Labels node_labels_of node_declared
nodes_labelled = record { named = named; once = once }
  where
    named : (w : World) (d : Declaration) → AreOf (node_declared d) (node_labels_of w d)
    named w (set t n ps e) = tt
    named w (param t n b ps e) = tt
    named w (check t b m x e) = tt
    named w (node t n b c e) = subst (AreOf (node_declared (node t n b c e))) (sym (map_map (λ (v : WrittenNode). v.label) (node_at_row w n b c) (rows_of (indexing_in w b)))) (rows_named n b (rows_of (indexing_in w b)) (record { name = n.text; indexed = is_some b }) refl)
    named w (arc t n b ps e) = tt
    named w (objective t n p e) = tt

    once : (w : World) (d : Declaration) → IsDistinct same_tuple (keys_by w d) → IsDistinct same_label (node_labels_of w d)
    once w (set t n ps e) h = none_once
    once w (param t n b ps e) h = none_once
    once w (check t b m x e) h = none_once
    once w (node t n b c e) h = subst (IsDistinct same_label) (sym (map_map (λ (v : WrittenNode). v.label) (node_at_row w n b c) (rows_of (indexing_in w b)))) (rows_once n b (rows_of (indexing_in w b)) h)
    once w (arc t n b ps e) h = none_once
    once w (objective t n p e) h = none_once

arcs_labelled : Labels arc_labels_of arc_declared
arcs_labelled = record { named = named; once = once }
  where
    by_parts : (w : World) (n : Token) (b : Option Braces) (ps : List Phrase) (p : Parts) → map (label_at n b) (rows_of (indexing_in w b)) ≡ map (λ (v : WrittenArc). v.label) (map (arc_at_row w n b ps p) (rows_of (indexing_in w b)))
    by_parts w n b ps p = sym (map_map (λ (v : WrittenArc). v.label) (arc_at_row w n b ps p) (rows_of (indexing_in w b)))

    named_with : (w : World) (n : Token) (b : Option Braces) (ps : List Phrase) (d : Declared) → d.name ≡ n.text → (o : Outcome Parts) → AreOf (d ∷ []) (map (λ (v : WrittenArc). v.label) (arcs_with w n b ps o))
    named_with w n b ps d e (Ok p) = subst (AreOf (d ∷ [])) (by_parts w n b ps p) (rows_named n b (rows_of (indexing_in w b)) d e)
    named_with w n b ps d e (Err r) = tt

    named : (w : World) (d : Declaration) → AreOf (arc_declared d) (arc_labels_of w d)
    named w (set t n ps e) = tt
    named w (param t n b ps e) = tt
    named w (check t b m x e) = tt
    named w (node t n b c e) = tt
    named w (arc t n b ps e) = named_with w n b ps (record { name = n.text; indexed = is_some b }) refl (parts_of n ps)
    named w (objective t n p e) = tt

    once_with : (w : World) (n : Token) (b : Option Braces) (ps : List Phrase) (o : Outcome Parts) → IsDistinct same_tuple (keys_of (rows_of (indexing_in w b))) → IsDistinct same_label (map (λ (v : WrittenArc). v.label) (arcs_with w n b ps o))
    once_with w n b ps (Ok p) h = subst (IsDistinct same_label) (by_parts w n b ps p) (rows_once n b (rows_of (indexing_in w b)) h)
    once_with w n b ps (Err r) h = none_once

    once : (w : World) (d : Declaration) → IsDistinct same_tuple (keys_by w d) → IsDistinct same_label (arc_labels_of w d)
    once w (set t n ps e) h = none_once
    once w (param t n b ps e) h = none_once
    once w (check t b m x e) h = none_once
    once w (node t n b c e) h = none_once
    once w (arc t n b ps e) h = once_with w n b ps (parts_of n ps) h
    once w (objective t n p e) h = none_once

labels_in_order : {A : Type 0} (f : World → Declaration → List A) (v : A → WrittenLabel) (w : World) (k : ℕ) (ds : List Declaration) → in_order (λ u d. map v (f u d)) w k ds ≡ map v (in_order f w k ds)
labels_in_order f v w k [] = refl
labels_in_order f v w k (d ∷ ds) = ap (λ (ls : List WrittenLabel). map v (f (take k w) d) ++ ls) (labels_in_order f v w (known_after k d) ds) ∙ sym (map_join v (f (take k w) d) (in_order f w (known_after k d) ds))

pub are_distinct_as_declared : AreDistinctAsDeclared
are_distinct_as_declared w ds h = record {
  nodes = subst (IsDistinct same_label) (labels_in_order nodes_of (λ (v : WrittenNode). v.label) w 0 ds) (labelled_once node_labels_of node_declared nodes_labelled w 0 ds h.keys h.nodes);
  arcs = subst (IsDistinct same_label) (labels_in_order arcs_of (λ (v : WrittenArc). v.label) w 0 ds) (labelled_once arc_labels_of arc_declared arcs_labelled w 0 ds h.keys h.arcs);
}
