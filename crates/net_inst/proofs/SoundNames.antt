-- If no name is declared twice, the names of nodes, those of arcs and those of objectives differ.
use Rattle.std.specs.Prelude.{◌≡◌, ◌⊎◌, ◌+◌, ℕ, false, List, [], ◌∷◌, ◌++◌, map}
use Rattle.std.specs.List.{AllByRecursion, IsDistinct, flat_map}
use Rattle.std.specs.Str.{bytes_eq}
use Rattle.std.proofs.Common.{refl, sym, subst, inl, inr}
use Rattle.net_tree.specs.Tree.{Declaration, set, param, check, node, arc, objective}
use Rattle.net_expr.specs.Worlds.{Name, World}
use Rattle.net_inst.specs.declared.network_names.Declared.{Declared}
use Rattle.net_inst.specs.AsWritten.{node_declared, arc_declared}
use Rattle.net_inst.specs.Laws.{same_name}
use Rattle.net_inst.specs.Readings.{Objective, objectives_from}
use Rattle.net_inst.specs.Soundness.{names_in}
use Rattle.net_inst.proofs.Zips.{distinct_of}

-- the names ns are some of the names ms, in the same order
abbrev IsSublist : List Name → List Name → Type 0
IsSublist ns [] = ns ≡ []
IsSublist ns (m ∷ ms) = IsSublist ns ms ⊎ ((rest : List Name) × (ns ≡ m ∷ rest) × IsSublist rest ms)

sub_all : (P : Name → Type 0) (ns ms : List Name) → IsSublist ns ms → AllByRecursion P ms → AllByRecursion P ns
sub_all P ns [] s h = subst (AllByRecursion P) (sym s) tt
sub_all P ns (m ∷ ms) (inl s) h = sub_all P ns ms s h.1
sub_all P ns (m ∷ ms) (inr (rest, e, s)) h = subst (AllByRecursion P) (sym e) (h.0, sub_all P rest ms s h.1)

sub_distinct : (ns ms : List Name) → IsSublist ns ms → IsDistinct bytes_eq ms → IsDistinct bytes_eq ns
unfolding IsDistinct
sub_distinct ns [] s h = subst (IsDistinct bytes_eq) (sym s) tt
sub_distinct ns (m ∷ ms) (inl s) h = sub_distinct ns ms s h.1
sub_distinct ns (m ∷ ms) (inr (rest, e, s)) h = subst (IsDistinct bytes_eq) (sym e) (sub_all (λ k. bytes_eq m k ≡ false) rest ms s h.0, sub_distinct rest ms s h.1)

abbrev names_of : List Declared → List Name
names_of ds = map (λ (d : Declared). d.name) ds

nodes_among : (ds : List Declaration) → IsSublist (names_of (flat_map node_declared ds)) (names_in ds)
nodes_among [] = refl
nodes_among (set t n ps e ∷ ds) = inl (nodes_among ds)
nodes_among (param t n b ps e ∷ ds) = inl (nodes_among ds)
nodes_among (check t b m x e ∷ ds) = nodes_among ds
nodes_among (node t n b c e ∷ ds) = inr (names_of (flat_map node_declared ds), refl, nodes_among ds)
nodes_among (arc t n b ps e ∷ ds) = inl (nodes_among ds)
nodes_among (objective t n p e ∷ ds) = inl (nodes_among ds)

arcs_among : (ds : List Declaration) → IsSublist (names_of (flat_map arc_declared ds)) (names_in ds)
arcs_among [] = refl
arcs_among (set t n ps e ∷ ds) = inl (arcs_among ds)
arcs_among (param t n b ps e ∷ ds) = inl (arcs_among ds)
arcs_among (check t b m x e ∷ ds) = arcs_among ds
arcs_among (node t n b c e ∷ ds) = inl (arcs_among ds)
arcs_among (arc t n b ps e ∷ ds) = inr (names_of (flat_map arc_declared ds), refl, arcs_among ds)
arcs_among (objective t n p e ∷ ds) = inl (arcs_among ds)

abbrev pub goal_names : List Objective → List Name
goal_names os = map (λ (o : Objective). o.name) os

objectives_among : (before : List Declared) (w : World) (k : ℕ) (ds : List Declaration) → IsSublist (goal_names (objectives_from before w k ds)) (names_in ds)
objectives_among before w k [] = refl
objectives_among before w k (set t n ps e ∷ ds) = inl (objectives_among (before ++ []) w (k + 1) ds)
objectives_among before w k (param t n b ps e ∷ ds) = inl (objectives_among (before ++ []) w (k + 1) ds)
objectives_among before w k (check t b m x e ∷ ds) = objectives_among (before ++ []) w k ds
objectives_among before w k (node t n b c e ∷ ds) = inl (objectives_among (before ++ []) w k ds)
objectives_among before w k (arc t n b ps e ∷ ds) = inl (objectives_among (before ++ arc_declared (arc t n b ps e)) w k ds)
objectives_among before w k (objective t n p e ∷ ds) = inr (goal_names (objectives_from (before ++ []) w k ds), refl, objectives_among (before ++ []) w k ds)

pub nodes_once : (ds : List Declaration) → IsDistinct bytes_eq (names_in ds) → IsDistinct same_name (flat_map node_declared ds)
nodes_once ds h = distinct_of same_name bytes_eq (λ d. d.name) (flat_map node_declared ds) (λ x y e. e) (sub_distinct (names_of (flat_map node_declared ds)) (names_in ds) (nodes_among ds) h)

pub arcs_once : (ds : List Declaration) → IsDistinct bytes_eq (names_in ds) → IsDistinct same_name (flat_map arc_declared ds)
arcs_once ds h = distinct_of same_name bytes_eq (λ d. d.name) (flat_map arc_declared ds) (λ x y e. e) (sub_distinct (names_of (flat_map arc_declared ds)) (names_in ds) (arcs_among ds) h)

pub objectives_once : (w : World) (ds : List Declaration) → IsDistinct bytes_eq (names_in ds) → IsDistinct bytes_eq (goal_names (objectives_from [] w 0 ds))
objectives_once w ds h = sub_distinct (goal_names (objectives_from [] w 0 ds)) (names_in ds) (objectives_among [] w 0 ds) h
