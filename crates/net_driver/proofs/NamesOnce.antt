-- A model whose names are as they should be declares no name twice.
use Rattle.std.specs.Prelude.{◌≡◌, false, List, [], ◌∷◌, ◌++◌, Option, None, Some}
use Rattle.std.specs.List.{AllByRecursion, IsDistinct, flat_map}
use Rattle.std.specs.Str.{bytes_eq}
use Rattle.std.proofs.Common.{refl, ap, sym, ◌∙◌}
use Rattle.std.proofs.lemmas.Map.Keys.{IsDistinct-cons}
use Rattle.net_lex.specs.declared.token.Token.{Token}
use Rattle.net_tree.specs.Tree.{Declaration, set, param, check, node, arc, objective}
use Rattle.net_names.specs.declared.meaning.Meaning.{Meaning}
use Rattle.net_names.specs.Names.{declaration_fault, declared, with_declared, with_declaration, names_fault, IsWellNamed}
use Rattle.net_names.specs.Scopes.{NameScope, meaning_in}
use Rattle.net_names.specs.Reported.{Fault, first, declared_before}
use Rattle.net_expr.proofs.Walked.{all_as}
use Rattle.net_bind.proofs.NewNames.{firsts, none_before, parts}
use Rattle.net_inst.specs.declared.network_names.Declared.{Declared}
use Rattle.net_inst.specs.AsWritten.{node_declared, arc_declared}
use Rattle.net_inst.specs.Laws.{same_name}

none_once : IsDistinct same_name []
unfolding IsDistinct
none_once = tt

-- what is declared here meant nothing before
new_by : (s : NameScope) (t : Token) (later : Option Fault) → first (declared_before (meaning_in t.text s) t) later ≡ None → meaning_in t.text s ≡ None
new_by s t later h = none_before (meaning_in t.text s) t (firsts (declared_before (meaning_in t.text s) t) later h).0

pub new_here : (s : NameScope) (d : Declaration) (p : Token × Meaning) → declaration_fault s d ≡ None → declared d ≡ Some p → meaning_in p.0.text s ≡ None
new_here s (set w t ps e) p h i = let same : t ≡ p.0 = cc in ap (λ (u : Token). meaning_in u.text s) (sym same) ∙ new_by s t _ h
new_here s (param w t b ps e) p h i = let same : t ≡ p.0 = cc in ap (λ (u : Token). meaning_in u.text s) (sym same) ∙ new_by s t _ h
new_here s (check w b m x e) p h i = cc
new_here s (node w t b c e) p h i = let same : t ≡ p.0 = cc in ap (λ (u : Token). meaning_in u.text s) (sym same) ∙ new_by s t _ h
new_here s (arc w t b ps e) p h i = let same : t ≡ p.0 = cc in ap (λ (u : Token). meaning_in u.text s) (sym same) ∙ new_by s t _ h
new_here s (objective w t q e) p h i = let same : t ≡ p.0 = cc in ap (λ (u : Token). meaning_in u.text s) (sym same) ∙ new_by s t _ h

-- a list is empty, or has the declared name alone
abbrev IsNamed : Option (Token × Meaning) → List Declared → Type 0
IsNamed o [] = Unit {0}
IsNamed None (e ∷ es) = ⊥
IsNamed (Some p) (e ∷ []) = e.name ≡ p.0.text
IsNamed (Some p) (e ∷ x ∷ es) = ⊥

-- none of these names means anything so far
abbrev AreUnknown : NameScope → List Declared → Type 0
AreUnknown s es = AllByRecursion (λ (e : Declared). meaning_in e.name s ≡ None) es

-- names that mean nothing so far, no two of which are the same
record AreNewOnce (s : NameScope) (es : List Declared) : Type 0 where
  pub unknown : AreUnknown s es
  pub once : IsDistinct same_name es

once_more : (s : NameScope) (o : Option (Token × Meaning)) (here later : List Declared) → ((p : Token × Meaning) → o ≡ Some p → meaning_in p.0.text s ≡ None) → IsNamed o here
    → AreNewOnce (with_declared s o) later → AreNewOnce s (here ++ later)
once_more s None [] later new is h = h
once_more s None (e ∷ es) later new is h = absurd is
once_more s (Some p) [] later new is h =
    record { unknown = all_as (λ (e : Declared). meaning_in e.name (s ++ (p.0.text, p.1) ∷ []) ≡ None) (λ e. meaning_in e.name s ≡ None) later (λ e i. (parts e.name p.0.text p.1 s i).0) h.unknown; once = h.once }
once_more s (Some p) (e ∷ []) later new is h = record {
  unknown = (
    ap (λ n. meaning_in n s) is ∙ new p refl,
    all_as (λ (x : Declared). meaning_in x.name (s ++ (p.0.text, p.1) ∷ []) ≡ None) (λ x. meaning_in x.name s ≡ None) later (λ x i. (parts x.name p.0.text p.1 s i).0) h.unknown,
  );
  once = IsDistinct-cons same_name e later
      (all_as (λ (x : Declared). meaning_in x.name (s ++ (p.0.text, p.1) ∷ []) ≡ None) (λ x. same_name e x ≡ false) later (λ x i. ap (λ n. bytes_eq n x.name) is ∙ (parts x.name p.0.text p.1 s i).1) h.unknown) h.once;
}
once_more s (Some p) (e ∷ x ∷ es) later new is h = absurd is

all_once : (f : Declaration → List Declared) → ((d : Declaration) → IsNamed (declared d) (f d)) → (s : NameScope) (ds : List Declaration) → names_fault s ds ≡ None → AreNewOnce s (flat_map f ds)
all_once f named s [] h = record { unknown = tt; once = none_once }
all_once f named s (d ∷ ds) h =
    let q = firsts (declaration_fault s d) (names_fault (with_declaration s d) ds) h in
    once_more s (declared d) (f d) (flat_map f ds) (λ p i. new_here s d p q.0 i) (named d) (all_once f named (with_declaration s d) ds q.1)

nodes_named : (d : Declaration) → IsNamed (declared d) (node_declared d)
nodes_named (set w t ps e) = tt
nodes_named (param w t b ps e) = tt
nodes_named (check w b m x e) = tt
nodes_named (node w t b c e) = refl
nodes_named (arc w t b ps e) = tt
nodes_named (objective w t p e) = tt

arcs_named : (d : Declaration) → IsNamed (declared d) (arc_declared d)
arcs_named (set w t ps e) = tt
arcs_named (param w t b ps e) = tt
arcs_named (check w b m x e) = tt
arcs_named (node w t b c e) = tt
arcs_named (arc w t b ps e) = refl
arcs_named (objective w t p e) = tt

pub nodes_once : (ds : List Declaration) → IsWellNamed ds → IsDistinct same_name (flat_map node_declared ds)
nodes_once ds h = (all_once node_declared nodes_named [] ds h).once

pub arcs_once : (ds : List Declaration) → IsWellNamed ds → IsDistinct same_name (flat_map arc_declared ds)
arcs_once ds h = (all_once arc_declared arcs_named [] ds h).once
