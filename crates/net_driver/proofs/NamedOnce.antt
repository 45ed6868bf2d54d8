-- The rules for names that give a model its network: no name is declared twice, and each `obj` phrase names an objective declared before it.
use Rattle.std.specs.Prelude.{◌≡◌, Bool, true, false, List, [], ◌∷◌, ◌++◌, Option, None, Some, is_none, if◌then◌else◌}
use Rattle.std.specs.List.{AllByRecursion, IsDistinct}
use Rattle.std.specs.Str.{bytes_eq}
use Rattle.std.proofs.Common.{refl, sym, subst, inl, inr}
use Rattle.std.proofs.lemmas.Map.Keys.{IsDistinct-cons}
use Rattle.std.proofs.lemmas.Slice.Eq.{bytes_eq-Decides}
use Rattle.net_lex.specs.declared.token.Token.{Token}
use Rattle.net_tree.specs.Items.{single_name, sides}
use Rattle.net_tree.specs.Role.{role_of}
use Rattle.net_tree.specs.Tree.{Tree, tuple, Links, none, link, Braces, empty, filled, Body, plain, valued, priced, Phrase, Declaration, set, param, check, node, arc, objective}
use Rattle.net_names.specs.declared.meaning.Meaning.{Meaning}
use Rattle.net_names.specs.declared.meaning.Meaning.TheVariants as meanings
use Rattle.net_names.specs.declared.meaning.Need.{Need}
use Rattle.net_names.specs.declared.meaning.Need.TheVariants as needs
use Rattle.net_names.specs.Dummies.{with_bare, with_component, with_components, with_left, with_sides, with_item, with_items, with_indexing}
use Rattle.net_names.specs.Meanings.{error_code_of}
use Rattle.net_names.specs.Names.{body_fault, phrases_fault, need_after, indexing_fault, declaration_fault, declared, with_declared, with_declaration, objective_meaning, names_fault, IsWellNamed}
use Rattle.net_names.specs.Scopes.{Name, NameScope, meaning_in}
use Rattle.net_names.specs.Reported.{at_name, name_fault, declared_before}
use Rattle.net_expr.proofs.Walked.{all_as}
use Rattle.net_bind.proofs.NewNames.{firsts, parts}
use Rattle.net_inst.specs.Soundness.{IsListed, NamesObjective, NameObjectives, names_in, IsNamedOnce}
use Rattle.net_driver.proofs.NamesOnce.{new_here}

-- ---- declared names

-- names that mean nothing so far, no two of which are the same
record AreNewNames (s : NameScope) (ns : List Name) : Type 0 where
  unknown : AllByRecursion (λ n. meaning_in n s ≡ None) ns
  once : IsDistinct bytes_eq ns

no_names : IsDistinct bytes_eq []
unfolding IsDistinct
no_names = tt

-- the name that a declaration declares, if it declares one
abbrev name_of : Option (Token × Meaning) → List Name
name_of None = []
name_of (Some p) = p.0.text ∷ []

names_split : (d : Declaration) (ds : List Declaration) → names_in (d ∷ ds) ≡ name_of (declared d) ++ names_in ds
names_split (set w t ps e) ds = refl
names_split (param w t b ps e) ds = refl
names_split (check w b m x e) ds = refl
names_split (node w t b c e) ds = refl
names_split (arc w t b ps e) ds = refl
names_split (objective w t p e) ds = refl

one_name : (s : NameScope) (o : Option (Token × Meaning)) (later : List Name) → ((p : Token × Meaning) → o ≡ Some p → meaning_in p.0.text s ≡ None) → AreNewNames (with_declared s o) later → AreNewNames s (name_of o ++ later)
one_name s None later new h = h
one_name s (Some p) later new h = record {
  unknown = (new p refl, all_as (λ n. meaning_in n (s ++ (p.0.text, p.1) ∷ []) ≡ None) (λ n. meaning_in n s ≡ None) later (λ n i. (parts n p.0.text p.1 s i).0) h.unknown);
  once = IsDistinct-cons bytes_eq p.0.text later (all_as (λ n. meaning_in n (s ++ (p.0.text, p.1) ∷ []) ≡ None) (λ n. bytes_eq p.0.text n ≡ false) later (λ n i. (parts n p.0.text p.1 s i).1) h.unknown) h.once;
}

all_names : (s : NameScope) (ds : List Declaration) → names_fault s ds ≡ None → AreNewNames s (names_in ds)
all_names s [] h = record { unknown = tt; once = no_names }
all_names s (d ∷ ds) h =
    let q = firsts (declaration_fault s d) (names_fault (with_declaration s d) ds) h in
    subst (AreNewNames s) (sym (names_split d ds)) (one_name s (declared d) (names_in ds) (λ p i. new_here s d p q.0 i) (all_names (with_declaration s d) ds q.1))

-- ---- objectives

-- the names of the scope that are objectives without an expression are listed
abbrev AreListed : List Name → NameScope → Type 0
AreListed before s = AllByRecursion (λ (e : Name × Meaning). e.1 ≡ meanings.Objective → IsListed before e.0) s

listed_more : (before : List Name) (s : NameScope) (n : Name) (m : Meaning) → AreListed before s → (m ≡ meanings.Objective → IsListed before n) → AreListed before (s ++ (n, m) ∷ [])
listed_more before [] n m h k = (k, tt)
listed_more before (e ∷ s) n m h k = (h.0, listed_more before s n m h.1 k)

listed_found : (before : List Name) (s : NameScope) (n : Name) → AreListed before s → meaning_in n s ≡ Some meanings.Objective → IsListed before n
listed_found before [] n h i = cc
listed_found before (e ∷ s) n h i = go (bytes_eq e.0 n) refl i (listed_found before s n h.1)
  where
    go : (b : Bool) → bytes_eq e.0 n ≡ b → (if b then Some e.1 else meaning_in n s) ≡ Some meanings.Objective → (meaning_in n s ≡ Some meanings.Objective → IsListed before n) → IsListed before n
    go true f j more = subst (IsListed before) ((bytes_eq-Decides e.0 n).0 f) (h.0 (let same : e.1 ≡ meanings.Objective = cc in same))
    go false f j more = more j

-- dummies are not objectives
module _ (before : List Name) where
  listed_bare : (s : NameScope) (o : Option Token) → AreListed before s → AreListed before (with_bare s o)
  listed_bare s None h = h
  listed_bare s (Some t) h = go (meaning_in t.text s)
    where
      go : (o : Option Meaning) → AreListed before (if is_none o then s ++ (t.text, meanings.Dummy) ∷ [] else s)
      go None = listed_more before s t.text meanings.Dummy h (λ i. absurd (let e = i in cc))
      go (Some m) = h

  listed_component : (s : NameScope) (x : Tree) → AreListed before s → AreListed before (with_component s x)
  listed_component s x h = listed_bare s (single_name x) h

  listed_components : (s : NameScope) (l : Links) → AreListed before s → AreListed before (with_components s l)
  listed_components s none h = h
  listed_components s (link o x l) h = listed_components (with_component s x) l (listed_component s x h)

  listed_left : (s : NameScope) (x : Tree) → AreListed before s → AreListed before (with_left s x)
  listed_left s (tuple o x l c) h = listed_components (with_component s x) l (listed_component s x h)
  listed_left s x h = listed_component s x h

  listed_sides : (s : NameScope) (o : Option (Tree × Tree)) → AreListed before s → AreListed before (with_sides s o)
  listed_sides s None h = h
  listed_sides s (Some p) h = listed_left s p.0 h

  listed_item : (s : NameScope) (x : Tree) → AreListed before s → AreListed before (with_item s x)
  listed_item s x h = listed_sides s (sides x) h

  listed_items : (s : NameScope) (l : Links) → AreListed before s → AreListed before (with_items s l)
  listed_items s none h = h
  listed_items s (link o x l) h = listed_items (with_item s x) l (listed_item s x h)

  listed_indexing : (s : NameScope) (b : Option Braces) → AreListed before s → AreListed before (with_indexing s b)
  listed_indexing s None h = h
  listed_indexing s (Some (empty o p c)) h = h
  listed_indexing s (Some (filled o x l p c)) h = listed_items (with_item s x) l (listed_item s x h)

objective_needed : (o : Option Meaning) (t : Token) → at_name (error_code_of needs.Objective o) t ≡ None → o ≡ Some meanings.Objective
objective_needed None t h = cc
objective_needed (Some meanings.Set) t h = cc
objective_needed (Some meanings.Param) t h = cc
objective_needed (Some meanings.Node) t h = cc
objective_needed (Some meanings.Arc) t h = cc
objective_needed (Some meanings.Objective) t h = refl
objective_needed (Some meanings.StatedObjective) t h = cc
objective_needed (Some meanings.Dummy) t h = cc

body_priced : (before : List Name) (s : NameScope) (n : Need) (b : Body) → AreListed before s → body_fault n s b ≡ None → NamesObjective before b
body_priced before s n plain h f = tt
body_priced before s n (valued x) h f = tt
body_priced before s n (priced t x) h f = listed_found before s t.text h (objective_needed (meaning_in t.text s) t (firsts (name_fault needs.Objective s t) _ f).0)

phrases_priced : (before : List Name) (s : NameScope) (ps : List Phrase) → AreListed before s → phrases_fault s ps ≡ None → AllByRecursion (λ (p : Phrase). NamesObjective before p.body) ps
phrases_priced before s [] h f = tt
phrases_priced before s (p ∷ ps) h f =
    let q = firsts (body_fault (need_after (role_of p.word)) s p.body) (phrases_fault s ps) f in
    (body_priced before s (need_after (role_of p.word)) p.body h q.0, phrases_priced before s ps h q.1)

all_priced : (before : List Name) (s : NameScope) (ds : List Declaration) → AreListed before s → names_fault s ds ≡ None → NameObjectives before ds
all_priced before s [] h f = tt
all_priced before s (set w t ps e ∷ ds) h f =
    all_priced before (s ++ (t.text, meanings.Set) ∷ []) ds (listed_more before s t.text meanings.Set h (λ i. absurd (let e = i in cc))) (firsts (declaration_fault s (set w t ps e)) _ f).1
all_priced before s (param w t b ps e ∷ ds) h f =
    all_priced before (s ++ (t.text, meanings.Param) ∷ []) ds (listed_more before s t.text meanings.Param h (λ i. absurd (let e = i in cc))) (firsts (declaration_fault s (param w t b ps e)) _ f).1
all_priced before s (check w b m x e ∷ ds) h f = all_priced before s ds h (firsts (declaration_fault s (check w b m x e)) _ f).1
all_priced before s (node w t b c e ∷ ds) h f =
    all_priced before (s ++ (t.text, meanings.Node) ∷ []) ds (listed_more before s t.text meanings.Node h (λ i. absurd (let e = i in cc))) (firsts (declaration_fault s (node w t b c e)) _ f).1
all_priced before s (arc w t b ps e ∷ ds) h f =
    let q = firsts (declaration_fault s (arc w t b ps e)) _ f in
    let here = firsts (indexing_fault s b) _ (firsts (declared_before (meaning_in t.text s) t) _ q.0).1 in (
      phrases_priced before (with_indexing s b) ps (listed_indexing before s b h) here.1,
      all_priced before (s ++ (t.text, meanings.Arc) ∷ []) ds (listed_more before s t.text meanings.Arc h (λ i. absurd (let e = i in cc))) q.1,
    )
all_priced before s (objective w t p e ∷ ds) h f =
    all_priced (t.text ∷ before) (s ++ (t.text, objective_meaning p) ∷ []) ds
    (listed_more (t.text ∷ before) s t.text (objective_meaning p) (all_as (λ (e : Name × Meaning). e.1 ≡ meanings.Objective → IsListed before e.0) (λ e. e.1 ≡ meanings.Objective → IsListed (t.text ∷ before) e.0) s (λ e k i. inr (k i)) h) (λ i. inl refl))
    (firsts (declaration_fault s (objective w t p e)) _ f).1

-- ---- both rules

pub named_once : (ds : List Declaration) → IsWellNamed ds → IsNamedOnce ds
named_once ds h = record { once = (all_names [] ds h).once; priced = all_priced [] [] ds tt h }
