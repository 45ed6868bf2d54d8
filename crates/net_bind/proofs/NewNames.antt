-- Where the names of a model are as they should be, each set and each parameter has a new one.
use Rattle.std.specs.Prelude.{◌≡◌, Bool, true, false, ◌||◌, List, [], ◌∷◌, ◌++◌, Option, None, Some, if◌then◌else◌}
use Rattle.std.specs.Str.{bytes_eq}
use Rattle.std.proofs.Common.{refl, ap, ◌∙◌}
use Rattle.net_lex.specs.declared.token.Token.{Token}
use Rattle.net_tree.specs.Tree.{Declaration, set, param, check, node, arc, objective}
use Rattle.net_names.specs.declared.meaning.Meaning.{Meaning}
use Rattle.net_names.specs.declared.meaning.Meaning.TheVariants as meanings
use Rattle.net_names.specs.Names.{declaration_fault, indexing_fault, phrases_fault, objective_meaning, names_fault, with_declaration, IsWellNamed}
use Rattle.net_names.specs.Dummies.{with_indexing}
use Rattle.net_names.specs.Scopes.{Name, NameScope, meaning_in}
use Rattle.net_names.specs.Reported.{Fault, first, declared_before}
use Rattle.net_bind.specs.Binding.{is_among, AreNew}

pub firsts : (a b : Option Fault) → first a b ≡ None → (a ≡ None) × (b ≡ None)
firsts None b h = (refl, h)
firsts (Some f) b h = cc

-- the first of three faults
of_three : (a b c : Option Fault) → first a (first b c) ≡ None → a ≡ None
of_three a b c h = (firsts a (first b c) h).0

pub none_before : (o : Option Meaning) (t : Token) → declared_before o t ≡ None → o ≡ None
none_before None t h = refl
none_before (Some m) t h = cc

pub parts : (n k : Name) (m : Meaning) (s : NameScope) → meaning_in n (s ++ (k, m) ∷ []) ≡ None → (meaning_in n s ≡ None) × (bytes_eq k n ≡ false)
parts n k m [] h = go (bytes_eq k n) refl h
  where
    go : (b : Bool) → bytes_eq k n ≡ b → (if b then Some m else None) ≡ None → (meaning_in n [] ≡ None) × (bytes_eq k n ≡ false)
    go true f h = cc
    go false f h = (refl, f)
parts n k m (e ∷ s) h = go (bytes_eq e.0 n) h (parts n k m s)
  where
    go : (b : Bool) → (if b then Some e.1 else meaning_in n (s ++ (k, m) ∷ [])) ≡ None
        → (meaning_in n (s ++ (k, m) ∷ []) ≡ None → (meaning_in n s ≡ None) × (bytes_eq k n ≡ false))
        → ((if b then Some e.1 else meaning_in n s) ≡ None) × (bytes_eq k n ≡ false)
    go true h more = cc
    go false h more = more h

-- what means nothing in the scope is no known name
abbrev IsReported : List Name → NameScope → Type 0
IsReported known s = (n : Name) → meaning_in n s ≡ None → is_among known n ≡ false

one_known : (known : List Name) (s : NameScope) (k : Name) (m : Meaning) → IsReported known s → IsReported (k ∷ known) (s ++ (k, m) ∷ [])
one_known known s k m h n e = ap (λ b. b || is_among known n) (parts n k m s e).1 ∙ h n (parts n k m s e).0

one_other : (known : List Name) (s : NameScope) (k : Name) (m : Meaning) → IsReported known s → IsReported known (s ++ (k, m) ∷ [])
one_other known s k m h n e = h n (parts n k m s e).0

all_new : (known : List Name) (s : NameScope) (ds : List Declaration) → IsReported known s → names_fault s ds ≡ None → AreNew known ds
all_new known s [] h f = tt
all_new known s (set w t ps e ∷ ds) h f =
    let q = firsts (declaration_fault s (set w t ps e)) (names_fault (with_declaration s (set w t ps e)) ds) f in
    (h t.text (none_before (meaning_in t.text s) t (firsts (declared_before (meaning_in t.text s) t) _ q.0).0), all_new (t.text ∷ known) (s ++ (t.text, meanings.Set) ∷ []) ds (one_known known s t.text meanings.Set h) q.1)
all_new known s (param w t b ps e ∷ ds) h f =
    let q = firsts (declaration_fault s (param w t b ps e)) (names_fault (with_declaration s (param w t b ps e)) ds) f in
    (h t.text (none_before (meaning_in t.text s) t (of_three (declared_before (meaning_in t.text s) t) (indexing_fault s b) (phrases_fault (with_indexing s b) ps) q.0)), all_new (t.text ∷ known) (s ++ (t.text, meanings.Param) ∷ []) ds (one_known known s t.text meanings.Param h) q.1)
all_new known s (check w b m x e ∷ ds) h f = all_new known s ds h (firsts (declaration_fault s (check w b m x e)) (names_fault s ds) f).1
all_new known s (node w t b c e ∷ ds) h f =
    all_new known (s ++ (t.text, meanings.Node) ∷ []) ds (one_other known s t.text meanings.Node h) (firsts (declaration_fault s (node w t b c e)) (names_fault (with_declaration s (node w t b c e)) ds) f).1
all_new known s (arc w t b ps e ∷ ds) h f =
    all_new known (s ++ (t.text, meanings.Arc) ∷ []) ds (one_other known s t.text meanings.Arc h) (firsts (declaration_fault s (arc w t b ps e)) (names_fault (with_declaration s (arc w t b ps e)) ds) f).1
all_new known s (objective w t p e ∷ ds) h f =
    all_new known (s ++ (t.text, objective_meaning p) ∷ []) ds (one_other known s t.text (objective_meaning p) h)
    (firsts (declaration_fault s (objective w t p e)) (names_fault (with_declaration s (objective w t p e)) ds) f).1

pub new_names : (ds : List Declaration) → IsWellNamed ds → AreNew [] ds
new_names ds h = all_new [] [] ds (λ n e. refl) h
