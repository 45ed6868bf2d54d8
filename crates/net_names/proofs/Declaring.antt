-- What declarations add to the scope.
use Rattle.std.specs.Prelude.{◌≡◌, ◌+◌, ◌<◌, ℕ, List, length, get_or, take, drop, map, Option, None, Some}
use Rattle.std.proofs.Common.{refl, sym, ap, ◌∙◌}
use Rattle.net_lex.specs.declared.token.Token.{Token}
use Rattle.net_tree.specs.declared.declaration.Phrase.{Phrase as Phrase_of_code}
use Rattle.net_tree.specs.declared.declaration.Decl.{Decl}
use Rattle.net_tree.specs.Role.{role_of}
use Rattle.net_tree.specs.Tree.{Braces, Declaration, set, param, check, node, arc, objective}
use Rattle.net_tree.specs.View.{phrase_of, declaration_of}
use Rattle.net_tree.proofs.Views.{next_phrase, next_declaration}
use Rattle.net_names.specs.declared.meaning.Meaning.{Meaning}
use Rattle.net_names.specs.declared.meaning.Need.{Need}
use Rattle.net_names.specs.Scopes.{NameScope, meaning_in}
use Rattle.net_names.specs.Reported.{Fault, first, declared_before}
use Rattle.net_names.specs.Dummies.{with_indexing}
use Rattle.net_names.specs.Items.{with_dummies}
use Rattle.net_names.specs.Names.{need_after, body_fault, phrases_fault, declaration_fault, declared, with_declaration, names_fault}
use Rattle.net_names.proofs.Walking.{Begins, begins_same, braces_begin, taken_back}

none_before : (o : Option Meaning) (t : Token) (g : Option Fault) → first (declared_before o t) g ≡ None → o ≡ None
none_before None t g h = refl
none_before (Some m) t g h = cc

same : (s : NameScope) (t : Token) (m : Meaning) (p : Token × Meaning) → ◌≡◌ {A = Option (Token × Meaning)} (Some (t, m)) (Some p) → meaning_in t.text s ≡ None → meaning_in p.0.text s ≡ None
same s t m p h e = let f : (t, m) ≡ p = cc in sym (ap (λ (q : Token × Meaning). meaning_in q.0.text s) f) ∙ e

-- what a declaration without a fault declares meant nothing before
pub declared_new : (s : NameScope) (d : Declaration) (p : Token × Meaning) → declared d ≡ Some p → declaration_fault s d ≡ None → meaning_in p.0.text s ≡ None
declared_new s (set w t ps e) p h f = same s t _ p h (none_before (meaning_in t.text s) t _ f)
declared_new s (param w t b ps e) p h f = same s t _ p h (none_before (meaning_in t.text s) t _ f)
declared_new s (check w b m x e) p h f = cc
declared_new s (node w t b c e) p h f = same s t _ p h (none_before (meaning_in t.text s) t _ f)
declared_new s (arc w t b ps e) p h f = same s t _ p h (none_before (meaning_in t.text s) t _ f)
declared_new s (objective w t v e) p h f = same s t _ p h (none_before (meaning_in t.text s) t _ f)

indexing_begins : (s : NameScope) (b : Option Braces) → Begins s (with_indexing s b)
indexing_begins s None = begins_same s
indexing_begins s (Some b) = braces_begin s b

dummies_begin : (s : NameScope) (d : Declaration) → Begins s (with_dummies s d)
dummies_begin s (set w t ps e) = begins_same s
dummies_begin s (param w t b ps e) = indexing_begins s b
dummies_begin s (check w b m x e) = indexing_begins s b
dummies_begin s (node w t b c e) = indexing_begins s b
dummies_begin s (arc w t b ps e) = indexing_begins s b
dummies_begin s (objective w t p e) = begins_same s

pub forgotten_dummies : (s t : NameScope) (d : Declaration) (n : ℕ) → n ≡ length s → t ≡ with_dummies s d → take n t ≡ s
forgotten_dummies s t d n h e = ap (take n) e ∙ ap (λ k. take k (with_dummies s d)) h ∙ taken_back s (with_dummies s d) (dummies_begin s d)

-- the fault of the phrases from one of them on
pub phrases_left : (n : Need) (s t : NameScope) (ps : List Phrase_of_code) (i : ℕ) (p : Phrase_of_code) (whole : Option Fault) → i < length ps → p ≡ get_or ps i p → t ≡ s
    → n ≡ need_after (role_of p.word) → phrases_fault s (map phrase_of (drop i ps)) ≡ whole
    → first (body_fault n t (phrase_of p).body) (phrases_fault s (map phrase_of (drop (i + 1) ps))) ≡ whole
phrases_left n s t ps i p whole h e k m before =
    ap (λ u. first (body_fault u t (phrase_of p).body) (phrases_fault s (map phrase_of (drop (i + 1) ps)))) m
    ∙ ap (λ u. first (body_fault (need_after (role_of p.word)) u (phrase_of p).body) (phrases_fault s (map phrase_of (drop (i + 1) ps)))) k
    ∙ sym (ap (phrases_fault s) (next_phrase ps i p h e)) ∙ before

-- the fault of the declarations from one of them on
pub declarations_left : (s : NameScope) (ds : List Decl) (i : ℕ) (d : Decl) (whole : Option Fault) → i < length ds → d ≡ get_or ds i d
    → names_fault s (map declaration_of (drop i ds)) ≡ whole
    → first (declaration_fault s (declaration_of d)) (names_fault (with_declaration s (declaration_of d)) (map declaration_of (drop (i + 1) ds))) ≡ whole
declarations_left s ds i d whole h e before = sym (ap (names_fault s) (next_declaration ds i d h e)) ∙ before
