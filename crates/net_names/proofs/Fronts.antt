-- Declarations before a place, and the names that they declare.
use Rattle.std.specs.Prelude.{◌≡◌, ◌&&◌, Bool, true, false, List, [], ◌∷◌, ◌++◌, Option, None, Some, if◌then◌else◌, is_none, length, take}
use Rattle.std.specs.Str.{bytes_eq}
use Rattle.std.proofs.Common.{refl, sym, ap, ◌∙◌}
use Rattle.net_lex.specs.declared.token.Token.{Token}
use Rattle.net_tree.specs.Tree.{Declaration}
use Rattle.net_names.specs.declared.meaning.Meaning.{Meaning}
use Rattle.net_names.specs.Scopes.{Name, NameScope, meaning_in}
use Rattle.net_names.specs.Reported.{Fault, first}
use Rattle.net_names.specs.Names.{declaration_fault, declared, with_declared, with_declaration, declared_by, names_fault}
use Rattle.net_names.proofs.Walking.{Begins, begins_same, begins_trans, taken_back}

none_first : (f g : Option Fault) → first f g ≡ None → f ≡ None
none_first None g h = refl
none_first (Some f) g h = cc

none_after : (f g : Option Fault) → first f g ≡ None → g ≡ None
none_after None g h = h
none_after (Some f) g h = cc

pub each_named : (s : NameScope) (done rest : List Declaration) (d : Declaration) → names_fault s (done ++ d ∷ rest) ≡ None → declaration_fault (declared_by s done) d ≡ None
each_named s [] rest d h = none_first (declaration_fault s d) (names_fault (with_declaration s d) rest) h
each_named s (x ∷ done) rest d h =
    each_named (with_declaration s x) done rest d (none_after (declaration_fault s x) (names_fault (with_declaration s x) (done ++ d ∷ rest)) h)

declared_begins : (s : NameScope) (o : Option (Token × Meaning)) → Begins s (with_declared s o)
declared_begins s None = begins_same s
declared_begins s (Some p) = ((p.0.text, p.1) ∷ [], refl)

all_begin : (s : NameScope) (ds : List Declaration) → Begins s (declared_by s ds)
all_begin s [] = begins_same s
all_begin s (d ∷ ds) = begins_trans s (with_declaration s d) (declared_by (with_declaration s d) ds) (declared_begins s (declared d)) (all_begin (with_declaration s d) ds)

after_others : (s : NameScope) (done rest : List Declaration) → declared_by s (done ++ rest) ≡ declared_by (declared_by s done) rest
after_others s [] rest = refl
after_others s (d ∷ done) rest = after_others (with_declaration s d) done rest

pub front_named : (s : NameScope) (done rest : List Declaration) → take (length (declared_by s done)) (declared_by s (done ++ rest)) ≡ declared_by s done
front_named s done rest =
    ap (take (length (declared_by s done))) (after_others s done rest)
    ∙ taken_back (declared_by s done) (declared_by (declared_by s done) rest) (all_begin (declared_by s done) rest)

-- behind a scope come other names
abbrev else_in : Name → NameScope → Option Meaning → Option Meaning
else_in name s None = meaning_in name s
else_in name s (Some m) = Some m

-- the meaning in a scope that begins with a name, by whether it is that name
abbrev at_first : Bool → Meaning → Option Meaning → Option Meaning
at_first b m o = if b then Some m else o

at_first-else : (b : Bool) (m : Meaning) (o : Option Meaning) (name : Name) (r : NameScope) → else_in name r (at_first b m o) ≡ at_first b m (else_in name r o)
at_first-else true m o name r = refl
at_first-else false m o name r = refl

meaning_in-append : (name : Name) (s r : NameScope) → meaning_in name (s ++ r) ≡ else_in name r (meaning_in name s)
meaning_in-append name [] r = refl
meaning_in-append name (e ∷ s) r = ap (at_first (bytes_eq e.0 name) e.1) (meaning_in-append name s r) ∙ sym (at_first-else (bytes_eq e.0 name) e.1 (meaning_in name s) name r)

none_in_both : (name : Name) (r : NameScope) (o : Option Meaning) → is_none (else_in name r o) ≡ (is_none o && is_none (meaning_in name r))
none_in_both name r None = refl
none_in_both name r (Some m) = refl

pub new_in_both : (name : Name) (s r : NameScope) → is_none (meaning_in name (s ++ r)) ≡ (is_none (meaning_in name s) && is_none (meaning_in name r))
new_in_both name s r = ap is_none (meaning_in-append name s r) ∙ none_in_both name r (meaning_in name s)
