-- The first name error of a model, from left to right.
use Rattle.std.specs.Prelude.{◌≡◌, Bool, true, false, List, [], ◌∷◌, Option, None, Some, is_some, if◌then◌else◌}
use Rattle.net_lex.specs.declared.token.Token.{Token}
use Rattle.net_tree.specs.declared.role.Role.{Role}
use Rattle.net_tree.specs.declared.role.Role.TheVariants as roles
use Rattle.net_tree.specs.declared.role.Begins.TheVariants as begins
use Rattle.net_tree.specs.Role.{role_of, is_name}
use Rattle.net_tree.specs.Tree.{Tree, Links, Part, Braces, leaf, indexed, parens, tuple, negated, braced, signed, reduced, chain, choice, net, none, link, absent, part, empty, filled, Body, plain, valued, priced, Phrase, Condition, unsaid, one, between, Declaration, set, param, check, node, arc, objective}
use Rattle.net_names.specs.declared.meaning.Meaning.{Meaning}
use Rattle.net_names.specs.declared.meaning.Meaning.TheVariants as meanings
use Rattle.net_names.specs.declared.meaning.Need.{Need}
use Rattle.net_names.specs.declared.meaning.Need.TheVariants as needs
use Rattle.net_names.specs.Meanings.{in_subscripts}
use Rattle.net_names.specs.Scopes.{NameScope, meaning_in, with_name}
use Rattle.net_names.specs.Reported.{Fault, first, name_fault, declared_before}
use Rattle.net_names.specs.Dummies.{sides, is_new, with_component, with_item, with_items, with_braces, with_indexing}

abbrev pub is_tuple : Tree → Bool
is_tuple (tuple o x l c) = true
is_tuple _ = false

abbrev mutual
  -- the first error of a tree whose names must satisfy a need
  pub tree_fault : Need → NameScope → Tree → Option Fault
  tree_fault n s (leaf t) = if is_name (role_of t) then name_fault n s t else None
  tree_fault n s (indexed t o x l c) = first (name_fault n s t) (first (tree_fault (in_subscripts n) s x) (links_fault (in_subscripts n) s l))
  tree_fault n s (parens o x c) = tree_fault n s x
  tree_fault n s (tuple o x l c) = first (tree_fault n s x) (links_fault n s l)
  tree_fault n s (negated w o x c) = tree_fault n s x
  tree_fault n s (braced b) = braces_fault n s b
  tree_fault n s (signed w x) = tree_fault n s x
  tree_fault n s (reduced w b x) = first (braces_fault n s b) (tree_fault n (with_braces s b) x)
  tree_fault n s (chain k x l) = first (tree_fault n s x) (links_fault n s l)
  tree_fault n s (choice i x t y e) = first (tree_fault n s x) (first (tree_fault n s y) (part_fault n s e))
  tree_fault n s (net w t) = None

  pub links_fault : Need → NameScope → Links → Option Fault
  links_fault n s none = None
  links_fault n s (link o x l) = first (tree_fault n s x) (links_fault n s l)

  pub part_fault : Need → NameScope → Part → Option Fault
  part_fault n s absent = None
  part_fault n s (part m x) = tree_fault n s x

  -- each item, and the condition, is in the scope of the dummies of the items before it
  pub braces_fault : Need → NameScope → Braces → Option Fault
  braces_fault n s (empty o p c) = part_fault n s p
  braces_fault n s (filled o x l p c) =
      first (if is_some (sides x) then placed_fault n s x else tree_fault n s x)
      (first (items_fault n (with_item s x) l) (part_fault n (with_items (with_item s x) l) p))

  pub items_fault : Need → NameScope → Links → Option Fault
  items_fault n s none = None
  items_fault n s (link o x l) = first (if is_some (sides x) then placed_fault n s x else tree_fault n s x) (items_fault n (with_item s x) l)

  -- an item whose top operator is `in`: its set is not in the scope of its own dummies
  pub placed_fault : Need → NameScope → Tree → Option Fault
  placed_fault n s (chain k x (link r y none)) =
      first (if is_tuple x then components_fault n s x else if is_new s x then None else tree_fault n s x) (tree_fault n s y)
  placed_fault n s _ = None

  -- each component is in the scope of the dummies that are components before it
  pub components_fault : Need → NameScope → Tree → Option Fault
  components_fault n s (tuple o x l c) = first (if is_new s x then None else tree_fault n s x) (further_fault n (with_component s x) l)
  components_fault n s _ = None

  pub further_fault : Need → NameScope → Links → Option Fault
  further_fault n s none = None
  further_fault n s (link o x l) = first (if is_new s x then None else tree_fault n s x) (further_fault n (with_component s x) l)

abbrev pub indexing_fault : NameScope → Option Braces → Option Fault
indexing_fault s None = None
indexing_fault s (Some b) = braces_fault needs.Value s b

-- the meanings that a name after this keyword can have
abbrev pub need_after : Role → Need
need_after (roles.Phrase begins.From) = needs.Node
need_after (roles.Phrase begins.To) = needs.Node
need_after _ = needs.Value

abbrev pub body_fault : Need → NameScope → Body → Option Fault
body_fault n s plain = None
body_fault n s (valued x) = tree_fault n s x
body_fault n s (priced t x) = first (name_fault needs.Objective s t) (tree_fault needs.Value s x)

abbrev pub phrases_fault : NameScope → List Phrase → Option Fault
phrases_fault s [] = None
phrases_fault s (p ∷ ps) = first (body_fault (need_after (role_of p.word)) s p.body) (phrases_fault s ps)

abbrev pub condition_fault : NameScope → Condition → Option Fault
condition_fault s unsaid = None
condition_fault s (one m x o y) = first (tree_fault needs.Value s x) (tree_fault needs.Value s y)
condition_fault s (between m x o y p z) = first (tree_fault needs.Value s x) (first (tree_fault needs.Value s y) (tree_fault needs.Value s z))

-- the declared name is checked first, then the used names, from left to right
abbrev pub declaration_fault : NameScope → Declaration → Option Fault
declaration_fault s (set w t ps e) = first (declared_before (meaning_in t.text s) t) (phrases_fault s ps)
declaration_fault s (param w t b ps e) =
    first (declared_before (meaning_in t.text s) t) (first (indexing_fault s b) (phrases_fault (with_indexing s b) ps))
declaration_fault s (check w b m x e) = first (indexing_fault s b) (tree_fault needs.Value (with_indexing s b) x)
declaration_fault s (node w t b c e) =
    first (declared_before (meaning_in t.text s) t) (first (indexing_fault s b) (condition_fault (with_indexing s b) c))
declaration_fault s (arc w t b ps e) =
    first (declared_before (meaning_in t.text s) t) (first (indexing_fault s b) (phrases_fault (with_indexing s b) ps))
declaration_fault s (objective w t p e) = first (declared_before (meaning_in t.text s) t) (part_fault needs.Total s p)

abbrev pub objective_meaning : Part → Meaning
objective_meaning absent = meanings.Objective
objective_meaning (part m x) = meanings.StatedObjective

-- the name that a declaration declares, with its meaning
abbrev pub declared : Declaration → Option (Token × Meaning)
declared (set w t ps e) = Some (t, meanings.Set)
declared (param w t b ps e) = Some (t, meanings.Param)
declared (check w b m x e) = None
declared (node w t b c e) = Some (t, meanings.Node)
declared (arc w t b ps e) = Some (t, meanings.Arc)
declared (objective w t p e) = Some (t, objective_meaning p)

abbrev pub with_declared : NameScope → Option (Token × Meaning) → NameScope
with_declared s None = s
with_declared s (Some p) = with_name s p.0 p.1

-- after a declaration, its name is in scope, and its dummies are not
abbrev pub with_declaration : NameScope → Declaration → NameScope
with_declaration s d = with_declared s (declared d)

-- the scope after more declarations
abbrev pub declared_by : NameScope → List Declaration → NameScope
declared_by s [] = s
declared_by s (d ∷ ds) = declared_by (with_declaration s d) ds

-- the first error in declarations, in this scope
abbrev pub names_fault : NameScope → List Declaration → Option Fault
names_fault s [] = None
names_fault s (d ∷ ds) = first (declaration_fault s d) (names_fault (with_declaration s d) ds)

-- the names of a model have no error
abbrev pub IsWellNamed : List Declaration → Type 0
IsWellNamed ds = names_fault [] ds ≡ None
