-- The error of a name is one of use, or the name is declared twice; and it stands at the name.
use Rattle.std.specs.Prelude.{Bool, true, false, List, [], ◌∷◌, Option, None, Some, is_some, if◌then◌else◌, ⊤}
use Rattle.net_base.specs.declared.diagnostic.Span.{Span}
use Rattle.net_base.proofs.Elements.{OfSome}
use Rattle.net_base.specs.declared.error_code.ErrorCode.{ErrorCode}
use Rattle.net_base.specs.declared.error_code.ErrorCode.TheVariants as error_codes
use Rattle.net_lex.specs.declared.token.Token.{Token}
use Rattle.net_tree.specs.Role.{role_of, is_name}
use Rattle.net_tree.specs.Tree.{Tree, Links, Part, Braces, leaf, indexed, parens, tuple, negated, braced, signed, reduced, chain, choice, net, none, link, absent, part, empty, filled, Body, plain, valued, priced, Phrase, Condition, unsaid, one, between, Declaration, set, param, check, node, arc, objective}
use Rattle.net_names.specs.declared.meaning.Meaning.{Meaning}
use Rattle.net_names.specs.declared.meaning.Meaning.TheVariants as meanings
use Rattle.net_names.specs.declared.meaning.Need.{Need}
use Rattle.net_names.specs.declared.meaning.Need.TheVariants as needs
use Rattle.net_names.specs.Dummies.{sides, is_new, with_component, with_item, with_items, with_braces, with_indexing}
use Rattle.net_names.specs.Meanings.{in_subscripts, misfit, error_code_of}
use Rattle.net_names.specs.Names.{is_tuple, tree_fault, links_fault, part_fault, braces_fault, items_fault, placed_fault, components_fault, further_fault, indexing_fault, need_after, body_fault, phrases_fault, condition_fault, declaration_fault, with_declaration, names_fault}
use Rattle.net_names.specs.Scopes.{NameScope, meaning_in}
use Rattle.net_names.specs.Reported.{Fault, first, at_name, name_fault, declared_before}
use Rattle.net_tree.specs.Standing.{Stands, LinksStand, PartStands, BracesStand, IndexingHasSpans, BodyHasSpans, PhrasesHaveSpans, ConditionHasSpans, DeclarationHasSpans, DeclarationsHaveSpans}

-- the error of a name that is used has one of these codes
abbrev pub IsOfUse : ErrorCode → Type 0
IsOfUse error_codes.Undeclared = ⊤
IsOfUse error_codes.LeftOut = ⊤
IsOfUse _ = ⊥

-- the codes of names that do not fit their position
misfits : (n : Need) (m : Meaning) → OfSome IsOfUse (misfit n m)
misfits needs.Value meanings.Set = tt
misfits needs.Value meanings.Param = tt
misfits needs.Value meanings.Node = tt
misfits needs.Value meanings.Arc = tt
misfits needs.Value meanings.Objective = tt
misfits needs.Value meanings.StatedObjective = tt
misfits needs.Value meanings.Dummy = tt
misfits needs.Total meanings.Set = tt
misfits needs.Total meanings.Param = tt
misfits needs.Total meanings.Node = tt
misfits needs.Total meanings.Arc = tt
misfits needs.Total meanings.Objective = tt
misfits needs.Total meanings.StatedObjective = tt
misfits needs.Total meanings.Dummy = tt
misfits needs.Node meanings.Set = tt
misfits needs.Node meanings.Param = tt
misfits needs.Node meanings.Node = tt
misfits needs.Node meanings.Arc = tt
misfits needs.Node meanings.Objective = tt
misfits needs.Node meanings.StatedObjective = tt
misfits needs.Node meanings.Dummy = tt
misfits needs.Objective meanings.Set = tt
misfits needs.Objective meanings.Param = tt
misfits needs.Objective meanings.Node = tt
misfits needs.Objective meanings.Arc = tt
misfits needs.Objective meanings.Objective = tt
misfits needs.Objective meanings.StatedObjective = tt
misfits needs.Objective meanings.Dummy = tt

errors_of_use : (n : Need) (o : Option Meaning) → OfSome IsOfUse (error_code_of n o)
errors_of_use n None = tt
errors_of_use n (Some m) = misfits n m

-- Q is true of an error of use at a name that stands at one of the places
module _ (P : Span → Type 0) (Q : Fault → Type 0) (used : (d : ErrorCode) (t : Token) → IsOfUse d → P t.span → Q (d, t)) where
  first_stands : (f g : Option Fault) → OfSome Q f → OfSome Q g → OfSome Q (first f g)
  first_stands None g h k = k
  first_stands (Some f) g h k = h

  if_stands : (b : Bool) (f g : Option Fault) → OfSome Q f → OfSome Q g → OfSome Q (if b then f else g)
  if_stands true f g h k = h
  if_stands false f g h k = k

  at_stands : (d : Option ErrorCode) (t : Token) → OfSome IsOfUse d → P t.span → OfSome Q (at_name d t)
  at_stands None t i h = tt
  at_stands (Some d) t i h = used d t i h

  name_stands : (n : Need) (s : NameScope) (t : Token) → P t.span → OfSome Q (name_fault n s t)
  name_stands n s t h = at_stands (error_code_of n (meaning_in t.text s)) t (errors_of_use n (meaning_in t.text s)) h

  mutual
    pub tree_stands : (n : Need) (s : NameScope) (t : Tree) → Stands P t → OfSome Q (tree_fault n s t)
    tree_stands n s (leaf t) h = if_stands (is_name (role_of t)) _ _ (name_stands n s t h.1) tt
    tree_stands n s (indexed t o x l c) (h, j, k, m) =
        first_stands (name_fault n s t) _ (name_stands n s t j)
        (first_stands (tree_fault (in_subscripts n) s x) _ (tree_stands (in_subscripts n) s x k) (links_stand (in_subscripts n) s l m))
    tree_stands n s (parens o x c) h = tree_stands n s x h.1
    tree_stands n s (tuple o x l c) (h, k, m) = first_stands (tree_fault n s x) _ (tree_stands n s x k) (links_stand n s l m)
    tree_stands n s (negated w o x c) h = tree_stands n s x h.1
    tree_stands n s (braced b) h = braces_stand n s b h.1
    tree_stands n s (signed w x) h = tree_stands n s x h.1
    tree_stands n s (reduced w b x) (h, k, m) = first_stands (braces_fault n s b) _ (braces_stand n s b k) (tree_stands n (with_braces s b) x m)
    tree_stands n s (chain i x l) (h, k, m) = first_stands (tree_fault n s x) _ (tree_stands n s x k) (links_stand n s l m)
    tree_stands n s (choice i x t y e) (h, j, k, m) =
        first_stands (tree_fault n s x) _ (tree_stands n s x j) (first_stands (tree_fault n s y) _ (tree_stands n s y k) (part_stands n s e m))
    tree_stands n s (net w t) h = tt

    links_stand : (n : Need) (s : NameScope) (l : Links) → LinksStand P l → OfSome Q (links_fault n s l)
    links_stand n s none h = tt
    links_stand n s (link o x l) (h, k) = first_stands (tree_fault n s x) _ (tree_stands n s x h) (links_stand n s l k)

    pub part_stands : (n : Need) (s : NameScope) (p : Part) → PartStands P p → OfSome Q (part_fault n s p)
    part_stands n s absent h = tt
    part_stands n s (part m x) h = tree_stands n s x h

    braces_stand : (n : Need) (s : NameScope) (b : Braces) → BracesStand P b → OfSome Q (braces_fault n s b)
    braces_stand n s (empty o p c) (g, h, k) = part_stands n s p k
    braces_stand n s (filled o x l p c) (g, h, i, j, k) =
        first_stands (if is_some (sides x) then placed_fault n s x else tree_fault n s x) _
        (if_stands (is_some (sides x)) (placed_fault n s x) (tree_fault n s x) (placed_stands n s x i) (tree_stands n s x i))
        (first_stands (items_fault n (with_item s x) l) _ (items_stand n (with_item s x) l j) (part_stands n (with_items (with_item s x) l) p k))

    items_stand : (n : Need) (s : NameScope) (l : Links) → LinksStand P l → OfSome Q (items_fault n s l)
    items_stand n s none h = tt
    items_stand n s (link o x l) (h, k) =
        first_stands (if is_some (sides x) then placed_fault n s x else tree_fault n s x) _
        (if_stands (is_some (sides x)) (placed_fault n s x) (tree_fault n s x) (placed_stands n s x h) (tree_stands n s x h)) (items_stand n (with_item s x) l k)

    placed_stands : (n : Need) (s : NameScope) (t : Tree) → Stands P t → OfSome Q (placed_fault n s t)
    placed_stands n s (chain i x (link r y none)) (h, j, k) =
        first_stands (if is_tuple x then components_fault n s x else if is_new s x then None else tree_fault n s x) _
        (if_stands (is_tuple x) (components_fault n s x) _ (components_stand n s x j) (if_stands (is_new s x) _ (tree_fault n s x) tt (tree_stands n s x j))) (tree_stands n s y k.0)
    placed_stands n s (chain i x none) h = tt
    placed_stands n s (chain i x (link r y (link q z l))) h = tt
    placed_stands n s (leaf t) h = tt
    placed_stands n s (indexed t o x l c) h = tt
    placed_stands n s (parens o x c) h = tt
    placed_stands n s (tuple o x l c) h = tt
    placed_stands n s (negated w o x c) h = tt
    placed_stands n s (braced b) h = tt
    placed_stands n s (signed w x) h = tt
    placed_stands n s (reduced w b x) h = tt
    placed_stands n s (choice i x t y e) h = tt
    placed_stands n s (net w t) h = tt

    components_stand : (n : Need) (s : NameScope) (t : Tree) → Stands P t → OfSome Q (components_fault n s t)
    components_stand n s (tuple o x l c) (h, k, m) =
        first_stands (if is_new s x then None else tree_fault n s x) _ (if_stands (is_new s x) _ (tree_fault n s x) tt (tree_stands n s x k)) (further_stand n (with_component s x) l m)
    components_stand n s (leaf t) h = tt
    components_stand n s (indexed t o x l c) h = tt
    components_stand n s (parens o x c) h = tt
    components_stand n s (negated w o x c) h = tt
    components_stand n s (braced b) h = tt
    components_stand n s (signed w x) h = tt
    components_stand n s (reduced w b x) h = tt
    components_stand n s (chain i x l) h = tt
    components_stand n s (choice i x t y e) h = tt
    components_stand n s (net w t) h = tt

    further_stand : (n : Need) (s : NameScope) (l : Links) → LinksStand P l → OfSome Q (further_fault n s l)
    further_stand n s none h = tt
    further_stand n s (link o x l) (h, k) =
        first_stands (if is_new s x then None else tree_fault n s x) _ (if_stands (is_new s x) _ (tree_fault n s x) tt (tree_stands n s x h)) (further_stand n (with_component s x) l k)

  pub indexing_stands : (s : NameScope) (b : Option Braces) → IndexingHasSpans P b → OfSome Q (indexing_fault s b)
  indexing_stands s None h = tt
  indexing_stands s (Some b) h = braces_stand needs.Value s b h

  body_stands : (n : Need) (s : NameScope) (b : Body) → BodyHasSpans P b → OfSome Q (body_fault n s b)
  body_stands n s plain h = tt
  body_stands n s (valued x) h = tree_stands n s x h
  body_stands n s (priced t x) h = first_stands (name_fault needs.Objective s t) _ (name_stands needs.Objective s t h.0) (tree_stands needs.Value s x h.1)

  pub phrases_stand : (s : NameScope) (ps : List Phrase) → PhrasesHaveSpans P ps → OfSome Q (phrases_fault s ps)
  phrases_stand s [] h = tt
  phrases_stand s (p ∷ ps) h = first_stands (body_fault (need_after (role_of p.word)) s p.body) _ (body_stands (need_after (role_of p.word)) s p.body h.1) (phrases_stand s ps h.2)

  pub condition_stands : (s : NameScope) (c : Condition) → ConditionHasSpans P c → OfSome Q (condition_fault s c)
  condition_stands s unsaid h = tt
  condition_stands s (one m x o y) h = first_stands (tree_fault needs.Value s x) _ (tree_stands needs.Value s x h.1) (tree_stands needs.Value s y h.2)
  condition_stands s (between m x o y p z) h =
      first_stands (tree_fault needs.Value s x) _ (tree_stands needs.Value s x h.1)
      (first_stands (tree_fault needs.Value s y) _ (tree_stands needs.Value s y h.2) (tree_stands needs.Value s z h.3))

  -- and of a name that is declared twice
  module _ (again : (t : Token) → P t.span → Q (error_codes.Redeclared, t)) where
    declared_stands : (m : Option Meaning) (t : Token) → P t.span → OfSome Q (declared_before m t)
    declared_stands None t h = tt
    declared_stands (Some m) t h = again t h

    declaration_stands : (s : NameScope) (d : Declaration) → DeclarationHasSpans P d → OfSome Q (declaration_fault s d)
    declaration_stands s (set w t ps e) h = first_stands (declared_before (meaning_in t.text s) t) _ (declared_stands (meaning_in t.text s) t h.0) (phrases_stand s ps h.1)
    declaration_stands s (param w t b ps e) h =
        first_stands (declared_before (meaning_in t.text s) t) _ (declared_stands (meaning_in t.text s) t h.0)
        (first_stands (indexing_fault s b) _ (indexing_stands s b h.1) (phrases_stand (with_indexing s b) ps h.2))
    declaration_stands s (check w b m x e) h = first_stands (indexing_fault s b) _ (indexing_stands s b h.0) (tree_stands needs.Value (with_indexing s b) x h.1)
    declaration_stands s (node w t b c e) h =
        first_stands (declared_before (meaning_in t.text s) t) _ (declared_stands (meaning_in t.text s) t h.0)
        (first_stands (indexing_fault s b) _ (indexing_stands s b h.1) (condition_stands (with_indexing s b) c h.2))
    declaration_stands s (arc w t b ps e) h =
        first_stands (declared_before (meaning_in t.text s) t) _ (declared_stands (meaning_in t.text s) t h.0)
        (first_stands (indexing_fault s b) _ (indexing_stands s b h.1) (phrases_stand (with_indexing s b) ps h.2))
    declaration_stands s (objective w t p e) h = first_stands (declared_before (meaning_in t.text s) t) _ (declared_stands (meaning_in t.text s) t h.0) (part_stands needs.Total s p h.1)

    pub names_stand : (s : NameScope) (ds : List Declaration) → DeclarationsHaveSpans P ds → OfSome Q (names_fault s ds)
    names_stand s [] h = tt
    names_stand s (d ∷ ds) h = first_stands (declaration_fault s d) _ (declaration_stands s d h.0) (names_stand (with_declaration s d) ds h.1)
