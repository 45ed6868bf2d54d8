-- The nesting depth of a tree: the maximum number of parentheses, braces, brackets, `if`s, signs
-- and reductions that enclose one of its tokens, including the token's own.
use Rattle.std.specs.Prelude.{ℕ, ◌+◌, max, List, [], ◌∷◌, Option, None, Some}
use Rattle.net_tree.specs.Tree.{Tree, Links, Part, Braces, leaf, indexed, parens, tuple, negated, braced, signed, reduced, chain, choice, net, none, link, absent, part, empty, filled, Body, plain, valued, priced, Phrase, Condition, unsaid, one, between, Declaration, set, param, check, node, arc, objective}

abbrev mutual
  pub depth : Tree → ℕ
  depth (leaf t) = 0
  depth (indexed n o x l c) = 1 + max (depth x) (links_depth l)
  depth (parens o x c) = 1 + depth x
  depth (tuple o x l c) = 1 + max (depth x) (links_depth l)
  depth (negated n o x c) = 1 + depth x
  depth (braced b) = braces_depth b
  depth (signed s x) = 1 + depth x
  depth (reduced w b x) = 1 + max (braces_depth b) (depth x)
  depth (chain n x l) = max (depth x) (links_depth l)
  depth (choice i x t y e) = 1 + max (depth x) (max (depth y) (part_depth e))
  depth (net s w) = 0

  pub links_depth : Links → ℕ
  links_depth none = 0
  links_depth (link o x l) = max (depth x) (links_depth l)

  pub part_depth : Part → ℕ
  part_depth absent = 0
  part_depth (part m x) = depth x

  pub braces_depth : Braces → ℕ
  braces_depth (empty o p c) = 1 + part_depth p
  braces_depth (filled o x l p c) = 1 + max (depth x) (max (links_depth l) (part_depth p))

abbrev pub indexing_depth : Option Braces → ℕ
indexing_depth None = 0
indexing_depth (Some b) = braces_depth b

abbrev pub body_depth : Body → ℕ
body_depth plain = 0
body_depth (valued x) = depth x
body_depth (priced n x) = depth x

abbrev pub phrases_depth : List Phrase → ℕ
phrases_depth [] = 0
phrases_depth (p ∷ ps) = max (body_depth p.body) (phrases_depth ps)

abbrev pub condition_depth : Condition → ℕ
condition_depth unsaid = 0
condition_depth (one m x o y) = max (depth x) (depth y)
condition_depth (between m x o y p z) = max (depth x) (max (depth y) (depth z))

abbrev pub declaration_depth : Declaration → ℕ
declaration_depth (set w n ps e) = phrases_depth ps
declaration_depth (param w n b ps e) = max (indexing_depth b) (phrases_depth ps)
declaration_depth (check w b m x e) = max (indexing_depth b) (depth x)
declaration_depth (node w n b c e) = max (indexing_depth b) (condition_depth c)
declaration_depth (arc w n b ps e) = max (indexing_depth b) (phrases_depth ps)
declaration_depth (objective w n p e) = part_depth p

abbrev pub model_depth : List Declaration → ℕ
model_depth [] = 0
model_depth (d ∷ ds) = max (declaration_depth d) (model_depth ds)
