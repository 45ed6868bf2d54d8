-- What is printed before some tokens makes them no fewer.
use Rattle.std.specs.Prelude.{◌≤◌, ◌<◌, List, [], ◌∷◌, length, Option, None, Some}
use Rattle.std.proofs.Common.{arith}
use Rattle.net_lex.specs.declared.token.Token.{Token}
use Rattle.net_tree.specs.declared.operator.OperatorWords.{OperatorWords as Operator}
use Rattle.net_tree.specs.declared.operator.OperatorWords.TheVariants.{One, Two}
use Rattle.net_tree.specs.Tree.{Tree, Links, Part, Braces, leaf, indexed, parens, tuple, negated, braced, signed, reduced, chain, choice, net, none, link, absent, part, empty, filled, Body, plain, valued, priced, Phrase, Condition, unsaid, one, between, Declaration, set, param, check, node, arc, objective}
use Rattle.net_tree.specs.Print.{put, put_links, put_part, put_braces, put_operator, put_optional, put_indexing, put_body, put_phrases, put_condition, put_declaration}

pub put_operator-longer : (o : Operator) (r : List Token) → length r < length (put_operator o r)
put_operator-longer (One t) r = omega arith
put_operator-longer (Two t u) r = omega arith

pub put_optional-longer : (o : Option Token) (r : List Token) → length r ≤ length (put_optional o r)
put_optional-longer None r = omega arith
put_optional-longer (Some t) r = omega arith

mutual
  pub put-longer : (x : Tree) (r : List Token) → length r < length (put x r)
  put-longer (leaf t) r = omega arith
  put-longer (indexed n o x l c) r = omega (arith, put-longer x (put_links l (c ∷ r)), put_links-longer l (c ∷ r))
  put-longer (parens o x c) r = omega (arith, put-longer x (c ∷ r))
  put-longer (tuple o x l c) r = omega (arith, put-longer x (put_links l (c ∷ r)), put_links-longer l (c ∷ r))
  put-longer (negated n o x c) r = omega (arith, put-longer x (c ∷ r))
  put-longer (braced b) r = put_braces-longer b r
  put-longer (signed s x) r = omega (arith, put-longer x r)
  put-longer (reduced w b x) r = omega (arith, put_braces-longer b (put x r), put-longer x r)
  put-longer (chain n x l) r = omega (arith, put-longer x (put_links l r), put_links-longer l r)
  put-longer (choice i x t y e) r = omega (arith, put-longer x (t ∷ put y (put_part e r)), put-longer y (put_part e r), put_part-longer e r)
  put-longer (net s w) r = omega (arith, put_optional-longer s (w ∷ r))

  pub put_links-longer : (l : Links) (r : List Token) → length r ≤ length (put_links l r)
  put_links-longer none r = omega arith
  put_links-longer (link o x l) r = omega (arith, put_operator-longer o (put x (put_links l r)), put-longer x (put_links l r), put_links-longer l r)

  pub put_part-longer : (p : Part) (r : List Token) → length r ≤ length (put_part p r)
  put_part-longer absent r = omega arith
  put_part-longer (part m x) r = omega (arith, put-longer x r)

  pub put_braces-longer : (b : Braces) (r : List Token) → length r < length (put_braces b r)
  put_braces-longer (empty o p c) r = omega (arith, put_part-longer p (c ∷ r))
  put_braces-longer (filled o x l p c) r = omega (arith, put-longer x (put_links l (put_part p (c ∷ r))), put_links-longer l (put_part p (c ∷ r)), put_part-longer p (c ∷ r))

put_indexing-longer : (b : Option Braces) (r : List Token) → length r ≤ length (put_indexing b r)
put_indexing-longer None r = omega arith
put_indexing-longer (Some b) r = omega (arith, put_braces-longer b r)

pub put_body-longer : (b : Body) (r : List Token) → length r ≤ length (put_body b r)
put_body-longer plain r = omega arith
put_body-longer (valued x) r = omega (arith, put-longer x r)
put_body-longer (priced n x) r = omega (arith, put-longer x r)

put_phrases-longer : (ps : List Phrase) (r : List Token) → length r ≤ length (put_phrases ps r)
put_phrases-longer [] r = omega arith
put_phrases-longer (p ∷ ps) r =
    omega (arith, put_optional-longer p.comma (p.word ∷ put_body p.body (put_phrases ps r)), put_body-longer p.body (put_phrases ps r), put_phrases-longer ps r)

put_condition-longer : (c : Condition) (r : List Token) → length r ≤ length (put_condition c r)
put_condition-longer unsaid r = omega arith
put_condition-longer (one m x o y) r = omega (arith, put-longer x (o ∷ put y r), put-longer y r)
put_condition-longer (between m x o y p z) r = omega (arith, put-longer x (o ∷ put y (p ∷ put z r)), put-longer y (p ∷ put z r), put-longer z r)

pub put_declaration-longer : (d : Declaration) (r : List Token) → length r < length (put_declaration d r)
put_declaration-longer (set w n ps e) r = omega (arith, put_phrases-longer ps (e ∷ r))
put_declaration-longer (param w n b ps e) r = omega (arith, put_indexing-longer b (put_phrases ps (e ∷ r)), put_phrases-longer ps (e ∷ r))
put_declaration-longer (check w b m x e) r = omega (arith, put_indexing-longer b (m ∷ put x (e ∷ r)), put-longer x (e ∷ r))
put_declaration-longer (node w n b c e) r = omega (arith, put_indexing-longer b (put_condition c (e ∷ r)), put_condition-longer c (e ∷ r))
put_declaration-longer (arc w n b ps e) r = omega (arith, put_indexing-longer b (put_phrases ps (e ∷ r)), put_phrases-longer ps (e ∷ r))
put_declaration-longer (objective w n p e) r = omega (arith, put_part-longer p (e ∷ r))
