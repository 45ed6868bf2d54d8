-- The tokens of a tree, in order. `put x r` is the tokens of x followed by r.
use Rattle.std.specs.Prelude.{List, [], ◌∷◌, Option, None, Some}
use Rattle.net_lex.specs.declared.token.Token.{Token}
use Rattle.net_tree.specs.declared.operator.OperatorWords.{OperatorWords as Operator}
use Rattle.net_tree.specs.declared.operator.OperatorWords.TheVariants.{One, Two}
use Rattle.net_tree.specs.Tree.{Tree, Links, Part, Braces, leaf, indexed, parens, tuple, negated, braced, signed, reduced, chain, choice, net, none, link, absent, part, empty, filled, Body, plain, valued, priced, Phrase, Condition, unsaid, one, between, Declaration, set, param, check, node, arc, objective}

abbrev pub put_operator : Operator → List Token → List Token
put_operator (One t) r = t ∷ r
put_operator (Two t u) r = t ∷ u ∷ r

abbrev pub put_optional : Option Token → List Token → List Token
put_optional None r = r
put_optional (Some t) r = t ∷ r

abbrev mutual
  pub put : Tree → List Token → List Token
  put (leaf t) r = t ∷ r
  put (indexed n o x l c) r = n ∷ o ∷ put x (put_links l (c ∷ r))
  put (parens o x c) r = o ∷ put x (c ∷ r)
  put (tuple o x l c) r = o ∷ put x (put_links l (c ∷ r))
  put (negated n o x c) r = n ∷ o ∷ put x (c ∷ r)
  put (braced b) r = put_braces b r
  put (signed s x) r = s ∷ put x r
  put (reduced w b x) r = w ∷ put_braces b (put x r)
  put (chain n x l) r = put x (put_links l r)
  put (choice i x t y e) r = i ∷ put x (t ∷ put y (put_part e r))
  put (net s w) r = put_optional s (w ∷ r)

  pub put_links : Links → List Token → List Token
  put_links none r = r
  put_links (link o x l) r = put_operator o (put x (put_links l r))

  pub put_part : Part → List Token → List Token
  put_part absent r = r
  put_part (part m x) r = m ∷ put x r

  pub put_braces : Braces → List Token → List Token
  put_braces (empty o p c) r = o ∷ put_part p (c ∷ r)
  put_braces (filled o x l p c) r = o ∷ put x (put_links l (put_part p (c ∷ r)))

abbrev pub put_indexing : Option Braces → List Token → List Token
put_indexing None r = r
put_indexing (Some b) r = put_braces b r

abbrev pub put_body : Body → List Token → List Token
put_body plain r = r
put_body (valued x) r = put x r
put_body (priced n x) r = n ∷ put x r

abbrev pub put_phrases : List Phrase → List Token → List Token
put_phrases [] r = r
put_phrases (p ∷ ps) r = put_optional p.comma (p.word ∷ put_body p.body (put_phrases ps r))

abbrev pub put_condition : Condition → List Token → List Token
put_condition unsaid r = r
put_condition (one m x o y) r = m ∷ put x (o ∷ put y r)
put_condition (between m x o y p z) r = m ∷ put x (o ∷ put y (p ∷ put z r))

abbrev pub put_declaration : Declaration → List Token → List Token
put_declaration (set w n ps e) r = w ∷ n ∷ put_phrases ps (e ∷ r)
put_declaration (param w n b ps e) r = w ∷ n ∷ put_indexing b (put_phrases ps (e ∷ r))
put_declaration (check w b m x e) r = w ∷ put_indexing b (m ∷ put x (e ∷ r))
put_declaration (node w n b c e) r = w ∷ n ∷ put_indexing b (put_condition c (e ∷ r))
put_declaration (arc w n b ps e) r = w ∷ n ∷ put_indexing b (put_phrases ps (e ∷ r))
put_declaration (objective w n p e) r = w ∷ n ∷ put_part p (e ∷ r)

-- the tokens of a model
abbrev pub print : List Declaration → List Token
print [] = []
print (d ∷ ds) = put_declaration d (print ds)
