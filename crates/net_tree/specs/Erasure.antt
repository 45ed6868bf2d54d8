-- The abstract syntax of a syntax tree: the same expression or declaration without its punctuation, and with its operators decoded.
use Rattle.std.specs.Prelude.{List, map, Option, None, Some}
use Rattle.net_tree.specs.declared.operator.OperatorWords.TheVariants.{One}
use Rattle.net_tree.specs.Operations.{operation, reduction, is_minus, has_minus, is_outflow, is_minimize}
use Rattle.net_tree.specs.Role.{role_of}
use Rattle.net_tree.specs.Syntax as forms
use Rattle.net_tree.specs.Tree.{Tree, Links, Part, Braces, leaf, indexed, parens, tuple, negated, braced, signed, reduced, chain, choice, net, none, link, absent, part, empty, filled, Body, plain, valued, priced, Phrase, Condition, unsaid, one, between, Declaration, set, param, check, node, arc, objective}

abbrev mutual
  pub expression : Tree → forms.Expression
  expression (leaf t) = forms.leaf t
  expression (indexed n o x l c) = forms.indexed n.text (expression x) (expressions l)
  expression (parens o x c) = forms.parens (expression x)
  expression (tuple o x l c) = forms.tuple (expression x) (expressions l)
  expression (negated n o x c) = forms.negated (expression x)
  expression (braced b) = forms.braced (braces b)
  expression (signed s x) = forms.signed (is_minus s) (expression x)
  expression (reduced w b x) = forms.reduced (reduction w) (braces b) (expression x)
  expression (chain n x l) = forms.chain (expression x) (operands l)
  expression (choice i x t y e) = forms.conditional (expression x) (expression y) (clause e)
  expression (net s w) = forms.net (has_minus s) (is_outflow w)

  -- the expressions of a list
  pub expressions : Links → forms.Expressions
  expressions none = forms.no_more
  expressions (link o x l) = forms.more (expression x) (expressions l)

  -- operators with their operands
  pub operands : Links → forms.Operands
  operands none = forms.none
  operands (link o x l) = forms.apply (operation o) (expression x) (operands l)

  pub clause : Part → forms.Clause
  clause absent = forms.absent
  clause (part m x) = forms.present (expression x)

  pub braces : Braces → forms.Braces
  braces (empty o p c) = forms.empty (clause p)
  braces (filled o x l p c) = forms.filled (expression x) (expressions l) (clause p)

abbrev pub indexing : Option Braces → Option forms.Braces
indexing None = None
indexing (Some b) = Some (braces b)

abbrev pub body : Body → forms.Body
body plain = forms.plain
body (valued x) = forms.valued (expression x)
body (priced n x) = forms.priced n.text (expression x)

abbrev pub phrase : Phrase → forms.Phrase
phrase p = record { word = role_of p.word; body = body p.body }

abbrev pub condition : Condition → forms.Condition
condition unsaid = forms.unsaid
condition (one m x o y) = forms.one (expression x) (operation (One o)) (expression y)
condition (between m x o y p z) = forms.between (expression x) (operation (One o)) (expression y) (operation (One p)) (expression z)

abbrev pub declaration : Declaration → forms.Declaration
declaration (set w n ps e) = forms.set n.text (map phrase ps)
declaration (param w n b ps e) = forms.param n.text (indexing b) (map phrase ps)
declaration (check w b m x e) = forms.check (indexing b) (expression x)
declaration (node w n b c e) = forms.node n.text (indexing b) (condition c)
declaration (arc w n b ps e) = forms.arc n.text (indexing b) (map phrase ps)
declaration (objective w n p e) = forms.objective (is_minimize w) n.text (clause p)

abbrev pub declarations : List Declaration → List forms.Declaration
declarations ds = map declaration ds
