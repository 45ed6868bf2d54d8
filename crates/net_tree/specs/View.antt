-- The syntax trees of the code, as trees of the specification.
use Rattle.std.specs.Prelude.{List, [], ◌∷◌, Option, None, Some, map}
use Rattle.net_lex.specs.declared.token.Token.{Token}
use Rattle.net_tree.specs.declared.operator.OperatorWords.{OperatorWords as Operator}
use Rattle.net_tree.specs.declared.expr.Expr.{Expr}
use Rattle.net_tree.specs.declared.expr.Operands.{Operands}
use Rattle.net_tree.specs.declared.expr.LinkedOperand.{LinkedOperand}
use Rattle.net_tree.specs.declared.expr.Part.{Part as Part_of_code}
use Rattle.net_tree.specs.declared.expr.Braces.{Braces as Braces_of_code}
use Rattle.net_tree.specs.declared.expr.Braces.TheOpen.{Expr-F, LinkedOperand-F, Part-F, Braces-F, Operands-F}
use Rattle.net_tree.specs.declared.expr.Braces.TheFolds.{fold-Expr, fold-LinkedOperand, fold-Part, fold-Braces, fold-Operands}
use Rattle.net_tree.specs.declared.declaration.Body.{Body as Body_of_code}
use Rattle.net_tree.specs.declared.declaration.Body.TheVariants as bodies
use Rattle.net_tree.specs.declared.declaration.Phrase.{Phrase as Phrase_of_code}
use Rattle.net_tree.specs.declared.declaration.NetCond.{NetCond}
use Rattle.net_tree.specs.declared.declaration.NetCond.TheVariants as conditions
use Rattle.net_tree.specs.declared.declaration.Decl.{Decl}
use Rattle.net_tree.specs.declared.declaration.Decl.TheVariants as declarations
use Rattle.net_tree.specs.declared.declaration.Model.{Model}
use Rattle.net_tree.specs.Tree.{Tree, Links, Part, Braces, leaf, indexed, parens, tuple, negated, braced, signed, reduced, chain, choice, net, none, link, absent, part, empty, filled, Body, plain, valued, priced, Phrase, Condition, unsaid, one, between, Declaration, set, param, check, node, arc, objective}

-- the links with these operators and operands
abbrev pub links_from : List (Operator × Tree) → Links
links_from [] = none
links_from (l ∷ ls) = link l.0 l.1 (links_from ls)

abbrev pub part_or_absent : Option (Token × Tree) → Part
part_or_absent None = absent
part_or_absent (Some p) = part p.0 p.1

-- one step of the fold, for each type
abbrev pub expr_step : Expr-F Braces Tree (Operator × Tree) (Tree × Links) (Token × Tree) → Tree
expr_step (Expr-F.Leaf t) = leaf t
expr_step (Expr-F.Indexed p) = indexed p.0 p.1 p.2.0 p.2.1 p.3
expr_step (Expr-F.Parens p) = parens p.0 p.1 p.2
expr_step (Expr-F.Tuple p) = tuple p.0 p.1.0 p.1.1 p.2
expr_step (Expr-F.Negated p) = negated p.0 p.1 p.2 p.3
expr_step (Expr-F.Braced b) = braced b
expr_step (Expr-F.Signed p) = signed p.0 p.1
expr_step (Expr-F.Reduction p x) = reduced p.0 p.1 x
expr_step (Expr-F.Chain n s) = chain n s.0 s.1
expr_step (Expr-F.If i t e) = choice i.0 i.1 t.0 t.1 (part_or_absent e)
expr_step (Expr-F.Net p) = net p.0 p.1

abbrev pub operands_step : Operands-F Braces Tree (Operator × Tree) (Tree × Links) (Token × Tree) → Tree × Links
operands_step s = (s.first, links_from s.more)

abbrev pub link_step : LinkedOperand-F Braces Tree (Operator × Tree) (Tree × Links) (Token × Tree) → Operator × Tree
link_step l = (l.operator, l.operand)

abbrev pub part_step : Part-F Braces Tree (Operator × Tree) (Tree × Links) (Token × Tree) → Token × Tree
part_step p = (p.mark, p.value)

abbrev pub braces_step : Braces-F Braces Tree (Operator × Tree) (Tree × Links) (Token × Tree) → Braces
braces_step (Braces-F.Empty o p c) = empty o (part_or_absent p) c
braces_step (Braces-F.Filled o s p c) = filled o s.0 s.1 (part_or_absent p) c

-- the tree of an expression
unfoldable pub tree : Expr → Tree
tree = fold-Expr Braces Tree (Operator × Tree) (Tree × Links) (Token × Tree) braces_step expr_step link_step operands_step part_step

unfoldable pub link_of : LinkedOperand → Operator × Tree
link_of = fold-LinkedOperand Braces Tree (Operator × Tree) (Tree × Links) (Token × Tree) braces_step expr_step link_step operands_step part_step

unfoldable pub part_of : Part_of_code → Token × Tree
part_of = fold-Part Braces Tree (Operator × Tree) (Tree × Links) (Token × Tree) braces_step expr_step link_step operands_step part_step

unfoldable pub operands_of : Operands → Tree × Links
operands_of = fold-Operands Braces Tree (Operator × Tree) (Tree × Links) (Token × Tree) braces_step expr_step link_step operands_step part_step

unfoldable pub braces_of : Braces_of_code → Braces
braces_of = fold-Braces Braces Tree (Operator × Tree) (Tree × Links) (Token × Tree) braces_step expr_step link_step operands_step part_step

abbrev pub links_of : List LinkedOperand → Links
links_of ls = links_from (map link_of ls)

abbrev pub option_part : Option Part_of_code → Part
option_part None = absent
option_part (Some p) = part (part_of p).0 (part_of p).1

abbrev pub indexing_of : Option Braces_of_code → Option Braces
indexing_of None = None
indexing_of (Some b) = Some (braces_of b)

abbrev pub body_of : Body_of_code → Body
body_of bodies.Plain = plain
body_of (bodies.Valued x) = valued (tree x)
body_of (bodies.Priced n x) = priced n (tree x)

abbrev pub phrase_of : Phrase_of_code → Phrase
phrase_of p = record { comma = p.comma; word = p.word; body = body_of p.body }

abbrev pub condition_of : NetCond → Condition
condition_of conditions.Absent = unsaid
condition_of (conditions.One m x o y) = one m (tree x) o (tree y)
condition_of (conditions.Between m x o y p z) = between m (tree x) o (tree y) p (tree z)

abbrev pub declaration_of : Decl → Declaration
declaration_of (declarations.Set w n ps e) = set w n (map phrase_of ps) e
declaration_of (declarations.Param w n b ps e) = param w n (indexing_of b) (map phrase_of ps) e
declaration_of (declarations.Check w b m x e) = check w (indexing_of b) m (tree x) e
declaration_of (declarations.Node w n b c e) = node w n (indexing_of b) (condition_of c) e
declaration_of (declarations.Arc w n b ps e) = arc w n (indexing_of b) (map phrase_of ps) e
declaration_of (declarations.Objective w n p e) = objective w n (option_part p) e

-- the declarations of a model, in order
abbrev pub model : Model → List Declaration
model m = map declaration_of m.declarations
