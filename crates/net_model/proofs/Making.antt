-- The trees of nodes that are made of a row of expressions.
use Rattle.std.specs.Prelude.{◌≡◌, ℕ, List, Option}
use Rattle.std.proofs.Common.{sym, ap, ◌∙◌}
use Rattle.net_lex.specs.declared.token.Token.{Token}
use Rattle.net_tree.specs.declared.expr.Expr.{Expr}
use Rattle.net_tree.specs.declared.expr.Expr.TheVariants as e
use Rattle.net_tree.specs.declared.expr.Braces.TheVariants as b
use Rattle.net_tree.specs.declared.expr.LinkedOperand.{LinkedOperand, roll-LinkedOperand}
use Rattle.net_tree.specs.declared.operator.OperatorWords.{OperatorWords as Operator}
use Rattle.net_tree.specs.declared.expr.Braces.TheFolds.{fold-roll-Operands, fold-roll-LinkedOperand}
use Rattle.net_tree.specs.declared.expr.Part.{Part}
use Rattle.net_tree.specs.declared.expr.Operands.{roll-Operands, out-Operands}
use Rattle.net_tree.specs.Tree.{Tree, Links, Braces, indexed, tuple, chain, filled}
use Rattle.net_tree.specs.View.{tree, link_of, operands_of, part_of, links_of, braces_of, option_part, expr_step, link_step, part_step, braces_step, operands_step}
use Rattle.net_tree.proofs.Views.{tree-indexed, tree-tuple, tree-chain, braces_of-filled, series_of-out}

pub link_made : (o : Operator) (x : Expr) → ◌≡◌ {A = Operator × Tree} (link_of (roll-LinkedOperand (record { operator = o; operand = x }))) (o, tree x)
unfolding tree link_of operands_of part_of braces_of
link_made o x = fold-roll-LinkedOperand Braces Tree (Operator × Tree) (Tree × Links) (Token × Tree) braces_step expr_step link_step operands_step part_step (record { operator = o; operand = x })

pub series_made : (x : Expr) (l : List LinkedOperand) → ◌≡◌ {A = Tree × Links} (operands_of (roll-Operands (record { first = x; more = l }))) (tree x, links_of l)
unfolding tree link_of operands_of part_of braces_of
series_made x l = fold-roll-Operands Braces Tree (Operator × Tree) (Tree × Links) (Token × Tree) braces_step expr_step link_step operands_step part_step (record { first = x; more = l })

opened : (x : Expr) (l : List LinkedOperand) → ◌≡◌ {A = Tree × Links} (tree (out-Operands (roll-Operands (record { first = x; more = l }))).first, links_of (out-Operands (roll-Operands (record { first = x; more = l }))).more) (tree x, links_of l)
opened x l = sym (series_of-out (roll-Operands (record { first = x; more = l }))) ∙ series_made x l

pub chain_made : (n : ℕ) (x : Expr) (l : List LinkedOperand) → tree (e.Chain n (roll-Operands (record { first = x; more = l }))) ≡ chain n (tree x) (links_of l)
chain_made n x l = tree-chain n (roll-Operands (record { first = x; more = l })) ∙ ap (λ (q : Tree × Links). chain n q.0 q.1) (opened x l)

pub tuple_made : (o : Token) (x : Expr) (l : List LinkedOperand) (c : Token) → tree (e.Tuple (o, roll-Operands (record { first = x; more = l }), c)) ≡ tuple o (tree x) (links_of l) c
tuple_made o x l c = tree-tuple o (roll-Operands (record { first = x; more = l })) c ∙ ap (λ (q : Tree × Links). tuple o q.0 q.1 c) (opened x l)

pub indexed_made : (n o : Token) (x : Expr) (l : List LinkedOperand) (c : Token) → tree (e.Indexed (n, o, roll-Operands (record { first = x; more = l }), c)) ≡ indexed n o (tree x) (links_of l) c
indexed_made n o x l c = tree-indexed n o (roll-Operands (record { first = x; more = l })) c ∙ ap (λ (q : Tree × Links). indexed n o q.0 q.1 c) (opened x l)

pub filled_made : (o : Token) (x : Expr) (l : List LinkedOperand) (p : Option Part) (c : Token) → braces_of (b.Filled o (roll-Operands (record { first = x; more = l })) p c) ≡ filled o (tree x) (links_of l) (option_part p) c
filled_made o x l p c = braces_of-filled o (roll-Operands (record { first = x; more = l })) p c ∙ ap (λ (q : Tree × Links). filled o q.0 q.1 (option_part p) c) (opened x l)

pub ruleset makings = (chain_made, tuple_made, indexed_made, filled_made)
