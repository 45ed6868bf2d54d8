-- The tree of an expression of each form, with its parts as the code reads them.
use Rattle.std.specs.Prelude.{◌≡◌, ℕ, List, Option}
use Rattle.std.proofs.Common.{sym, ap, ◌∙◌}
use Rattle.net_lex.specs.declared.token.Token.{Token}
use Rattle.net_tree.specs.declared.expr.Expr.{Expr}
use Rattle.net_tree.specs.declared.expr.Expr.TheVariants as e
use Rattle.net_tree.specs.declared.expr.LinkedOperand.{LinkedOperand}
use Rattle.net_tree.specs.declared.expr.Operands.{Operands, out-Operands}
use Rattle.net_tree.specs.declared.expr.Part.{Part, out-Part}
use Rattle.net_tree.specs.declared.expr.Braces.{Braces}
use Rattle.net_tree.specs.declared.expr.Braces.TheVariants as b
use Rattle.net_tree.specs.Tree.{indexed, parens, tuple, negated, braced, signed, reduced, chain, choice, filled}
use Rattle.net_tree.specs.View.{tree, links_of, braces_of, option_part}
use Rattle.net_tree.proofs.Views.{tree-indexed, tree-parens, tree-tuple, tree-negated, tree-braced, tree-signed, tree-reduced, tree-chain, tree-choice, braces_of-filled}

pub in_indexed : (x : Expr) (p q : Token × Token × Operands × Token) (m : List LinkedOperand) → x ≡ e.Indexed p → q ≡ p → m ≡ (out-Operands q.2).more
    → tree x ≡ indexed q.0 q.1 (tree (out-Operands q.2).first) (links_of m) q.3
in_indexed x p q m i h k =
    ap tree (i ∙ ap e.Indexed (sym h)) ∙ tree-indexed q.0 q.1 q.2 q.3
    ∙ ap (λ (l : List LinkedOperand). indexed q.0 q.1 (tree (out-Operands q.2).first) (links_of l) q.3) (sym k)

pub in_parens : (x : Expr) (p q : Token × Expr × Token) → x ≡ e.Parens p → q ≡ p → tree x ≡ parens q.0 (tree q.1) q.2
in_parens x p q i h = ap tree (i ∙ ap e.Parens (sym h)) ∙ tree-parens q.0 q.1 q.2

pub in_tuple : (x : Expr) (p q : Token × Operands × Token) (m : List LinkedOperand) → x ≡ e.Tuple p → q ≡ p → m ≡ (out-Operands q.1).more
    → tree x ≡ tuple q.0 (tree (out-Operands q.1).first) (links_of m) q.2
in_tuple x p q m i h k =
    ap tree (i ∙ ap e.Tuple (sym h)) ∙ tree-tuple q.0 q.1 q.2
    ∙ ap (λ (l : List LinkedOperand). tuple q.0 (tree (out-Operands q.1).first) (links_of l) q.2) (sym k)

pub in_negated : (x : Expr) (p q : Token × Token × Expr × Token) → x ≡ e.Negated p → q ≡ p → tree x ≡ negated q.0 q.1 (tree q.2) q.3
in_negated x p q i h = ap tree (i ∙ ap e.Negated (sym h)) ∙ tree-negated q.0 q.1 q.2 q.3

pub in_braced : (x : Expr) (p q : Braces) → x ≡ e.Braced p → q ≡ p → tree x ≡ braced (braces_of q)
in_braced x p q i h = ap tree (i ∙ ap e.Braced (sym h)) ∙ tree-braced q

pub in_signed : (x : Expr) (p q : Token × Expr) → x ≡ e.Signed p → q ≡ p → tree x ≡ signed q.0 (tree q.1)
in_signed x p q i h = ap tree (i ∙ ap e.Signed (sym h)) ∙ tree-signed q.0 q.1

pub in_reduced : (x : Expr) (p q : Token × Braces) (b y : Expr) → x ≡ e.Reduction p b → q ≡ p → y ≡ b → tree x ≡ reduced q.0 (braces_of q.1) (tree y)
in_reduced x p q b y i h k = ap tree (i ∙ ap (λ r. e.Reduction r b) (sym h) ∙ ap (e.Reduction q) (sym k)) ∙ tree-reduced q.0 q.1 y

pub in_chain : (x : Expr) (n : ℕ) (p q : Operands) (m : List LinkedOperand) → x ≡ e.Chain n p → q ≡ p → m ≡ (out-Operands q).more
    → tree x ≡ chain n (tree (out-Operands q).first) (links_of m)
in_chain x n p q m i h k =
    ap tree (i ∙ ap (e.Chain n) (sym h)) ∙ tree-chain n q ∙ ap (λ (l : List LinkedOperand). chain n (tree (out-Operands q).first) (links_of l)) (sym k)

pub in_choice : (x : Expr) (a b j u : Part) (p : Option Part) → x ≡ e.If a b p → j ≡ a → u ≡ b
    → tree x ≡ choice (out-Part j).mark (tree (out-Part j).value) (out-Part u).mark (tree (out-Part u).value) (option_part p)
in_choice x a b j u p i h k = ap tree (i ∙ ap (λ r. e.If r b p) (sym h) ∙ ap (λ r. e.If j r p) (sym k)) ∙ tree-choice j u p

pub in_filled : (x : Braces) (o : Token) (p : Operands) (r : Option Part) (c : Token) (m : List LinkedOperand) → x ≡ b.Filled o p r c → m ≡ (out-Operands p).more
    → braces_of x ≡ filled o (tree (out-Operands p).first) (links_of m) (option_part r) c
in_filled x o p r c m i k =
    ap braces_of i ∙ braces_of-filled o p r c ∙ ap (λ (l : List LinkedOperand). filled o (tree (out-Operands p).first) (links_of l) (option_part r) c) (sym k)
