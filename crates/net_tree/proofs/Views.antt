-- What the tree of each form is.
use Rattle.std.specs.Prelude.{◌+◌, ◌<◌, ◌≤◌, length, get_or, drop, ◌≡◌, ℕ, List, [], ◌∷◌, Option, None, Some, map}
use Rattle.std.proofs.Common.{sym, ap, ◌∙◌, add-one, arith}
use Rattle.std.proofs.Math.Seq.{drop-cons}
use Rattle.net_lex.specs.declared.token.Token.{Token}
use Rattle.net_tree.specs.declared.operator.OperatorWords.{OperatorWords as Operator}
use Rattle.net_tree.specs.declared.expr.Expr.{Expr}
use Rattle.net_tree.specs.declared.expr.Expr.TheVariants as e
use Rattle.net_tree.specs.declared.expr.LinkedOperand.{LinkedOperand, out-LinkedOperand}
use Rattle.net_tree.specs.declared.expr.Operands.{Operands, out-Operands}
use Rattle.net_tree.specs.declared.expr.Part.{Part as Part_of_code, out-Part}
use Rattle.net_tree.specs.declared.expr.Braces.{Braces as Braces_of_code}
use Rattle.net_tree.specs.declared.expr.Braces.TheVariants as b
use Rattle.net_tree.specs.declared.expr.Braces.TheOpen.{Expr-F, Braces-F}
use Rattle.net_tree.specs.declared.expr.Braces.TheFolds.{fold-roll-Expr, fold-roll-Braces, fold_out-LinkedOperand, fold_out-Part, fold_out-Operands}
use Rattle.net_tree.specs.declared.declaration.Phrase.{Phrase as Phrase_of_code}
use Rattle.net_tree.specs.declared.declaration.Decl.{Decl}
use Rattle.net_tree.specs.Tree.{Tree, Links, Braces, leaf, indexed, parens, tuple, negated, braced, signed, reduced, chain, choice, net, link, absent, part, empty, filled}
use Rattle.net_tree.specs.View.{tree, link_of, operands_of, part_of, braces_of, links_of, option_part, phrase_of, declaration_of, expr_step, link_step, part_step, braces_step, operands_step}

pub link_of-out : (l : LinkedOperand) → link_of l ≡ ((out-LinkedOperand l).operator, tree (out-LinkedOperand l).operand)
unfolding tree link_of operands_of part_of braces_of
link_of-out l = fold_out-LinkedOperand Braces Tree (Operator × Tree) (Tree × Links) (Token × Tree) braces_step expr_step link_step operands_step part_step l

pub part_of-out : (p : Part_of_code) → part_of p ≡ ((out-Part p).mark, tree (out-Part p).value)
unfolding tree link_of operands_of part_of braces_of
part_of-out p = fold_out-Part Braces Tree (Operator × Tree) (Tree × Links) (Token × Tree) braces_step expr_step link_step operands_step part_step p

pub series_of-out : (s : Operands) → operands_of s ≡ (tree (out-Operands s).first, links_of (out-Operands s).more)
unfolding tree link_of operands_of part_of braces_of
series_of-out s = fold_out-Operands Braces Tree (Operator × Tree) (Tree × Links) (Token × Tree) braces_step expr_step link_step operands_step part_step s

pub links_of-cons : (l : LinkedOperand) (ls : List LinkedOperand) → links_of (l ∷ ls) ≡ link (out-LinkedOperand l).operator (tree (out-LinkedOperand l).operand) (links_of ls)
links_of-cons l ls = ap (λ p. link p.0 p.1 (links_of ls)) (link_of-out l)

pub option_part-some : (p : Part_of_code) → option_part (Some p) ≡ part (out-Part p).mark (tree (out-Part p).value)
option_part-some p = ap (λ q. part q.0 q.1) (part_of-out p)

pub tree-leaf : (t : Token) → tree (e.Leaf t) ≡ leaf t
unfolding tree link_of operands_of part_of braces_of
tree-leaf t = ap tree (sym (e.rolls-Leaf t)) ∙ fold-roll-Expr Braces Tree (Operator × Tree) (Tree × Links) (Token × Tree) braces_step expr_step link_step operands_step part_step (Expr-F.Leaf t)

pub tree-indexed : (n o : Token) (s : Operands) (c : Token) → tree (e.Indexed (n, o, s, c)) ≡ indexed n o (tree (out-Operands s).first) (links_of (out-Operands s).more) c
unfolding tree link_of operands_of part_of braces_of
tree-indexed n o s c = ap tree (sym (e.rolls-Indexed (n, o, s, c))) ∙ fold-roll-Expr Braces Tree (Operator × Tree) (Tree × Links) (Token × Tree) braces_step expr_step link_step operands_step part_step (Expr-F.Indexed (n, o, s, c)) ∙ ap (λ q. indexed n o q.0 q.1 c) (series_of-out s)

pub tree-parens : (o : Token) (x : Expr) (c : Token) → tree (e.Parens (o, x, c)) ≡ parens o (tree x) c
unfolding tree link_of operands_of part_of braces_of
tree-parens o x c = ap tree (sym (e.rolls-Parens (o, x, c))) ∙ fold-roll-Expr Braces Tree (Operator × Tree) (Tree × Links) (Token × Tree) braces_step expr_step link_step operands_step part_step (Expr-F.Parens (o, x, c))

pub tree-tuple : (o : Token) (s : Operands) (c : Token) → tree (e.Tuple (o, s, c)) ≡ tuple o (tree (out-Operands s).first) (links_of (out-Operands s).more) c
unfolding tree link_of operands_of part_of braces_of
tree-tuple o s c = ap tree (sym (e.rolls-Tuple (o, s, c))) ∙ fold-roll-Expr Braces Tree (Operator × Tree) (Tree × Links) (Token × Tree) braces_step expr_step link_step operands_step part_step (Expr-F.Tuple (o, s, c)) ∙ ap (λ q. tuple o q.0 q.1 c) (series_of-out s)

pub tree-negated : (n o : Token) (x : Expr) (c : Token) → tree (e.Negated (n, o, x, c)) ≡ negated n o (tree x) c
unfolding tree link_of operands_of part_of braces_of
tree-negated n o x c = ap tree (sym (e.rolls-Negated (n, o, x, c))) ∙ fold-roll-Expr Braces Tree (Operator × Tree) (Tree × Links) (Token × Tree) braces_step expr_step link_step operands_step part_step (Expr-F.Negated (n, o, x, c))

pub tree-braced : (x : Braces_of_code) → tree (e.Braced x) ≡ braced (braces_of x)
unfolding tree link_of operands_of part_of braces_of
tree-braced x = ap tree (sym (e.rolls-Braced x)) ∙ fold-roll-Expr Braces Tree (Operator × Tree) (Tree × Links) (Token × Tree) braces_step expr_step link_step operands_step part_step (Expr-F.Braced x)

pub tree-signed : (s : Token) (x : Expr) → tree (e.Signed (s, x)) ≡ signed s (tree x)
unfolding tree link_of operands_of part_of braces_of
tree-signed s x = ap tree (sym (e.rolls-Signed (s, x))) ∙ fold-roll-Expr Braces Tree (Operator × Tree) (Tree × Links) (Token × Tree) braces_step expr_step link_step operands_step part_step (Expr-F.Signed (s, x))

pub tree-reduced : (r : Token) (y : Braces_of_code) (x : Expr) → tree (e.Reduction (r, y) x) ≡ reduced r (braces_of y) (tree x)
unfolding tree link_of operands_of part_of braces_of
tree-reduced r y x = ap tree (sym (e.rolls-Reduction (r, y) x)) ∙ fold-roll-Expr Braces Tree (Operator × Tree) (Tree × Links) (Token × Tree) braces_step expr_step link_step operands_step part_step (Expr-F.Reduction (r, y) x)

pub tree-chain : (n : ℕ) (s : Operands) → tree (e.Chain n s) ≡ chain n (tree (out-Operands s).first) (links_of (out-Operands s).more)
unfolding tree link_of operands_of part_of braces_of
tree-chain n s = ap tree (sym (e.rolls-Chain n s)) ∙ fold-roll-Expr Braces Tree (Operator × Tree) (Tree × Links) (Token × Tree) braces_step expr_step link_step operands_step part_step (Expr-F.Chain n s) ∙ ap (λ q. chain n q.0 q.1) (series_of-out s)

pub tree-net : (p : Option Token × Token) → tree (e.Net p) ≡ net p.0 p.1
unfolding tree link_of operands_of part_of braces_of
tree-net p = ap tree (sym (e.rolls-Net p)) ∙ fold-roll-Expr Braces Tree (Operator × Tree) (Tree × Links) (Token × Tree) braces_step expr_step link_step operands_step part_step (Expr-F.Net p)

choice-alone : (i t : Part_of_code) → tree (e.If i t None) ≡ choice (part_of i).0 (part_of i).1 (part_of t).0 (part_of t).1 absent
unfolding tree link_of operands_of part_of braces_of
choice-alone i t = ap tree (sym (e.rolls-If i t None)) ∙ fold-roll-Expr Braces Tree (Operator × Tree) (Tree × Links) (Token × Tree) braces_step expr_step link_step operands_step part_step (Expr-F.If i t None)

choice-both : (i t p : Part_of_code) → tree (e.If i t (Some p)) ≡ choice (part_of i).0 (part_of i).1 (part_of t).0 (part_of t).1 (option_part (Some p))
unfolding tree link_of operands_of part_of braces_of
choice-both i t p = ap tree (sym (e.rolls-If i t (Some p))) ∙ fold-roll-Expr Braces Tree (Operator × Tree) (Tree × Links) (Token × Tree) braces_step expr_step link_step operands_step part_step (Expr-F.If i t (Some p))

choice-parts : (i t : Part_of_code) (p : Option Part_of_code) → tree (e.If i t p) ≡ choice (part_of i).0 (part_of i).1 (part_of t).0 (part_of t).1 (option_part p)
choice-parts i t None = choice-alone i t
choice-parts i t (Some p) = choice-both i t p

pub tree-choice : (i t : Part_of_code) (p : Option Part_of_code)
    → tree (e.If i t p) ≡ choice (out-Part i).mark (tree (out-Part i).value) (out-Part t).mark (tree (out-Part t).value) (option_part p)
tree-choice i t p = choice-parts i t p ∙ ap (λ q. choice q.0 q.1 (part_of t).0 (part_of t).1 (option_part p)) (part_of-out i) ∙ ap (λ q. choice (out-Part i).mark (tree (out-Part i).value) q.0 q.1 (option_part p)) (part_of-out t)

empty-alone : (o c : Token) → braces_of (b.Empty o None c) ≡ empty o absent c
unfolding tree link_of operands_of part_of braces_of
empty-alone o c = ap braces_of (sym (b.rolls-Empty o None c)) ∙ fold-roll-Braces Braces Tree (Operator × Tree) (Tree × Links) (Token × Tree) braces_step expr_step link_step operands_step part_step (Braces-F.Empty o None c)

empty-with : (o : Token) (p : Part_of_code) (c : Token) → braces_of (b.Empty o (Some p) c) ≡ empty o (option_part (Some p)) c
unfolding tree link_of operands_of part_of braces_of
empty-with o p c = ap braces_of (sym (b.rolls-Empty o (Some p) c)) ∙ fold-roll-Braces Braces Tree (Operator × Tree) (Tree × Links) (Token × Tree) braces_step expr_step link_step operands_step part_step (Braces-F.Empty o (Some p) c)

pub braces_of-empty : (o : Token) (p : Option Part_of_code) (c : Token) → braces_of (b.Empty o p c) ≡ empty o (option_part p) c
braces_of-empty o None c = empty-alone o c
braces_of-empty o (Some p) c = empty-with o p c

filled-alone : (o : Token) (s : Operands) (c : Token) → braces_of (b.Filled o s None c) ≡ filled o (operands_of s).0 (operands_of s).1 absent c
unfolding tree link_of operands_of part_of braces_of
filled-alone o s c = ap braces_of (sym (b.rolls-Filled o s None c)) ∙ fold-roll-Braces Braces Tree (Operator × Tree) (Tree × Links) (Token × Tree) braces_step expr_step link_step operands_step part_step (Braces-F.Filled o s None c)

filled-with : (o : Token) (s : Operands) (p : Part_of_code) (c : Token) → braces_of (b.Filled o s (Some p) c) ≡ filled o (operands_of s).0 (operands_of s).1 (option_part (Some p)) c
unfolding tree link_of operands_of part_of braces_of
filled-with o s p c = ap braces_of (sym (b.rolls-Filled o s (Some p) c)) ∙ fold-roll-Braces Braces Tree (Operator × Tree) (Tree × Links) (Token × Tree) braces_step expr_step link_step operands_step part_step (Braces-F.Filled o s (Some p) c)

filled-parts : (o : Token) (s : Operands) (p : Option Part_of_code) (c : Token) → braces_of (b.Filled o s p c) ≡ filled o (operands_of s).0 (operands_of s).1 (option_part p) c
filled-parts o s None c = filled-alone o s c
filled-parts o s (Some p) c = filled-with o s p c

pub braces_of-filled : (o : Token) (s : Operands) (p : Option Part_of_code) (c : Token)
    → braces_of (b.Filled o s p c) ≡ filled o (tree (out-Operands s).first) (links_of (out-Operands s).more) (option_part p) c
braces_of-filled o s p c = filled-parts o s p c ∙ ap (λ q. filled o q.0 q.1 (option_part p) c) (series_of-out s)

-- for each function that builds or reads a tree
pub ruleset views = (tree-leaf, tree-indexed, tree-parens, tree-tuple, tree-negated, tree-braced, tree-signed, tree-reduced, tree-chain, tree-net, tree-choice, braces_of-empty, braces_of-filled, link_of-out, part_of-out, option_part-some, links_of-cons)

drop_at : {A : Type 0} (ls : List A) (i : ℕ) (l : A) → i < length ls → l ≡ get_or ls i l → drop i ls ≡ l ∷ drop (i + 1) ls
drop_at ls i l h e = let a = drop-cons ls i l h in let b = add-one i in cc

-- what is left of the links at one of them
pub next_link : (ls : List LinkedOperand) (i : ℕ) (l : LinkedOperand) → i < length ls → l ≡ get_or ls i l → links_of (drop i ls) ≡ link (out-LinkedOperand l).operator (tree (out-LinkedOperand l).operand) (links_of (drop (i + 1) ls))
next_link ls i l h e = ap links_of (drop_at ls i l h e) ∙ links_of-cons l (drop (i + 1) ls)

-- the first link and the others
pub first_link : (ls : List LinkedOperand) (l : LinkedOperand) → 1 ≤ length ls → l ≡ get_or ls 0 l → links_of ls ≡ link (out-LinkedOperand l).operator (tree (out-LinkedOperand l).operand) (links_of (drop 1 ls))
first_link [] l a e = absurd (omega arith)
first_link (x ∷ ls) l a e = links_of-cons x ls ∙ ap (λ (k : LinkedOperand). link (out-LinkedOperand k).operator (tree (out-LinkedOperand k).operand) (links_of ls)) (sym e)

-- what is left of the phrases and of the declarations at one of them
pub next_phrase : (ps : List Phrase_of_code) (i : ℕ) (p : Phrase_of_code) → i < length ps → p ≡ get_or ps i p → map phrase_of (drop i ps) ≡ phrase_of p ∷ map phrase_of (drop (i + 1) ps)
next_phrase ps i p h e = ap (map phrase_of) (drop_at ps i p h e)

pub next_declaration : (ds : List Decl) (i : ℕ) (d : Decl) → i < length ds → d ≡ get_or ds i d → map declaration_of (drop i ds) ≡ declaration_of d ∷ map declaration_of (drop (i + 1) ds)
next_declaration ds i d h e = ap (map declaration_of) (drop_at ds i d h e)
