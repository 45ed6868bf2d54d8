-- Each expression of the grammar is the abstract syntax of a well-formed tree with the same tokens.
use Rattle.std.specs.Prelude.{◌≡◌, ◌≤◌, ◌<◌, ℕ, suc, min, Bool, true, false, nat_eq, if◌then◌else◌, List, codes, Option, None, Some}
use Rattle.std.proofs.Common.{refl, sym, ap, ◌∙◌, subst, inl, inr, arith}
use Rattle.std.proofs.lemmas.Bool.Decides.{nat_tests}
use Rattle.net_lex.specs.declared.token.Kind.TheVariants as kinds
use Rattle.net_lex.specs.declared.token.Token.{Token}
use Rattle.net_tree.specs.Erasure.{expression, expressions, operands, clause, braces, indexing}
use Rattle.net_tree.specs.Precedence.{of_reduction, of_product, of_sum, of_union, of_relation, of_or, of_if}
use Rattle.net_tree.specs.Print.{put, put_links, put_part, put_braces, put_indexing}
use Rattle.net_tree.specs.Role.{marks, role_of, is_not}
use Rattle.net_tree.specs.Syntax as forms
use Rattle.net_tree.specs.Tree.{Tree, Links, Part, Braces, leaf, indexed, parens, tuple, negated, braced, signed, reduced, chain, choice, net, none, link, absent, part, empty, filled}
use Rattle.net_tree.specs.declared.operator.OperatorWords.TheVariants.{One}
use Rattle.net_tree.specs.WellFormed.{precedence, is_value, IsWellFormed, AreWellFormed, AreBraces}
use Rattle.net_tree.specs.WellFormed as trees
use Rattle.net_tree.specs.Declarations as declarations
use Rattle.net_model.specs.Grammar.{room, of_value, IsExpression, AreFurther, AreOperands, IsElse, IsFilter, IsBraces, IsIndexing, IsValue}
use Rattle.net_model.proofs.GrammarTokens.{Has, has-role, passes}
use Rattle.net_model.proofs.GrammarSpelled.{colon-is, open-is, close-is, open_brace-is, close_brace-is, open_square-is, close_square-is, not-is, if-is, then-is, else-is, leaf-is, name-is, sign-sound, reducer-sound, operator-sound}

-- a well-formed tree of this expression, with these tokens before rest
pub record IsOf (r : ℕ) (x : forms.Expression) (ts rest : List Token) : Type 0 where
  pub tree : Tree
  pub text : put tree rest ≡ ts
  pub level : IsWellFormed tree
  pub within : precedence tree ≤ r
  pub same : expression tree ≡ x

pub record IsListOf (r : ℕ) (xs : forms.Expressions) (ts rest : List Token) : Type 0 where
  pub links : Links
  pub text : put_links links rest ≡ ts
  pub level : (k : ℕ) → AreWellFormed 0 r k links
  pub same : expressions links ≡ xs

record AreOf (k n : ℕ) (os : forms.Operands) (ts rest : List Token) : Type 0 where
  pub links : Links
  pub text : put_links links rest ≡ ts
  pub level : AreWellFormed n n k links
  pub same : operands links ≡ os

pub record IsPartOf (P : Part → Type 0) (p : forms.Clause) (ts rest : List Token) : Type 0 where
  pub shape : Part
  pub text : put_part shape rest ≡ ts
  pub level : P shape
  pub same : clause shape ≡ p

pub record IsBracesOf (b : forms.Braces) (ts rest : List Token) : Type 0 where
  pub shape : Braces
  pub text : put_braces shape rest ≡ ts
  pub level : AreBraces shape
  pub same : braces shape ≡ b

-- an operand of a list has the room of the list
wide : (r : ℕ) (l : Links) → 1 < r → r ≤ trees.room r l
wide r none big = omega arith
wide r (link o x l) big = go (nat_eq r of_reduction) refl
  where
    go : (b : Bool) → nat_eq r of_reduction ≡ b → r ≤ (if b then 0 else r)
    go true e = grind (arith, nat_tests)
    go false e = omega arith

room-same : (n : ℕ) (l : Links) → trees.room n l ≡ room n (operands l)
room-same n none = refl
room-same n (link o x l) = refl

small : (n : ℕ) → n ≤ of_union → is_value n ≡ true
small n h = grind (arith, nat_tests)

value-level : (x : Tree) → precedence x ≤ of_value (expression x) → is_value (precedence x) ≡ true
value-level (leaf t) h = small 0 (omega arith)
value-level (indexed n o x l c) h = small 0 (omega arith)
value-level (parens o x c) h = small 0 (omega arith)
value-level (tuple o x l c) h = small 0 (omega arith)
value-level (negated n o x c) h = small 0 (omega arith)
value-level (braced b) h = small 0 (omega arith)
value-level (signed s x) h = small (precedence x) h
value-level (reduced k b x) h = small 1 (omega arith)
value-level (chain n x l) h = small (suc n) h
value-level (choice i x t y e) h = refl
value-level (net s k) h = absurd (omega arith)

pub is-value : (x : forms.Expression) (t : Tree) → expression t ≡ x → precedence t ≤ of_value x → is_value (precedence t) ≡ true
is-value x t same within = value-level t (subst (λ y. precedence t ≤ of_value y) (sym same) within)

comma-joins : (k : ℕ) (t : Token) → Has kinds.Mark (codes ",") t → trees.joins 0 k (role_of t) ≡ true
unfolding marks
comma-joins k t h = passes (trees.joins 0 k) kinds.Mark (codes ",") t h refl

comma-single : (t : Token) → Has kinds.Mark (codes ",") t → is_not (role_of t) ≡ false
unfolding marks
comma-single t h = ap is_not (has-role kinds.Mark (codes ",") t h)

mutual
  pub tree-sound : (x : forms.Expression) (r : ℕ) (ts rest : List Token) → IsExpression r x ts rest → IsOf r x ts rest
  tree-sound (forms.leaf t) r ts rest (inl (k, e)) = record { tree = leaf t; text = sym e; level = leaf-is t (inl k); within = omega arith; same = refl }
  tree-sound (forms.leaf t) r ts rest (inr (inl (k, e))) = record { tree = leaf t; text = sym e; level = leaf-is t (inr (inl k)); within = omega arith; same = refl }
  tree-sound (forms.leaf t) r ts rest (inr (inr (k, e))) = record { tree = leaf t; text = sym e; level = leaf-is t (inr (inr k)); within = omega arith; same = refl }
  tree-sound (forms.indexed n x xs) r ts rest (m1, (t, (kind, name), e1), (m2, (o, is-o, e2), (m3, hx, (m4, hl, (c, is-c, e5))))) =
      let sx = tree-sound x of_sum m2 m3 hx in
      let sl = list-sound xs of_sum m3 m4 (omega arith) hl in
      record {
        tree = indexed t o sx.tree sl.links c;
        text = cc (e1, e2, sx.text, sl.text, e5);
        level = (name-is t kind, open_square-is o is-o, sx.level, sx.within, sl.level 0, close_square-is c is-c);
        within = omega arith;
        same = cc (name, sx.same, sl.same);
      }
  tree-sound (forms.parens x) r ts rest (m1, (o, is-o, e1), (m2, hx, (c, is-c, e3))) =
      let sx = tree-sound x of_if m1 m2 hx in
      record { tree = parens o sx.tree c; text = cc (e1, sx.text, e3); level = (open-is o is-o, sx.level, sx.within, close-is c is-c); within = omega arith; same = cc (sx.same) }
  tree-sound (forms.tuple x forms.no_more) r ts rest h = absurd h
  tree-sound (forms.tuple x (forms.more y ys)) r ts rest (m1, (o, is-o, e1), (m2, hx, (m3, (j, is-j, e3), (m4, hy, (m5, hl, (c, is-c, e6)))))) =
      let sx = tree-sound x of_sum m1 m2 hx in
      let sy = tree-sound y of_sum m3 m4 hy in
      let sl = list-sound ys of_sum m4 m5 (omega arith) hl in
      record {
        tree = tuple o sx.tree (link (One j) sy.tree sl.links) c;
        text = cc (e1, sx.text, e3, sy.text, sl.text, e6);
        level = (open-is o is-o, sx.level, sx.within, tt, (comma-joins 0 j is-j, comma-single j is-j, sy.level, omega (arith, sy.within, wide of_sum sl.links), sl.level 1), close-is c is-c);
        within = omega arith;
        same = cc (sx.same, sy.same, sl.same);
      }
  tree-sound (forms.negated x) r ts rest (m1, (n, is-n, e1), (m2, (o, is-o, e2), (m3, hx, (c, is-c, e4)))) =
      let sx = tree-sound x of_or m2 m3 hx in
      record { tree = negated n o sx.tree c; text = cc (e1, e2, sx.text, e4); level = (not-is n is-n, open-is o is-o, sx.level, sx.within, close-is c is-c); within = omega arith; same = cc (sx.same) }
  tree-sound (forms.braced b) r ts rest h =
      let sb = braces-sound b ts rest h in
      record { tree = braced sb.shape; text = sb.text; level = sb.level; within = omega arith; same = cc (sb.same) }
  tree-sound (forms.signed minus x) r ts rest (m1, hs, hx) =
      let ss = sign-sound minus ts m1 hs in
      let sx = tree-sound x (min r of_reduction) m1 rest hx in
      record { tree = signed ss.token sx.tree; text = cc (ss.text, sx.text); level = (ss.role, sx.level, omega (arith, sx.within)); within = omega (arith, sx.within); same = cc (ss.same, sx.same) }
  tree-sound (forms.reduced q b x) r ts rest (fits, (m1, hq, (m2, hb, hx))) =
      let sq = reducer-sound q ts m1 hq in
      let sb = braces-sound b m1 m2 hb in
      let sx = tree-sound x of_product m2 rest hx in
      record { tree = reduced sq.token sb.shape sx.tree; text = cc (sq.text, sb.text, sx.text); level = (sq.role, sb.level, sx.level, sx.within); within = fits; same = cc (sq.same, sb.same, sx.same) }
  tree-sound (forms.chain x forms.none) r ts rest h = absurd h
  tree-sound (forms.chain x (forms.apply o y os)) r ts rest (n, fits, (m1, hx, (m2, ho, (m3, hy, hos)))) =
      let sx = tree-sound x (room n (forms.apply o y os)) ts m1 hx in
      let so = operator-sound 0 n o m1 m2 ho in
      let sy = tree-sound y (room n os) m2 m3 hy in
      let sl = operands-sound os 1 n m3 rest hos in
      record {
        tree = chain n sx.tree (link so.words sy.tree sl.links);
        text = cc (sx.text, so.text, sy.text, sl.text);
        level = (
          so.some,
          so.few,
          sx.level,
          sx.within,
          tt,
          (so.joins 0 ∙ ho.0, so.level, sy.level, subst (λ m. precedence sy.tree ≤ m) (ap (room n) (sym sl.same) ∙ sym (room-same n sl.links)) sy.within, sl.level),
        );
        within = fits;
        same = cc (sx.same, so.same, sy.same, sl.same);
      }
  tree-sound (forms.conditional x y p) r ts rest (fits, (m1, (i, is-i, e1), (m2, hx, (m3, (t, is-t, e3), (m4, hy, hp))))) =
      let sx = tree-sound x of_or m1 m2 hx in
      let sy = tree-sound y of_union m3 m4 hy in
      let sp = else-sound p m4 rest hp in
      record {
        tree = choice i sx.tree t sy.tree sp.shape;
        text = cc (e1, sx.text, e3, sy.text, sp.text);
        level = (if-is i is-i, sx.level, sx.within, then-is t is-t, sy.level, sy.within, sp.level);
        within = fits;
        same = cc (sx.same, sy.same, sp.same);
      }
  tree-sound (forms.net minus out) r ts rest h = absurd h

  list-sound : (xs : forms.Expressions) (r : ℕ) (ts rest : List Token) → 1 < r → AreFurther r xs ts rest → IsListOf r xs ts rest
  list-sound forms.no_more r ts rest big h = record { links = none; text = sym h; level = λ k. tt; same = refl }
  list-sound (forms.more x xs) r ts rest big (m1, (j, is-j, e1), (m2, hx, hl)) =
      let sx = tree-sound x r m1 m2 hx in
      let sl = list-sound xs r m2 rest big hl in
      record { links = link (One j) sx.tree sl.links; text = cc (e1, sx.text, sl.text); level = λ k. (comma-joins k j is-j, comma-single j is-j, sx.level, omega (arith, sx.within, wide r sl.links), sl.level (suc k)); same = cc (sx.same, sl.same) }

  operands-sound : (os : forms.Operands) (k n : ℕ) (ts rest : List Token) → AreOperands k n os ts rest → AreOf k n os ts rest
  operands-sound forms.none k n ts rest h = record { links = none; text = sym h; level = tt; same = refl }
  operands-sound (forms.apply o x os) k n ts rest (m1, ho, (m2, hx, hos)) =
      let so = operator-sound k n o ts m1 ho in
      let sx = tree-sound x (room n os) m1 m2 hx in
      let sl = operands-sound os (suc k) n m2 rest hos in
      record {
        links = link so.words sx.tree sl.links;
        text = cc (so.text, sx.text, sl.text);
        level = (so.joins k ∙ ho.0, so.level, sx.level, subst (λ m. precedence sx.tree ≤ m) (ap (room n) (sym sl.same) ∙ sym (room-same n sl.links)) sx.within, sl.level);
        same = cc (so.same, sx.same, sl.same);
      }

  else-sound : (p : forms.Clause) (ts rest : List Token) → IsElse p ts rest → IsPartOf trees.IsElse p ts rest
  else-sound forms.absent ts rest h = record { shape = absent; text = sym h; level = tt; same = refl }
  else-sound (forms.present x) ts rest (m1, (t, is-t, e1), hx) =
      let sx = tree-sound x (of_value x) m1 rest hx in
      record { shape = part t sx.tree; text = cc (e1, sx.text); level = (else-is t is-t, sx.level, is-value x sx.tree sx.same sx.within); same = cc (sx.same) }

  filter-sound : (p : forms.Clause) (ts rest : List Token) → IsFilter p ts rest → IsPartOf trees.IsFilter p ts rest
  filter-sound forms.absent ts rest h = record { shape = absent; text = sym h; level = tt; same = refl }
  filter-sound (forms.present x) ts rest (m1, (t, is-t, e1), hx) =
      let sx = tree-sound x of_or m1 rest hx in
      record { shape = part t sx.tree; text = cc (e1, sx.text); level = (colon-is t is-t, sx.level, sx.within); same = cc (sx.same) }

  pub braces-sound : (b : forms.Braces) (ts rest : List Token) → IsBraces b ts rest → IsBracesOf b ts rest
  braces-sound (forms.empty p) ts rest (m1, (o, is-o, e1), (m2, hp, (c, is-c, e3))) =
      let sp = filter-sound p m1 m2 hp in
      record { shape = empty o sp.shape c; text = cc (e1, sp.text, e3); level = (open_brace-is o is-o, sp.level, close_brace-is c is-c); same = cc (sp.same) }
  braces-sound (forms.filled x xs p) ts rest (m1, (o, is-o, e1), (m2, hx, (m3, hl, (m4, hp, (c, is-c, e5))))) =
      let sx = tree-sound x of_relation m1 m2 hx in
      let sl = list-sound xs of_relation m2 m3 (omega arith) hl in
      let sp = filter-sound p m3 m4 hp in
      record {
        shape = filled o sx.tree sl.links sp.shape c;
        text = cc (e1, sx.text, sl.text, sp.text, e5);
        level = (open_brace-is o is-o, sx.level, sx.within, sl.level 0, sp.level, close_brace-is c is-c);
        same = cc (sx.same, sl.same, sp.same);
      }

pub record IsIndexingOf (b : Option forms.Braces) (ts rest : List Token) : Type 0 where
  pub shape : Option Braces
  pub text : put_indexing shape rest ≡ ts
  pub level : declarations.IsIndexing shape
  pub same : indexing shape ≡ b

pub indexing-sound : (b : Option forms.Braces) (ts rest : List Token) → IsIndexing b ts rest → IsIndexingOf b ts rest
indexing-sound None ts rest h = record { shape = None; text = sym h; level = tt; same = refl }
indexing-sound (Some b) ts rest h = let s = braces-sound b ts rest h in record { shape = Some s.shape; text = s.text; level = s.level; same = cc (s.same) }

-- a value
pub record IsValueOf (x : forms.Expression) (ts rest : List Token) : Type 0 where
  pub tree : Tree
  pub text : put tree rest ≡ ts
  pub level : IsWellFormed tree
  pub within : is_value (precedence tree) ≡ true
  pub same : expression tree ≡ x

pub value-sound : (x : forms.Expression) (ts rest : List Token) → IsValue x ts rest → IsValueOf x ts rest
value-sound x ts rest h =
    let s = tree-sound x (of_value x) ts rest h in
    record { tree = s.tree; text = s.text; level = s.level; within = is-value x s.tree s.same s.within; same = s.same }
