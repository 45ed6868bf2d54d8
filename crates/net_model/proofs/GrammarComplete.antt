-- The tokens of a well-formed expression are the expression that the grammar derives.
use Rattle.std.specs.Prelude.{◌≡◌, ◌≤◌, ◌<◌, ◌⊎◌, ℕ, suc, Bool, true, false, nat_eq, min, if◌then◌else◌, List, Option, None, Some}
use Rattle.std.proofs.Common.{refl, subst, arith}
use Rattle.std.proofs.lemmas.Bool.Decides.{nat_tests}
use Rattle.net_lex.specs.declared.token.Token.{Token}
use Rattle.net_tree.specs.declared.operator.OperatorWords.TheVariants.{One, Two}
use Rattle.net_tree.specs.Erasure.{expression, expressions, operands, clause, braces, indexing}
use Rattle.net_tree.specs.Precedence.{of_reduction, of_product, of_sum, of_union, of_relation, of_or, of_if}
use Rattle.net_tree.specs.Print.{put, put_links, put_part, put_braces, put_indexing}
use Rattle.net_tree.specs.Tree.{Tree, Links, Part, Braces, leaf, indexed, parens, tuple, negated, braced, signed, reduced, chain, choice, net, none, link, absent, part, empty, filled}
use Rattle.net_tree.specs.WellFormed.{precedence, is_value, IsWellFormed, AreWellFormed, AreBraces}
use Rattle.net_tree.specs.WellFormed as trees
use Rattle.net_tree.specs.Declarations as declarations
use Rattle.net_model.specs.Grammar.{room, of_value, IsExpression, AreFurther, AreOperands, IsElse, IsFilter, IsBraces, IsIndexing, IsValue}
use Rattle.net_model.proofs.GrammarOperators.{operators-complete}
use Rattle.net_model.proofs.GrammarSpelling.{at-colon, at-open, at-close, at-open-brace, at-close-brace, at-open-square, at-close-square, at-not, at-if, at-then, at-else, at-link, not-link, at-leaf, at-name, at-sign, at-reduction}

room-same : (n : ℕ) (l : Links) → trees.room n l ≡ room n (operands l)
room-same n none = refl
room-same n (link o x l) = refl

pub room-le : (n : ℕ) (l : Links) → trees.room n l ≤ n
room-le n none = omega arith
room-le n (link o x l) = go (nat_eq n of_reduction)
  where
    go : (b : Bool) → (if b then 0 else n) ≤ n
    go true = omega arith
    go false = omega arith

value-cases : (n : ℕ) → is_value n ≡ true → (n ≤ of_union) ⊎ (n ≡ of_if)
value-cases n h = grind (arith, nat_tests)

pub value-le : (x : Tree) → IsWellFormed x → is_value (precedence x) ≡ true → precedence x ≤ of_value (expression x)
value-le (leaf t) w v = omega arith
value-le (indexed n o x l c) w v = omega arith
value-le (parens o x c) w v = omega arith
value-le (tuple o x l c) w v = omega arith
value-le (negated n o x c) w v = omega arith
value-le (braced b) w v = omega arith
value-le (signed s x) w v = omega (arith, w.2)
value-le (reduced k b x) w v = omega arith
value-le (chain n x l) w v = omega (arith, w.1, value-cases (suc n) v)
value-le (choice i x t y e) w v = omega arith
value-le (net s k) w v = absurd (cc)

pub of_value-le : (x : Tree) → of_value (expression x) ≤ of_if
of_value-le (leaf t) = omega arith
of_value-le (indexed n o x l c) = omega arith
of_value-le (parens o x c) = omega arith
of_value-le (tuple o x l c) = omega arith
of_value-le (negated n o x c) = omega arith
of_value-le (braced b) = omega arith
of_value-le (signed s x) = omega arith
of_value-le (reduced k b x) = omega arith
of_value-le (chain n x l) = omega arith
of_value-le (choice i x t y e) = omega arith
of_value-le (net s k) = omega arith

mutual
  pub tree-complete : (x : Tree) (r : ℕ) (rest : List Token) → IsWellFormed x → precedence x ≤ r → r ≤ of_if → IsExpression r (expression x) (put x rest) rest
  tree-complete (leaf t) r rest w p q = at-leaf t rest w
  tree-complete (indexed n o x l c) r rest w p q =
      (_, at-name n _ w.0, (_, at-open-square o _ w.1, (_, tree-complete x of_sum _ w.2 w.3 (omega arith), (_, list-complete l of_sum 0 _ w.4 (omega arith), at-close-square c rest w.5))))
  tree-complete (parens o x c) r rest w p q = (_, at-open o _ w.0, (_, tree-complete x of_if _ w.1 w.2 (omega arith), at-close c rest w.3))
  tree-complete (tuple o x none c) r rest w p q = absurd w.3
  tree-complete (tuple o x (link (Two t u) y l) c) r rest w p q = absurd (not-link 0 t w.4.0 w.4.1.0)
  tree-complete (tuple o x (link (One t) y l) c) r rest w p q = (
    _,
    at-open o _ w.0,
    (
      _,
      tree-complete x of_sum _ w.1 w.2 (omega arith),
      (
        _,
        at-link 0 t _ w.4.0,
        (_, tree-complete y of_sum _ w.4.2 (omega (arith, w.4.3, room-le of_sum l)) (omega arith), (_, list-complete l of_sum 1 _ w.4.4 (omega arith), at-close c rest w.5)),
      ),
    ),
  )
  tree-complete (negated n o x c) r rest w p q = (_, at-not n _ w.0, (_, at-open o _ w.1, (_, tree-complete x of_or _ w.2 w.3 (omega arith), at-close c rest w.4)))
  tree-complete (braced b) r rest w p q = braces-complete b rest w
  tree-complete (signed s x) r rest w p q = (_, at-sign s _ w.0, tree-complete x (min r of_reduction) rest w.1 (omega (arith, w.2)) (omega arith))
  tree-complete (reduced k b x) r rest w p q =
      (p, (_, at-reduction k _ w.0, (_, braces-complete b _ w.1, tree-complete x of_product rest w.2 w.3 (omega arith))))
  tree-complete (chain n x none) r rest w p q = absurd w.4
  tree-complete (chain n x (link o y l)) r rest w p q = (
    n,
    p,
    (
      _,
      tree-complete x (room n (operands (link o y l))) _ w.2 w.3 (omega (arith, w.1, room-le n (link o y l))),
      (
        _,
        operators-complete n 0 o _ w.0 w.5.0 w.5.1,
        (
          _,
          tree-complete y (room n (operands l)) _ w.5.2 (subst (λ m. precedence y ≤ m) (room-same n l) w.5.3) (omega (arith, w.1, room-le n l, room-same n l)),
          operands-complete l 1 n rest w.0 w.1 w.5.4,
        ),
      ),
    ),
  )
  tree-complete (choice i x t y e) r rest w p q =
      (p, (_, at-if i _ w.0, (_, tree-complete x of_or _ w.1 w.2 (omega arith), (_, at-then t _ w.3, (_, tree-complete y of_union _ w.4 w.5 (omega arith), else-complete e rest w.6)))))
  tree-complete (net s k) r rest w p q = absurd (omega arith)

  pub list-complete : (l : Links) (r k : ℕ) (rest : List Token) → AreWellFormed 0 r k l → r ≤ of_if → AreFurther r (expressions l) (put_links l rest) rest
  list-complete none r k rest w q = refl
  list-complete (link (One t) x l) r k rest w q =
      (_, at-link k t _ w.0, (_, tree-complete x r _ w.2 (omega (arith, w.3, room-le r l)) q, list-complete l r (suc k) rest w.4 q))
  list-complete (link (Two t u) x l) r k rest w q = absurd (not-link k t w.0 w.1.0)

  operands-complete : (l : Links) (k n : ℕ) (rest : List Token) → 0 < n → n < of_or → AreWellFormed n n k l → AreOperands k n (operands l) (put_links l rest) rest
  operands-complete none k n rest some few w = refl
  operands-complete (link o x l) k n rest some few w = (
    _,
    operators-complete n k o _ some w.0 w.1,
    (
      _,
      tree-complete x (room n (operands l)) _ w.2 (subst (λ m. precedence x ≤ m) (room-same n l) w.3) (omega (arith, few, room-le n l, room-same n l)),
      operands-complete l (suc k) n rest some few w.4,
    ),
  )

  else-complete : (p : Part) (rest : List Token) → trees.IsElse p → IsElse (clause p) (put_part p rest) rest
  else-complete absent rest w = refl
  else-complete (part m x) rest w = (_, at-else m _ w.0, tree-complete x (of_value (expression x)) rest w.1 (value-le x w.1 w.2) (of_value-le x))

  filter-complete : (p : Part) (rest : List Token) → trees.IsFilter p → IsFilter (clause p) (put_part p rest) rest
  filter-complete absent rest w = refl
  filter-complete (part m x) rest w = (_, at-colon m _ w.0, tree-complete x of_or rest w.1 w.2 (omega arith))

  pub braces-complete : (b : Braces) (rest : List Token) → AreBraces b → IsBraces (braces b) (put_braces b rest) rest
  braces-complete (empty o p c) rest w = (_, at-open-brace o _ w.0, (_, filter-complete p _ w.1, at-close-brace c rest w.2))
  braces-complete (filled o x l p c) rest w =
      (_, at-open-brace o _ w.0, (_, tree-complete x of_relation _ w.1 w.2 (omega arith), (_, list-complete l of_relation 0 _ w.3 (omega arith), (_, filter-complete p _ w.4, at-close-brace c rest w.5))))

pub indexing-complete : (b : Option Braces) (rest : List Token) → declarations.IsIndexing b → IsIndexing (indexing b) (put_indexing b rest) rest
indexing-complete None rest w = refl
indexing-complete (Some b) rest w = braces-complete b rest w

pub value-complete : (x : Tree) (rest : List Token) → IsWellFormed x → is_value (precedence x) ≡ true → IsValue (expression x) (put x rest) rest
value-complete x rest w v = tree-complete x (of_value (expression x)) rest w (value-le x w v) (of_value-le x)
