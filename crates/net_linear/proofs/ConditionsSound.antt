-- A condition is true of a net inflow just where it holds of it.
use Rattle.std.specs.Prelude.{◌≡◌, ◌&&◌, ◌↔◌, ℕ, Bool, true, false, List, [], ◌∷◌, Option, None, Some, if◌then◌else◌, Ok, Err, ℤ, int_le}
use Rattle.std.specs.List.{list_all}
use Rattle.std.specs.Str.{bytes_eq}
use Rattle.std.proofs.Common.{refl, ap, sym, ◌∙◌, subst, arith, inr}
use Rattle.std.proofs.lemmas.Bool.Decides.{Decides-int_eq}
use Rattle.std.proofs.lemmas.Int.{ints}
use Rattle.net_base.specs.declared.diagnostic.Span.{Span}
use Rattle.net_base.specs.Outcomes.{Outcome, and_then, rejected}
use Rattle.net_linear.specs.declared.condition.Sides.{Sides}
use Rattle.net_linear.specs.declared.condition.Comparison.{Comparison}
use Rattle.net_linear.specs.declared.condition.Comparison.TheVariants.{Equal, AtMost, AtLeast}
use Rattle.net_linear.specs.declared.net_term.NetTerm.{NetTerm}
use Rattle.net_linear.specs.Amounts.{as_number, number_or_none}
use Rattle.net_linear.specs.Conditions.{comparison_in, number_of, term_at, with_term, terms_at, side_at, sides_in, Compares, solved_sides, met, from_to}
use Rattle.net_linear.specs.NetTerms.{are_terms, net_side}
use Rattle.net_linear.specs.Signs.{is_sign}
use Rattle.net_lex.specs.declared.token.Token.{Token}
use Rattle.net_sets.specs.declared.member.Member.TheVariants as member
use Rattle.net_sets.specs.Sets.{Tuple}
use Rattle.net_tree.specs.declared.operator.BinOp.{BinOp}
use Rattle.net_tree.specs.declared.operator.BinOp.TheVariants as op
use Rattle.net_lex.specs.declared.token.Kind.{Kind}
use Rattle.net_lex.specs.declared.token.Kind.TheVariants as kinds
use Rattle.net_base.specs.declared.error_code.ErrorCode.TheVariants.{KindMismatch, ValueTooLarge}
use Rattle.net_tree.specs.declared.role.Role.{Role}
use Rattle.net_tree.specs.declared.operator.OperatorWords.TheVariants as words
use Rattle.net_tree.specs.Role.{role_of, role_as, role_in, marks, keys}
use Rattle.net_expr.specs.Limits.{is_small}
use Rattle.std.proofs.lemmas.Slice.Eq.{bytes_eq-Decides}
use Rattle.net_tree.specs.Erasure.{expression, condition}
use Rattle.net_tree.specs.Operations.{operation, operation_in, operations, is_range}
use Rattle.net_tree.specs.Spans.{span_of}
use Rattle.net_tree.specs.Tree.{Tree, Links, leaf, indexed, parens, tuple, negated, braced, signed, reduced, chain, choice, net, none, link, Condition, unsaid, one, between}
use Rattle.net_expr.specs.declared.value.Value.{Value as Found}
use Rattle.net_expr.specs.declared.value.Value.TheVariants as found
use Rattle.net_expr.specs.Items.{begins_range}
use Rattle.net_expr.specs.Numbers as numbers
use Rattle.net_expr.specs.Operators.{apply, decided}
use Rattle.net_expr.specs.SetValues.{HasSets}
use Rattle.net_expr.specs.Values.{value, values, chained, either}
use Rattle.net_expr.specs.Worlds.{Name, World, Scope}
use Rattle.net_expr.proofs.Parting.{then_ok, is_ok}
use Rattle.net_meaning.specs.Network.{IsNumeric, HasSides}
use Rattle.net_meaning.specs.OfTrees as meant
use Rattle.net_meaning.specs.OfTrees.{env_with, AreOperandValues, IsValue, IsChain}
use Rattle.net_meaning.specs.Laws.{meaning_of, IsArcFree, AreArcFree}
use Rattle.net_linear.specs.Soundness.{IsTermArcFree, AreTermsArcFree, IsSideArcFree, IsConditionArcFree, ConditionsAreSound}
use Rattle.net_meaning.specs.Operators.{Truth, number, IsResult}
use Rattle.net_meaning.specs.Operators as make
use Rattle.net_meaning.specs.Values.{Env, Whether, HasRange}
use Rattle.net_meaning.proofs.Erased.{begins_range_is}
use Rattle.net_meaning.proofs.Giving.{gives_ok}
use Rattle.net_meaning.proofs.Meaning.{value_is_sound}
use Rattle.net_meaning.proofs.Unique.{values_are_unique, makes_unique, truth_same}

abbrev of : ℤ → Found
of n = found.One (member.Number n)

number_found : (at : Span) (v : Found) (n : ℤ) → numbers.number at v ≡ Ok n → v ≡ of n
number_found at (found.One (member.Number m)) n e = ap of (is_ok m n e)
number_found at (found.One (member.Name t)) n e = cc
number_found at (found.Several t) n e = cc
number_found at (found.Many d ts) n e = cc
number_found at (found.Truth b) n e = cc

module _ (g : Name → Option (Tuple → ℤ)) (y : ℤ) (w : World) (sets : HasSets w) (s : Scope) where
  abbrev E : Env
  E = env_with g y w s

  plain_is : (x : Tree) (c : ℤ) → IsArcFree g y x → value w s x ≡ Ok (of c) → IsValue E x (number (number_of (number_or_none w s x)))
  plain_is x c z e =
      let same : number_of (number_or_none w s x) ≡ c = ap (λ (o : Outcome Found). number_of (and_then o (λ v. Ok (as_number v)))) e in
      subst (λ n. IsValue E x (number n)) (sym same) (gives_ok (λ v. IsValue E x (meaning_of v)) (value w s x) (of c) (value_is_sound g y w sets s x z) e)

  net_is : (t : Option Token) (u : Token) → IsValue E (net t u) (number (term_at w s (net t u) y))
  net_is None u = refl
  net_is (Some t) u = refl

  term_is : (x : Tree) (c : ℤ) → IsTermArcFree g y x → value w s x ≡ Ok (of c) → IsValue E x (number (term_at w s x y))
  term_is (net t u) c z e = net_is t u
  term_is (leaf t) c z e = plain_is (leaf t) c z e
  term_is (indexed n o x l k) c z e = plain_is (indexed n o x l k) c z e
  term_is (parens o x k) c z e = plain_is (parens o x k) c z e
  term_is (tuple o x l k) c z e = plain_is (tuple o x l k) c z e
  term_is (negated n o x k) c z e = plain_is (negated n o x k) c z e
  term_is (braced b) c z e = plain_is (braced b) c z e
  term_is (signed t x) c z e = plain_is (signed t x) c z e
  term_is (reduced r b x) c z e = plain_is (reduced r b x) c z e
  term_is (chain n x l) c z e = plain_is (chain n x l) c z e
  term_is (choice i x t u p) c z e = plain_is (choice i x t u p) c z e

  -- one term more
  record IsAdded (f : BinOp) (at : Span) (x : Tree) (l : Links) (v : Found) (a : ℤ) : Type 0 where
    before : ℤ
    is : v ≡ of before
    more : ℤ
    term : value w s x ≡ Ok (of more)
    sum : Found
    rest : chained at w s l sum ≡ Ok (of a)
    makes : (p q : ℤ) → IsResult f (number p) (number q) (number (with_term f p q))

  of_two : (f : BinOp) (h : ℤ → ℤ → Outcome Found) (at : Span) (x : Tree) (l : Links) (v : Found) (a : ℤ) → ((p q : ℤ) → IsResult f (number p) (number q) (number (with_term f p q)))
      → and_then (value w s x) (λ u. and_then (and_then (numbers.number at v) (λ b. and_then (numbers.number at u) (h b))) (chained at w s l)) ≡ Ok (of a) → IsAdded f at x l v a
  of_two f h at x l v a makes e =
      then_ok (value w s x) _ (of a) e (λ u i j.
      then_ok (and_then (numbers.number at v) (λ b. and_then (numbers.number at u) (h b))) (chained at w s l) (of a) j (λ z k m.
      then_ok (numbers.number at v) _ z k (λ b p q.
      then_ok (numbers.number at u) (h b) z q (λ c r t. record { before = b; is = number_found at v b p; more = c; term = i ∙ ap (λ z. Ok z) (number_found at u c r); sum = z; rest = m; makes = makes }))))

  added : (f : BinOp) (at : Span) (x : Tree) (l : Links) (v : Found) (a : ℤ) → is_sign f ≡ true
      → and_then (decided f at v) (either (chained at w s l) (and_then (value w s x) (λ u. and_then (apply f at v u) (chained at w s l)))) ≡ Ok (of a) → IsAdded f at x l v a
  added op.Plus at x l v a h e = of_two op.Plus (numbers.plus at) at x l v a make.plus e
  added op.Minus at x l v a h e = of_two op.Minus (numbers.less at) at x l v a make.minus e
  added _ at x l v a h e = cc

  first_true : (b c : Bool) → (b && c) ≡ true → b ≡ true
  first_true true c e = refl
  first_true false c e = cc

  second_true : (b c : Bool) → (b && c) ≡ true → c ≡ true
  second_true true c e = e
  second_true false c e = cc

  abbrev IsSum : Links → Found → Type 0
  IsSum l v = ((b : ℤ) × (v ≡ of b)) × ((p : ℤ) → IsChain E (number p) l (number (terms_at w s l p y)))

  links_are : (at : Span) (l : Links) (v : Found) (a : ℤ) → are_terms l ≡ true → AreTermsArcFree g y l → chained at w s l v ≡ Ok (of a) → IsSum l v
  links_are at none v a h z e = ((a, is_ok v (of a) e), λ p. refl)
  links_are at (link o x l) v a h z e =
      let d = added (operation o) at x l v a (first_true (is_sign (operation o)) (are_terms l) h) e in
      let r = links_are at l d.sum a (second_true (is_sign (operation o)) (are_terms l) h) z.1 d.rest in
      ((d.before, d.is), λ p. (number (with_term (operation o) p (term_at w s x y)), inr (number (term_at w s x y), term_is x d.more z.0 d.term, d.makes p (term_at w s x y)), r.1 (with_term (operation o) p (term_at w s x y))))

  no_range : (l : Links) → are_terms l ≡ true → begins_range l ≡ false
  no_range none e = refl
  no_range (link o x l) e = go (operation o) (first_true (is_sign (operation o)) (are_terms l) e)
    where
      go : (f : BinOp) → is_sign f ≡ true → is_range f ≡ false
      go op.Range h = cc
      go _ h = refl

  chain_is : (n : ℕ) (x : Tree) (l : Links) (a : ℤ) (b : Bool) → are_terms l ≡ b → Whether b (IsTermArcFree g y x × AreTermsArcFree g y l) (IsArcFree g y x × AreArcFree g y l) → value w s (chain n x l) ≡ Ok (of a)
      → IsValue E (chain n x l) (number (if b then terms_at w s l (term_at w s x y) y else number_of (number_or_none w s (chain n x l))))
  chain_is n x l a false f z e = plain_is (chain n x l) a z e
  chain_is n x l a true f z e =
      then_ok (value w s x) _ (of a) e (λ v i j.
      let sum = links_are (span_of (chain n x l)) l v a f z.1 (subst (λ c. (if c then and_then (values w s l (v ∷ [])) (numbers.range_of (span_of (chain n x l))) else chained (span_of (chain n x l)) w s l v) ≡ Ok (of a)) (no_range l f) j) in (
        number (term_at w s x y),
        term_is x sum.0.0 z.0 (i ∙ ap (λ z. Ok z) sum.0.1),
        subst (λ c. Whether c (HasRange (AreOperandValues E l) (number (term_at w s x y)) (number (terms_at w s l (term_at w s x y) y))) (IsChain E (number (term_at w s x y)) l (number (terms_at w s l (term_at w s x y) y)))) (sym (no_range l f) ∙ begins_range_is l) (sum.1 (term_at w s x y)),
      ))

  side_is : (x : Tree) (a : ℤ) → IsSideArcFree g y x → value w s x ≡ Ok (of a) → IsValue E x (number (side_at w s x y))
  side_is (chain n x l) a z e = chain_is n x l a (are_terms l) refl z e
  side_is (net t u) c z e = net_is t u
  side_is (leaf t) c z e = plain_is (leaf t) c z e
  side_is (indexed n o x l k) c z e = plain_is (indexed n o x l k) c z e
  side_is (parens o x k) c z e = plain_is (parens o x k) c z e
  side_is (tuple o x l k) c z e = plain_is (tuple o x l k) c z e
  side_is (negated n o x k) c z e = plain_is (negated n o x k) c z e
  side_is (braced b) c z e = plain_is (braced b) c z e
  side_is (signed t x) c z e = plain_is (signed t x) c z e
  side_is (reduced r b x) c z e = plain_is (reduced r b x) c z e
  side_is (choice i x t u p) c z e = plain_is (choice i x t u p) c z e

-- ---- comparisons

abbrev op_of : Comparison → BinOp
op_of Equal = op.Equal
op_of AtMost = op.AtMost
op_of AtLeast = op.AtLeast

abbrev is_of : Option Comparison → BinOp → Bool
is_of None f = true
is_of (Some Equal) op.Equal = true
is_of (Some AtMost) op.AtMost = true
is_of (Some AtLeast) op.AtLeast = true
is_of (Some k) f = false

is_of_is : (k : Comparison) (f : BinOp) → is_of (Some k) f ≡ true → f ≡ op_of k
is_of_is Equal op.Equal e = refl
is_of_is AtMost op.AtMost e = refl
is_of_is AtLeast op.AtLeast e = refl
is_of_is Equal _ e = cc
is_of_is AtMost _ e = cc
is_of_is AtLeast _ e = cc

abbrev fits : List ℕ × Role → Bool
fits word = is_of (comparison_in word.1) (operation_in operations word.0)

in_table : (table : List (List ℕ × Role)) → list_all fits table ≡ true → (text : List ℕ) (k : Comparison) → comparison_in (role_in table text) ≡ Some k → operation_in operations text ≡ op_of k
in_table [] h text k e = cc
in_table (word ∷ others) h text k e = go (bytes_eq word.0 text) refl e (in_table others (second_of (fits word) (list_all fits others) h) text k)
  where
    second_of : (b c : Bool) → (b && c) ≡ true → c ≡ true
    second_of true c f = f
    second_of false c f = cc

    first_of : (b c : Bool) → (b && c) ≡ true → b ≡ true
    first_of true c f = refl
    first_of false c f = cc

    go : (b : Bool) → bytes_eq word.0 text ≡ b → comparison_in (if b then word.1 else role_in others text) ≡ Some k → (comparison_in (role_in others text) ≡ Some k → operation_in operations text ≡ op_of k) → operation_in operations text ≡ op_of k
    go true f i more =
        let same : word.0 ≡ text = (bytes_eq-Decides word.0 text).0 f in
        is_of_is k (operation_in operations text) (subst (λ t. is_of (Some k) (operation_in operations t) ≡ true) same (subst (λ c. is_of c (operation_in operations word.0) ≡ true) i (first_of (fits word) (list_all fits others) h)))
    go false f i more = more i

marks_fit : list_all fits marks ≡ true
unfolding marks operations
marks_fit = refl

keys_fit : list_all fits keys ≡ true
unfolding keys operations
keys_fit = refl

by_kind : (kind : Kind) (text : List ℕ) (k : Comparison) → comparison_in (role_as kind text) ≡ Some k → operation_in operations text ≡ op_of k
by_kind kinds.Mark text k e = in_table marks marks_fit text k e
by_kind kinds.Key text k e = in_table keys keys_fit text k e
by_kind kinds.Name text k e = cc
by_kind kinds.Num text k e = cc
by_kind kinds.Str text k e = cc
by_kind kinds.Dot text k e = cc

comparison_is : (t : Token) (k : Comparison) → comparison_in (role_of t) ≡ Some k → operation (words.One t) ≡ op_of k
unfolding role_of operation
comparison_is t k e = by_kind t.kind t.text k e

compares_is : (k : Comparison) (a b : ℤ) → IsResult (op_of k) (number a) (number b) (Truth true) ↔ Compares (Some k) a b
compares_is Equal a b = ((λ m. (Decides-int_eq a b).0 (truth_same _ _ (makes_unique op.Equal _ _ _ _ (make.equal (member.Number a) (member.Number b)) m))), (λ e. subst (λ t. IsResult op.Equal (number a) (number b) (Truth t)) ((Decides-int_eq a b).1 e) (make.equal (member.Number a) (member.Number b))))
compares_is AtMost a b = ((λ m. let e : int_le a b ≡ true = truth_same _ _ (makes_unique op.AtMost _ _ _ _ (make.at_most a b) m) in search (arith, ints, e)), (λ h. subst (λ t. IsResult op.AtMost (number a) (number b) (Truth t)) (grind (arith, ints, h)) (make.at_most a b)))
compares_is AtLeast a b = ((λ m. let e : int_le b a ≡ true = truth_same _ _ (makes_unique op.AtLeast _ _ _ _ (make.at_least a b) m) in search (arith, ints, e)), (λ h. subst (λ t. IsResult op.AtLeast (number a) (number b) (Truth t)) (grind (arith, ints, h)) (make.at_least a b)))

-- ---- conditions

value_of : (o : Outcome Found) (a : ℤ) → and_then o (λ v. Ok (as_number v)) ≡ Ok (Some a) → o ≡ Ok (of a)
value_of (Ok (found.One (member.Number n))) a e = ap (λ m. Ok (of m)) (some_same n a (is_ok (Some n) (Some a) e))
  where
    some_same : (n a : ℤ) → Some n ≡ Some a → n ≡ a
    some_same n a e = cc
value_of (Ok (found.One (member.Name t))) a e = cc
value_of (Ok (found.Several t)) a e = cc
value_of (Ok (found.Many d ts)) a e = cc
value_of (Ok (found.Truth b)) a e = cc
value_of (Err r) a e = cc

-- sides that are numbers, and a comparison
record AreCompared (c : Option Comparison) (a b : Option ℤ) : Type 0 where
  how : Comparison
  is : c ≡ Some how
  left : ℤ
  left_is : a ≡ Some left
  right : ℤ
  right_is : b ≡ Some right

compared : (at : Span) (c : Option Comparison) (m n : NetTerm) (a b : Option ℤ) (r : Sides) → solved_sides at c m n a b ≡ Ok r → AreCompared c a b
compared at (Some c) m n (Some a) (Some b) r e = record { how = c; is = refl; left = a; left_is = refl; right = b; right_is = refl }
compared at None m n (Some a) (Some b) r e = go (is_small a && is_small b) e
  where
    go : (t : Bool) → (if t then rejected KindMismatch at else rejected ValueTooLarge at) ≡ Ok r → AreCompared None (Some a) (Some b)
    go true h = cc
    go false h = cc
compared at c m n None b r e = cc
compared at c m n (Some a) None r e = cc

module _ (g : Name → Option (Tuple → ℤ)) (y : ℤ) (w : World) (sets : HasSets w) (s : Scope) where
  pair_is : (x z : Tree) (o : Token) (a b : Option ℤ) → IsSideArcFree g y x → IsSideArcFree g y z → number_or_none w s x ≡ Ok a → number_or_none w s z ≡ Ok b → AreCompared (comparison_in (role_of o)) a b
      → meant.Compares (env_with g y w s) x (words.One o) z ↔ Compares (comparison_in (role_of o)) (side_at w s x y) (side_at w s z y)
  pair_is x z o a b p q e f c =
      let left = side_is g y w sets s x c.left p (value_of (value w s x) c.left (e ∙ ap (λ k. Ok k) c.left_is)) in
      let right = side_is g y w sets s z c.right q (value_of (value w s z) c.right (f ∙ ap (λ k. Ok k) c.right_is)) in
      let how = comparison_is o c.how c.is in (
        (λ (u, v, hu, hv, m).
            subst (λ k. Compares k (side_at w s x y) (side_at w s z y)) (sym c.is) ((compares_is c.how (side_at w s x y) (side_at w s z y)).0
            (subst (λ k. IsResult k (number (side_at w s x y)) (number (side_at w s z y)) (Truth true)) how
            (subst (λ k. IsResult (operation (words.One o)) k (number (side_at w s z y)) (Truth true)) (values_are_unique _ (expression x) u _ hu left)
            (subst (λ k. IsResult (operation (words.One o)) u k (Truth true)) (values_are_unique _ (expression z) v _ hv right) m))))),
        (λ h. (
          number (side_at w s x y),
          number (side_at w s z y),
          left,
          right,
          subst (λ k. IsResult k (number (side_at w s x y)) (number (side_at w s z y)) (Truth true)) (sym how) ((compares_is c.how (side_at w s x y) (side_at w s z y)).1 (subst (λ k. Compares k (side_at w s x y) (side_at w s z y)) c.is h)),
        )),
      )

pub conditions_are_sound : ConditionsAreSound
conditions_are_sound g w s unsaid r y sets p e = ((λ h. h), (λ h. h))
conditions_are_sound g w s (one m x o z) r y sets p e =
    then_ok (number_or_none w s x) _ r e (λ a h i. then_ok (number_or_none w s z) _ r i (λ b j k.
    pair_is g y w sets s x z o a b p.0 p.1 h j (compared (from_to x z) (comparison_in (role_of o)) (net_side x) (net_side z) a b r k)))
conditions_are_sound g w s (between m x o z q u) r y sets p e =
    then_ok (number_or_none w s x) _ r e (λ a h i. then_ok (number_or_none w s z) _ r i (λ b j k. then_ok (number_or_none w s u) _ r k (λ c l n.
    then_ok (solved_sides (from_to x u) (comparison_in (role_of o)) (net_side x) (net_side z) a b) _ r n (λ f first rest.
    then_ok (solved_sides (from_to x u) (comparison_in (role_of q)) (net_side z) (net_side u) b c) (met (from_to x u) f) r rest (λ t second last.
    let one_pair = pair_is g y w sets s x z o a b p.0 p.1 h j (compared (from_to x u) (comparison_in (role_of o)) (net_side x) (net_side z) a b f first) in
    let other = pair_is g y w sets s z u q b c p.1 p.2 j l (compared (from_to x u) (comparison_in (role_of q)) (net_side z) (net_side u) b c t second) in
    ((λ (v, k). (one_pair.0 v, other.0 k)), (λ (v, k). (one_pair.1 v, other.1 k))))))))

-- ---- the numbers of the sides

module _ (g : Name → Option (Tuple → ℤ)) (y : ℤ) (w : World) (sets : HasSets w) (s : Scope) where
  abbrev HasNumber : Tree → Type 0
  HasNumber x = IsNumeric (env_with g y w s) (expression x)

  two_sides : (x z : Tree) (c : Option Comparison) (a b : Option ℤ) → IsSideArcFree g y x → IsSideArcFree g y z → number_or_none w s x ≡ Ok a → number_or_none w s z ≡ Ok b → AreCompared c a b → HasNumber x × HasNumber z
  two_sides x z c a b p q e f h = (
    (side_at w s x y, side_is g y w sets s x h.left p (value_of (value w s x) h.left (e ∙ ap (λ k. Ok k) h.left_is))),
    (side_at w s z y, side_is g y w sets s z h.right q (value_of (value w s z) h.right (f ∙ ap (λ k. Ok k) h.right_is))),
  )

-- each side of a condition whose range is computed has a number, at each net inflow
pub sides_have_numbers : (g : Name → Option (Tuple → ℤ)) (w : World) (s : Scope) (c : Condition) (r : Sides) (y : ℤ) → HasSets w → IsConditionArcFree g y c → sides_in w s c ≡ Ok r → HasSides (env_with g y w s) (condition c)
sides_have_numbers g w s unsaid r y sets p e = tt
sides_have_numbers g w s (one m x o z) r y sets p e =
    then_ok (number_or_none w s x) _ r e (λ a h i. then_ok (number_or_none w s z) _ r i (λ b j k.
    two_sides g y w sets s x z (comparison_in (role_of o)) a b p.0 p.1 h j (compared (from_to x z) (comparison_in (role_of o)) (net_side x) (net_side z) a b r k)))
sides_have_numbers g w s (between m x o z q u) r y sets p e =
    then_ok (number_or_none w s x) _ r e (λ a h i. then_ok (number_or_none w s z) _ r i (λ b j k. then_ok (number_or_none w s u) _ r k (λ c l n.
    then_ok (solved_sides (from_to x u) (comparison_in (role_of o)) (net_side x) (net_side z) a b) _ r n (λ f first rest.
    then_ok (solved_sides (from_to x u) (comparison_in (role_of q)) (net_side z) (net_side u) b c) (met (from_to x u) f) r rest (λ t second last.
    let left = two_sides g y w sets s x z (comparison_in (role_of o)) a b p.0 p.1 h j (compared (from_to x u) (comparison_in (role_of o)) (net_side x) (net_side z) a b f first) in
    let right = two_sides g y w sets s z u (comparison_in (role_of q)) b c p.1 p.2 j l (compared (from_to x u) (comparison_in (role_of q)) (net_side z) (net_side u) b c t second) in
    (left.0, left.1, right.1))))))
