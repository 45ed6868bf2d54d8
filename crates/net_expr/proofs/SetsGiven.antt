-- In a world whose declared sets are sets, values that are sets have their tuples once and of their dimension.
use Rattle.std.specs.Prelude.{◌≡◌, ◌+◌, ◌&&◌, ◌||◌, not, ℕ, zero, suc, Bool, true, false, List, [], ◌∷◌, ◌++◌, length, filter, nat_eq, nat_le, int_lt, Option, None, Some, if◌then◌else◌, Ok, Err, ℤ, pos, ◌+ℤ◌, ◌<ℤ◌, ◌≤ℤ◌}
use Rattle.std.specs.List.{AllByRecursion, IsDistinct}
use Rattle.std.specs.Ordering.{int_eq}
use Rattle.std.proofs.Common.{refl, ap, sym, ◌∙◌, subst, arith}
use Rattle.std.proofs.lemmas.Bool.{eqb-true}
use Rattle.std.proofs.lemmas.Bool.Decides.{Decides-int_eq}
use Rattle.std.proofs.lemmas.Int.{ints}
use Rattle.std.proofs.lemmas.List.{length-append}
use Rattle.std.proofs.lemmas.Map.Keys.{IsDistinct-head, IsDistinct-tail, IsDistinct-cons}
use Rattle.net_base.specs.declared.diagnostic.Span.{Span}
use Rattle.net_lex.specs.declared.token.Token.{Token}
use Rattle.net_sets.specs.declared.member.Member.{Member}
use Rattle.net_sets.specs.declared.member.Member.TheVariants as member
use Rattle.net_sets.specs.Limits.{arity_limit, tuples_limit}
use Rattle.net_sets.specs.Operations.{AreLong, difference, intersection, joined_to, product, symmetric_difference, union, widest}
use Rattle.net_sets.specs.Ranges.{range_size, singles, numbers_by}
use Rattle.net_sets.specs.Sets.{Tuple, same_tuple, has}
use Rattle.net_tree.specs.declared.role.Role.{Role}
use Rattle.net_tree.specs.declared.role.Role.TheVariants as roles
use Rattle.net_tree.specs.Role.{role_of}
use Rattle.net_tree.specs.Spans.{span_of, braces_span}
use Rattle.net_tree.specs.Tree.{Tree, Links, Part, leaf, indexed, parens, tuple, negated, braced, signed, reduced, chain, choice, net, none, link, absent, part}
use Rattle.net_base.specs.declared.diagnostic.Detail.{Detail}
use Rattle.net_base.specs.declared.error_code.ErrorCode.TheVariants.{DivMod}
use Rattle.net_tree.specs.declared.operator.BinOp.{BinOp}
use Rattle.net_tree.specs.declared.operator.BinOp.TheVariants as op
use Rattle.net_tree.specs.declared.operator.Reduction.{Reduction}
use Rattle.net_tree.specs.declared.operator.Reduction.TheVariants.{Sum, Min, Max}
use Rattle.net_expr.specs.declared.row.Keys.{Keys}
use Rattle.net_expr.specs.declared.value.Value.{Value}
use Rattle.net_expr.specs.declared.value.Value.TheVariants.{One, Several, Many, Truth}
use Rattle.net_expr.specs.declared.world.Entry.{Entry}
use Rattle.net_expr.specs.declared.world.Entry.TheVariants.{Set, Parameter}
use Rattle.net_expr.specs.Items.{begins_range}
use Rattle.net_expr.specs.Limits.{is_small}
use Rattle.net_expr.specs.Numbers.{number, sized, divides, plus, less, times, quotient, remainder, step, size, range, range_of}
use Rattle.net_tree.specs.Numerals.{number_in}
use Rattle.net_tree.specs.Operations.{operation, reduction, is_minus}
use Rattle.net_expr.specs.Operators.{of_numbers, same, of_sets, crossed, belongs, contained, truth, as_truth, as_denial, apply, decided, tuple_of}
use Rattle.net_base.specs.Outcomes.{Outcome, and_then, rejected}
use Rattle.net_expr.specs.Rows.{as_set, keys_of, reduce, gathered_over, reduced_to}
use Rattle.net_expr.specs.Sets.{counted, shared, set_of}
use Rattle.net_expr.specs.SetValues.{IsSetOf, HasSets, KeepsSets}
use Rattle.net_expr.specs.Values.{number_value, token_value, subscripted, tupled, with_sign, either, value, otherwise, values, chained, index}
use Rattle.net_expr.specs.Worlds.{Name, World, Scope, key_count, bound, entry_of, value_at, entry_at, name_at}
use Rattle.net_expr.proofs.Alike.{AreKeys, all_union, keys_long}
use Rattle.net_expr.proofs.KeysOnce.{union_distinct}
use Rattle.net_expr.proofs.Walked.{none_there, all_join, all_as}

abbrev pub IsSetValue : Value → Type 0
IsSetValue (Many d ts) = IsSetOf d ts
IsSetValue (One m) = Unit {0}
IsSetValue (Several t) = Unit {0}
IsSetValue (Truth b) = Unit {0}

abbrev pub Gives : Outcome Value → Type 0
Gives (Ok v) = IsSetValue v
Gives (Err r) = Unit {0}

gives_then : {A : Type 0} (o : Outcome A) (f : A → Outcome Value) → ((y : A) → o ≡ Ok y → Gives (f y)) → Gives (and_then o f)
gives_then (Ok y) f h = h y refl
gives_then (Err r) f h = tt

gives_if : (b : Bool) (o u : Outcome Value) → (b ≡ true → Gives o) → Gives u → Gives (if b then o else u)
gives_if true o u h k = h refl
gives_if false o u h k = k

gives_ok : (o : Outcome Value) (v : Value) → Gives o → o ≡ Ok v → IsSetValue v
gives_ok o v h e = subst Gives e h

-- ---- numbers

gives_sized : (at : Span) (n : ℤ) → Gives (sized at n)
gives_sized at n = gives_if (is_small n) _ _ (λ e. tt) tt

gives_numbers : (at : Span) (f : ℤ → ℤ → Outcome Value) (x y : Value) → ((a b : ℤ) → Gives (f a b)) → Gives (of_numbers at f x y)
gives_numbers at f x y h = gives_then (number at x) _ (λ a i. gives_then (number at y) (f a) (λ b j. h a b))

later : (first by x : ℤ) (n : ℕ) → first <ℤ x → pos 1 ≤ℤ by → AllByRecursion (λ (t : Tuple). same_tuple (member.Number first ∷ []) t ≡ false) (singles (numbers_by x by n))
later first by x zero h k = tt
later first by x (suc n) h k = (ap (λ (b : Bool). b && true) (apart (int_eq first x) refl), later first by (x +ℤ by) n (omega (arith, ints, h, k)) k)
  where
    apart : (b : Bool) → int_eq first x ≡ b → b ≡ false
    apart true e = absurd (let same = (Decides-int_eq first x).0 e in omega (arith, ints, h, same))
    apart false e = refl

range_distinct : (first by : ℤ) (n : ℕ) → pos 1 ≤ℤ by → IsDistinct same_tuple (singles (numbers_by first by n))
range_distinct first by zero k = none_there
range_distinct first by (suc n) k = IsDistinct-cons same_tuple (member.Number first ∷ []) (singles (numbers_by (first +ℤ by) by n)) (later first by (first +ℤ by) n (omega (arith, ints, k)) k) (range_distinct (first +ℤ by) by n k)

ones : (xs : List ℤ) → AreLong 1 (singles xs)
ones [] = tt
ones (x ∷ xs) = (refl, ones xs)

gives_range : (at : Span) (a b c : ℤ) → Gives (range at a b c)
gives_range at a b c =
    gives_then (step at c) _ (λ u h. gives_then (size at a b c) _ (λ v i. gives_if (nat_le (range_size a b c) tuples_limit) _ _ (λ e. (range_distinct a c (range_size a b c) (positive (int_lt c (pos 1)) refl h), ones (numbers_by a c (range_size a b c)))) tt))
  where
    positive : (t : Bool) → int_lt c (pos 1) ≡ t → {u : Unit {0}} → (if t then rejected DivMod at else Ok tt) ≡ Ok u → pos 1 ≤ℤ c
    positive true e h = cc
    positive false e h = search (arith, ints, e)

gives_range_of : (at : Span) (vs : List Value) → Gives (range_of at vs)
gives_range_of at [] = tt
gives_range_of at (x ∷ []) = tt
gives_range_of at (x ∷ y ∷ []) = gives_then (number at x) _ (λ a h. gives_then (number at y) _ (λ b i. gives_range at a b (pos 1)))
gives_range_of at (x ∷ y ∷ z ∷ []) = gives_then (number at x) _ (λ a h. gives_then (number at y) _ (λ b i. gives_then (number at z) (range at a b) (λ c j. gives_range at a b c)))
gives_range_of at (x ∷ y ∷ z ∷ u ∷ vs) = tt

-- ---- operators on sets

all_filter : (P : Tuple → Type 0) (test : Tuple → Bool) (ts : List Tuple) → AllByRecursion P ts → AllByRecursion P (filter test ts)
all_filter P test [] h = tt
all_filter P test (t ∷ ts) h = go (test t) (all_filter P test ts h.1)
  where
    go : (b : Bool) → AllByRecursion P (filter test ts) → AllByRecursion P (if b then t ∷ filter test ts else filter test ts)
    go true k = (h.0, k)
    go false k = k

distinct_filter : (test : Tuple → Bool) (ts : List Tuple) → IsDistinct same_tuple ts → IsDistinct same_tuple (filter test ts)
distinct_filter test [] h = none_there
distinct_filter test (t ∷ ts) h = go (test t) (distinct_filter test ts (IsDistinct-tail same_tuple t ts h))
  where
    go : (b : Bool) → IsDistinct same_tuple (filter test ts) → IsDistinct same_tuple (if b then t ∷ filter test ts else filter test ts)
    go true k = IsDistinct-cons same_tuple t (filter test ts) (all_filter (λ u. same_tuple t u ≡ false) test ts (IsDistinct-head same_tuple t ts h)) k
    go false k = k

-- both are sets of the dimension that they share
abbrev pub AreSetsOf : ℕ → List Tuple → List Tuple → Type 0
AreSetsOf n xs ys = IsSetOf (Some n) xs × IsSetOf (Some n) ys

no_tuples : (n : ℕ) (xs : List Tuple) → xs ≡ [] → IsSetOf (Some n) xs
no_tuples n xs e = subst (IsSetOf (Some n)) (sym e) (none_there, tt)

pub meet : (d e : Option ℕ) (n : ℕ) (xs ys : List Tuple) → IsSetOf d xs → IsSetOf e ys → shared d e ≡ Some n → AreSetsOf n xs ys
meet None None n xs ys h k e = (no_tuples n xs h, no_tuples n ys k)
meet None (Some m) n xs ys h k e = let same : m ≡ n = cc in (no_tuples n xs h, subst (λ (i : ℕ). IsSetOf (Some i) ys) same k)
meet (Some m) None n xs ys h k e = let same : m ≡ n = cc in (subst (λ (i : ℕ). IsSetOf (Some i) xs) same h, no_tuples n ys k)
meet (Some m) (Some l) n xs ys h k e = go (nat_eq l m) refl e
  where
    go : (b : Bool) → nat_eq l m ≡ b → (if b then Some m else None) ≡ Some n → AreSetsOf n xs ys
    go true f i =
        let same : m ≡ n = cc in
        (subst (λ (j : ℕ). IsSetOf (Some j) xs) same h, subst (λ (j : ℕ). IsSetOf (Some j) ys) (eqb-true l m f ∙ same) k)
    go false f i = cc

gives_set_of : (at : Span) (f : List Tuple → List Tuple → List Tuple) → ((n : ℕ) (xs ys : List Tuple) → AreSetsOf n xs ys → IsSetOf (Some n) (f xs ys)) → (x y : Value) → IsSetValue x → IsSetValue y → Gives (of_sets at f x y)
gives_set_of at f closed (Many d xs) (Many e ys) h k = go (shared d e) refl
  where
    go : (o : Option ℕ) → shared d e ≡ o → Gives (set_of at o (f xs ys))
    go None i = tt
    go (Some n) i = gives_if (nat_le (length (f xs ys)) tuples_limit) _ _ (λ j. closed n xs ys (meet d e n xs ys h k i)) tt
gives_set_of at f closed (Many d xs) (One m) h k = tt
gives_set_of at f closed (Many d xs) (Several t) h k = tt
gives_set_of at f closed (Many d xs) (Truth b) h k = tt
gives_set_of at f closed (One m) y h k = tt
gives_set_of at f closed (Several t) y h k = tt
gives_set_of at f closed (Truth b) y h k = tt

closed_union : (n : ℕ) (xs ys : List Tuple) → AreSetsOf n xs ys → IsSetOf (Some n) (union xs ys)
closed_union n xs ys h = (union_distinct xs ys h.0.0, all_union (λ t. length t ≡ n) xs ys h.0.1 h.1.1)

closed_filter : (test : Tuple → Bool) (n : ℕ) (xs : List Tuple) → IsSetOf (Some n) xs → IsSetOf (Some n) (filter test xs)
closed_filter test n xs h = (distinct_filter test xs h.0, all_filter (λ t. length t ≡ n) test xs h.1)

-- what is left of the first has nothing of the second
apart_from : (x : Tuple) (ys : List Tuple) → has ys x ≡ false → AllByRecursion (λ y. same_tuple x y ≡ false) ys
apart_from x [] h = tt
apart_from x (y ∷ ys) h = go (same_tuple x y) refl h (apart_from x ys)
  where
    go : (b : Bool) → same_tuple x y ≡ b → (b || has ys x) ≡ false → (has ys x ≡ false → AllByRecursion (λ z. same_tuple x z ≡ false) ys) → AllByRecursion (λ z. same_tuple x z ≡ false) (y ∷ ys)
    go true e k more = cc
    go false e k more = (e, more k)

lacks : (xs ys : List Tuple) → AllByRecursion (λ x. has ys x ≡ false) (difference xs ys)
lacks [] ys = tt
lacks (x ∷ xs) ys = go (has ys x) refl (lacks xs ys)
  where
    go : (b : Bool) → has ys x ≡ b → AllByRecursion (λ z. has ys z ≡ false) (difference xs ys) → AllByRecursion (λ z. has ys z ≡ false) (if not b then x ∷ difference xs ys else difference xs ys)
    go true e h = h
    go false e h = (e, h)

distinct_both : (xs ys : List Tuple) → IsDistinct same_tuple xs → IsDistinct same_tuple ys → AllByRecursion (λ x. AllByRecursion (λ y. same_tuple x y ≡ false) ys) xs → IsDistinct same_tuple (xs ++ ys)
distinct_both [] ys h k apart = k
distinct_both (x ∷ xs) ys h k apart =
    IsDistinct-cons same_tuple x (xs ++ ys) (all_join (λ y. same_tuple x y ≡ false) xs ys (IsDistinct-head same_tuple x xs h) apart.0) (distinct_both xs ys (IsDistinct-tail same_tuple x xs h) k apart.1)

closed_symmetric : (n : ℕ) (xs ys : List Tuple) → AreSetsOf n xs ys → IsSetOf (Some n) (symmetric_difference xs ys)
closed_symmetric n xs ys h =
    let one = closed_filter (λ t. not (has ys t)) n xs h.0 in
    let two = closed_filter (λ t. not (has xs t)) n ys h.1 in (
      distinct_both (difference xs ys) (difference ys xs) one.0 two.0
          (all_as (λ x. has ys x ≡ false) (λ x. AllByRecursion (λ y. same_tuple x y ≡ false) (difference ys xs)) (difference xs ys) (λ x e. all_filter (λ y. same_tuple x y ≡ false) (λ t. not (has xs t)) ys (apart_from x ys e)) (lacks xs ys)),
      all_join (λ t. length t ≡ n) (difference xs ys) (difference ys xs) one.1 two.1,
    )

all_after : (n m : ℕ) (x : Tuple) (ys : List Tuple) → length x ≡ n → AreLong m ys → AreLong (n + m) (joined_to x ys)
all_after n m x [] h k = tt
all_after n m x (y ∷ ys) h k = (length-append x y ∙ omega (arith, h, k.0), all_after n m x ys h k.1)

all_product : (n m : ℕ) (xs ys : List Tuple) → AreLong n xs → AreLong m ys → AreLong (n + m) (product xs ys)
all_product n m [] ys h k = tt
all_product n m (x ∷ xs) ys h k = all_join (λ t. length t ≡ n + m) (joined_to x ys) (product xs ys) (all_after n m x ys h.0 k) (all_product n m xs ys h.1 k)

long_of : (d : Option ℕ) (ts : List Tuple) → IsSetOf d ts → AreLong (counted d) ts
long_of None ts h = subst (AreLong 1) (sym h) tt
long_of (Some n) ts h = h.1

gives_crossed : (at : Span) (x y : Value) → IsSetValue x → IsSetValue y → Gives (crossed at x y)
gives_crossed at (Many d xs) (Many e ys) h k =
    gives_if (nat_le (counted d + counted e) arity_limit && nat_le (widest xs + widest ys) arity_limit) _ _
    (λ i. gives_if (nat_le (length (product xs ys)) tuples_limit) _ _
    (λ j. (union_distinct [] (product xs ys) none_there, all_union (λ t. length t ≡ counted d + counted e) [] (product xs ys) tt (all_product (counted d) (counted e) xs ys (long_of d xs h) (long_of e ys k)))) tt) tt
gives_crossed at (Many d xs) (One m) h k = tt
gives_crossed at (Many d xs) (Several t) h k = tt
gives_crossed at (Many d xs) (Truth b) h k = tt
gives_crossed at (One m) y h k = tt
gives_crossed at (Several t) y h k = tt
gives_crossed at (Truth b) y h k = tt

gives_truth : (o : Outcome Bool) → Gives (as_truth o)
gives_truth o = gives_then o _ (λ b e. tt)

gives_denial : (o : Outcome Bool) → Gives (as_denial o)
gives_denial o = gives_then o _ (λ b e. tt)

pub gives_apply : (f : BinOp) (at : Span) (x y : Value) → IsSetValue x → IsSetValue y → Gives (apply f at x y)
gives_apply op.Plus at x y h k = gives_numbers at (plus at) x y (λ a b. gives_sized at (a +ℤ b))
gives_apply op.Minus at x y h k = gives_numbers at (less at) x y (λ a b. gives_sized at _)
gives_apply op.Times at x y h k = gives_numbers at (times at) x y (λ a b. gives_sized at _)
gives_apply op.Div at x y h k = gives_numbers at (quotient at) x y (λ a b. gives_if (divides a b) _ _ (λ e. tt) tt)
gives_apply op.Mod at x y h k = gives_numbers at (remainder at) x y (λ a b. gives_if (divides a b) _ _ (λ e. tt) tt)
gives_apply op.Cross at x y h k = gives_crossed at x y h k
gives_apply op.Inter at x y h k = gives_set_of at intersection (λ n xs ys i. closed_filter (has ys) n xs i.0) x y h k
gives_apply op.Union at x y h k = gives_set_of at union closed_union x y h k
gives_apply op.Diff at x y h k = gives_set_of at difference (λ n xs ys i. closed_filter (λ t. not (has ys t)) n xs i.0) x y h k
gives_apply op.Symdiff at x y h k = gives_set_of at symmetric_difference closed_symmetric x y h k
gives_apply op.Equal at x y h k = gives_truth (same at x y)
gives_apply op.Unequal at x y h k = gives_denial (same at x y)
gives_apply op.Less at x y h k = gives_numbers at _ x y (λ a b. tt)
gives_apply op.AtMost at x y h k = gives_numbers at _ x y (λ a b. tt)
gives_apply op.Greater at x y h k = gives_numbers at _ x y (λ a b. tt)
gives_apply op.AtLeast at x y h k = gives_numbers at _ x y (λ a b. tt)
gives_apply op.In at x y h k = gives_truth (belongs at x y)
gives_apply op.NotIn at x y h k = gives_denial (belongs at x y)
gives_apply op.Within at x y h k = gives_truth (contained at x y)
gives_apply op.NotWithin at x y h k = gives_denial (contained at x y)
gives_apply op.And at x y h k = gives_truth (and_then (truth at x) (λ b. truth at y))
gives_apply op.Or at x y h k = gives_truth (and_then (truth at x) (λ b. truth at y))
gives_apply op.Range at x y h k = tt
gives_apply op.Other at x y h k = tt

abbrev Plain : Option Value → Type 0
Plain None = Unit {0}
Plain (Some v) = IsSetValue v

abbrev GivesPlain : Outcome (Option Value) → Type 0
GivesPlain (Ok o) = Plain o
GivesPlain (Err r) = Unit {0}

plain_then : (o : Outcome Bool) (f : Bool → Option Value) → ((b : Bool) → Plain (f b)) → GivesPlain (and_then o (λ b. Ok (f b)))
plain_then (Ok b) f h = h b
plain_then (Err r) f h = tt

decides : (f : BinOp) (at : Span) (x : Value) → GivesPlain (decided f at x)
decides op.And at x = plain_then (truth at x) (λ b. if b then None else Some (Truth false)) (λ b. go b)
  where
    go : (b : Bool) → Plain (if b then None else Some (Truth false))
    go true = tt
    go false = tt
decides op.Or at x = plain_then (truth at x) (λ b. if b then Some (Truth true) else None) (λ b. go b)
  where
    go : (b : Bool) → Plain (if b then Some (Truth true) else None)
    go true = tt
    go false = tt
decides _ at x = tt

gives_either : (f : BinOp) (at : Span) (x : Value) (next : Value → Outcome Value) (rest : Outcome Value) → ((v : Value) → IsSetValue v → Gives (next v)) → Gives rest → Gives (and_then (decided f at x) (either next rest))
gives_either f at x next rest h k = go (decided f at x) (decides f at x)
  where
    go : (o : Outcome (Option Value)) → GivesPlain o → Gives (and_then o (either next rest))
    go (Ok None) p = k
    go (Ok (Some v)) p = h v p
    go (Err r) p = tt

-- ---- names

gives_name : (w : World) → HasSets w → (at : Span) (n : Name) (o : Option Member) (key : Tuple) → Gives (name_at at w n o key)
gives_name w g at n (Some m) [] = tt
gives_name w g at n (Some m) (k ∷ ks) = tt
gives_name w g at n None key = by_entry (entry_of w n) refl key
  where
    by_value : (d : Detail) (o : Option Member) (listed : Bool) → Gives (value_at at d o listed)
    by_value d (Some m) listed = tt
    by_value d None true = tt
    by_value d None false = tt

    by_entry : (e : Option Entry) → entry_of w n ≡ e → (key : Tuple) → Gives (entry_at at n e key)
    by_entry None h key = tt
    by_entry (Some (Set d ts)) h [] = g n d ts h
    by_entry (Some (Set d ts)) h (m ∷ ms) = tt
    by_entry (Some (Parameter c keys table)) h key = gives_if (nat_eq (length key) (key_count c)) _ _ (λ e. by_value _ _ _) tt

gives_token : (w : World) → HasSets w → (s : Scope) (t : Token) (r : Role) → Gives (token_value w s t r)
gives_token w g s t roles.Number = go (number_in t.text)
  where
    go : (o : Option ℤ) → Gives (number_value t.span o)
    go None = tt
    go (Some n) = tt
gives_token w g s t roles.Text = tt
gives_token w g s t roles.Name = gives_name w g t.span t.text (bound s t.text) []
gives_token w g s t _ = tt

gives_reduce : (at : Span) (r : Reduction) (body : Scope → Outcome Value) (k : Keys) → Gives (reduce at r body k)
gives_reduce at r body k = gives_then (gathered_over at r body k.rows None) (reduced_to at r) (λ o e. go r o)
  where
    go : (r : Reduction) (o : Option ℤ) → Gives (reduced_to at r o)
    go r (Some n) = gives_sized at n
    go Sum None = tt
    go Min None = tt
    go Max None = tt

gives_as_set : (at : Span) (k : Keys) → AreKeys k.width k.rows → Gives (as_set at k)
gives_as_set at k h = gives_if (nat_le (length (union [] (keys_of k.rows))) tuples_limit) _ _ (λ e. go k.width h) tt
  where
    go : (d : Option ℕ) → AreKeys d k.rows → IsSetOf d (union [] (keys_of k.rows))
    go None i = ap (λ rows. union [] (keys_of rows)) i
    go (Some n) i = (union_distinct [] (keys_of k.rows) none_there, all_union (λ t. length t ≡ n) [] (keys_of k.rows) tt i)

mutual
  pub gives : (w : World) → HasSets w → (s : Scope) (t : Tree) → Gives (value w s t)
  gives w g s (leaf t) = gives_token w g s t (role_of t)
  gives w g s (indexed n o x l c) =
      gives_then (and_then (value w s x) (λ v. values w s l (v ∷ []))) (subscripted (span_of (indexed n o x l c)) w s n.text) (λ vs e. gives_then (tuple_of (span_of (indexed n o x l c)) vs) _ (λ key h. gives_name w g (span_of (indexed n o x l c)) n.text (bound s n.text) key))
  gives w g s (parens o x c) = gives w g s x
  gives w g s (tuple o x l c) = gives_then (and_then (value w s x) (λ v. values w s l (v ∷ []))) (tupled (span_of (tuple o x l c))) (λ vs e. gives_then (tuple_of (span_of (tuple o x l c)) vs) _ (λ t h. tt))
  gives w g s (negated n o x c) = gives_then (and_then (value w s x) (truth (span_of (negated n o x c)))) _ (λ b e. tt)
  gives w g s (braced b) = gives_then (index w s b) (as_set (braces_span b)) (λ k e. gives_as_set (braces_span b) k (keys_long w s b k e))
  gives w g s (signed t x) = gives_then (value w s x) (with_sign (span_of (signed t x)) (is_minus t)) (λ v e. gives_then (number (span_of (signed t x)) v) _ (λ n h. gives_sized (span_of (signed t x)) _))
  gives w g s (reduced r b x) = gives_then (index w s b) _ (λ k e. gives_reduce (span_of (reduced r b x)) (reduction r) (λ q. value w q x) k)
  gives w g s (chain n x l) =
      gives_then (value w s x) _ (λ v e.
      gives_if (begins_range l) _ _ (λ h. gives_then (values w s l (v ∷ [])) (range_of (span_of (chain n x l))) (λ vs i. gives_range_of (span_of (chain n x l)) vs))
      (gives_chained w g (span_of (chain n x l)) s l v (gives_ok (value w s x) v (gives w g s x) e)))
  gives w g s (choice i x t y e) =
      gives_then (and_then (value w s x) (truth (span_of (choice i x t y e)))) _ (λ b h. gives_if b _ _ (λ j. gives w g s y) (gives_otherwise w g s e))
  gives w g s (net t u) = tt

  gives_otherwise : (w : World) → HasSets w → (s : Scope) (p : Part) → Gives (otherwise w s p)
  gives_otherwise w g s absent = tt
  gives_otherwise w g s (part m x) = gives w g s x

  gives_chained : (w : World) → HasSets w → (at : Span) (s : Scope) (l : Links) (v : Value) → IsSetValue v → Gives (chained at w s l v)
  gives_chained w g at s none v h = h
  gives_chained w g at s (link o x l) v h =
      gives_either (operation o) at v (chained at w s l) (and_then (value w s x) (λ u. and_then (apply (operation o) at v u) (chained at w s l))) (λ u i. gives_chained w g at s l u i)
      (gives_then (value w s x) _ (λ u e. gives_then (apply (operation o) at v u) (chained at w s l) (λ z i.
      gives_chained w g at s l z (gives_ok (apply (operation o) at v u) z (gives_apply (operation o) at v u h (gives_ok (value w s x) u (gives w g s x) e)) i))))

pub keeps_sets : KeepsSets
keeps_sets w g s t d ts e = gives_ok (value w s t) (Many d ts) (gives w g s t) e
