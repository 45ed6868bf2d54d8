-- An expression has one value at most.
use Rattle.std.specs.Prelude.{◌≡◌, ◌<◌, ◌≤◌, ℕ, zero, suc, Bool, true, false, not, List, [], ◌∷◌, ◌++◌, map, Option, None, Some, ℤ, pos, ◌≤ℤ◌}
use Rattle.std.specs.List.{AllByRecursion, AllZip}
use Rattle.std.proofs.Common.{refl, ap, sym, ◌∙◌, subst, arith, inl, inr}
use Rattle.std.proofs.lemmas.Int.{ints}
use Rattle.std.proofs.lemmas.Bool.{true≢false}
use Rattle.net_lex.specs.declared.token.Kind.{Kind}
use Rattle.net_lex.specs.declared.token.Kind.TheVariants as kinds
use Rattle.net_lex.specs.declared.token.Token.{Token}
use Rattle.net_sets.specs.declared.member.Member.{Member}
use Rattle.net_sets.specs.Operations.{union}
use Rattle.net_sets.specs.Ranges.{singles, numbers_by}
use Rattle.net_sets.specs.Sets.{Tuple, same_member, same_tuple, has}
use Rattle.net_tree.specs.declared.operator.BinOp.{BinOp}
use Rattle.net_tree.specs.declared.operator.BinOp.TheVariants as op
use Rattle.net_tree.specs.declared.operator.Reduction.{Reduction}
use Rattle.net_tree.specs.declared.operator.Reduction.TheVariants.{Sum, Min, Max}
use Rattle.net_tree.specs.Items.{is_in}
use Rattle.net_tree.specs.Operations.{is_range}
use Rattle.net_tree.specs.Syntax.{Expression, Expressions, Operands, Clause, Braces, leaf, indexed, parens, tuple, negated, braced, signed, reduced, chain, conditional, net, no_more, more, none, apply, absent, present, empty, filled}
use Rattle.net_expr.specs.Numbers.{turned}
use Rattle.net_expr.specs.Worlds.{Name}
use Rattle.net_tree.proofs.Numerals.{value_is}
use Rattle.net_meaning.specs.Operators.{Value, One, Several, Many, Truth, number, IsTuple, one, several, IsResult, ShortCircuits, and_false, or_true, IsAmong, Reduces, IsRange, IsRangeOf, to, by, Combines}
use Rattle.net_meaning.specs.Laws.{ValuesAreUnique, KeysAreUnique}
use Rattle.net_meaning.specs.Operators as make
use Rattle.net_meaning.specs.Values.{Env, Key, Whether, Denotes, dummy, a_set, parameter, IsArcOr, bind, Filters, Continues, FromEach, FromItem, AreMembers, HasRange, start, extended, AreListed, IsItemSet, IsLeaf, Matches, MatchesWhole, begins_range, has_in, new_dummy, IsValue, IsElse, AreValues, AreOperandValues, IsChain, AreKeys, HasTruth, Iterates, IsSetAfterIn, Extends, Agrees, AllAgree}

-- at most one has it
abbrev pub Unique : {A : Type 0} → (A → Type 0) → Type 0
Unique {A} P = (x y : A) → P x → P y → x ≡ y

-- ---- operators

tuple_unique : (v : Value) → Unique (IsTuple v)
tuple_unique v t u (one m) (one k) = refl
tuple_unique v t u (several s) (several r) = refl

pub makes_unique : (f : BinOp) (x y : Value) → Unique (IsResult f x y)
makes_unique f x y u v (make.plus a b) (make.plus c d) = refl
makes_unique f x y u v (make.minus a b) (make.minus c d) = refl
makes_unique f x y u v (make.times a b) (make.times c d) = refl
makes_unique f x y u v (make.quotient a b h) (make.quotient c d i) = refl
makes_unique f x y u v (make.remainder a b h) (make.remainder c d i) = refl
makes_unique f x y u v (make.less a b) (make.less c d) = refl
makes_unique f x y u v (make.at_most a b) (make.at_most c d) = refl
makes_unique f x y u v (make.greater a b) (make.greater c d) = refl
makes_unique f x y u v (make.at_least a b) (make.at_least c d) = refl
makes_unique f x y u v (make.equal a b) (make.equal c d) = refl
makes_unique f x y u v (make.unequal a b) (make.unequal c d) = refl
makes_unique f x y u v (make.is_in z t ts h j) (make.is_in a s ss i k) = ap (λ r. Truth (has ts r)) (tuple_unique z t s h i)
makes_unique f x y u v (make.is_not_in z t ts h j) (make.is_not_in a s ss i k) = ap (λ r. Truth (not (has ts r))) (tuple_unique z t s h i)
makes_unique f x y u v (make.within a b h) (make.within c d i) = refl
makes_unique f x y u v (make.not_within a b h) (make.not_within c d i) = refl
makes_unique f x y u v (make.cross a b) (make.cross c d) = refl
makes_unique f x y u v (make.union a b h) (make.union c d i) = refl
makes_unique f x y u v (make.inter a b h) (make.inter c d i) = refl
makes_unique f x y u v (make.diff a b h) (make.diff c d i) = refl
makes_unique f x y u v (make.symdiff a b h) (make.symdiff c d i) = refl
makes_unique f x y u v (make.and_both a) (make.and_both b) = refl
makes_unique f x y u v (make.or_other a) (make.or_other b) = refl

pub decided_makes_nothing : (f : BinOp) (x y v : Value) → ShortCircuits f x → IsResult f x y v → ⊥
decided_makes_nothing f x y v and_false m = elim m [ ]
decided_makes_nothing f x y v or_true m = elim m [ ]

joins_unique : (f : BinOp) (x : Value) (Right : Value → Type 0) → Unique Right → Unique (Combines f x Right)
joins_unique f x Right h u v (inl (d, e)) (inl (g, i)) = e ∙ sym i
joins_unique f x Right h u v (inl (d, e)) (inr (z, r, m)) = absurd (decided_makes_nothing f x z v d m)
joins_unique f x Right h u v (inr (z, r, m)) (inl (d, e)) = absurd (decided_makes_nothing f x z u d m)
joins_unique f x Right h u v (inr (z, r, m)) (inr (a, s, n)) = makes_unique f x z u v m (subst (λ k. IsResult f x k v) (h a z s r) n)

-- ---- names

pub some_is : {A : Type 0} (a b : A) → Some a ≡ Some b → a ≡ b
some_is a b e = cc

named_unique : (e : Env) (n : Name) (key : Tuple) → Unique (Denotes e n key)
named_unique e n key u v (dummy m h) (dummy k i) = ap (λ z. One z) (some_is m k (sym h ∙ i))
named_unique e n key u v (dummy m h) (a_set ts i j) = cc
named_unique e n key u v (dummy m h) (parameter f l k i j g) = cc
named_unique e n key u v (a_set ts i j) (dummy m h) = cc
named_unique e n key u v (a_set ts i j) (a_set us k l) = cc
named_unique e n key u v (a_set ts i j) (parameter f l m a b g) = cc
named_unique e n key u v (parameter f l m i j g) (dummy k h) = cc
named_unique e n key u v (parameter f l m i j g) (a_set ts a b) = cc
named_unique e n key u v (parameter f l m i j g) (parameter h o k a b c) = cc

read_unique : (o : Option (Tuple → ℤ)) (key : Tuple) (P : Value → Type 0) → Unique P → (u v : Value) → IsArcOr o key u (P u) → IsArcOr o key v (P v) → u ≡ v
read_unique None key P h u v p q = h u v p q
read_unique (Some x) key P h u v p q = p ∙ sym q

pub leaf_unique : (e : Env) (t : Token) (k : Kind) → Unique (IsLeaf e k t.text)
leaf_unique e t kinds.Num u v (n, h, i) (m, j, k) = i ∙ ap number (some_is n m (sym (value_is t.text n h) ∙ value_is t.text m j)) ∙ sym k
leaf_unique e t kinds.Str u v h i = h ∙ sym i
leaf_unique e t kinds.Name u v h i = named_unique e t.text [] u v h i
leaf_unique e t _ u v h i = absurd h

-- ---- reductions and ranges

among_all : (P : ℤ → Type 0) (ns : List ℤ) (n : ℤ) → AllByRecursion P ns → IsAmong ns n → P n
among_all P [] n h i = absurd i
among_all P (m ∷ ns) n h (inl e) = subst P e h.0
among_all P (m ∷ ns) n h (inr i) = among_all P ns n h.1 i

pub reduces_unique : (r : Reduction) (ns : List ℤ) → Unique (Reduces r ns)
reduces_unique Sum ns n m h i = h ∙ sym i
reduces_unique Min ns n m (a, h) (b, i) = let one : n ≤ℤ m = among_all (λ k. n ≤ℤ k) ns m h b in let two : m ≤ℤ n = among_all (λ k. m ≤ℤ k) ns n i a in omega (arith, ints, one, two)
reduces_unique Max ns n m (a, h) (b, i) = let one : m ≤ℤ n = among_all (λ k. k ≤ℤ n) ns m h b in let two : n ≤ℤ m = among_all (λ k. k ≤ℤ m) ns n i a in omega (arith, ints, one, two)

range_unique : (a b c : ℤ) → Unique (IsRange a b c)
range_unique a b c ts us h i = h.tuples ∙ ap (λ n. singles (numbers_by a c n)) same ∙ sym i.tuples
  where
    upto : (n m : ℕ) → ((k : ℕ) → k < n → k < m) → n ≤ m
    upto zero m f = omega arith
    upto (suc n) m f = let g = f n (omega arith) in omega (arith, g)

    same : h.count ≡ i.count
    same = let one = upto h.count i.count (λ k j. (i.inside k).1 ((h.inside k).0 j)) in let two = upto i.count h.count (λ k j. (h.inside k).1 ((i.inside k).0 j)) in omega (arith, one, two)

span_unique : (vs : List Value) → Unique (IsRangeOf vs)
span_unique vs ts us (to a b xs h) (to c d ys i) = range_unique a b (pos 1) ts us h i
span_unique vs ts us (by a b c xs h) (by d f g ys i) = range_unique a b c ts us h i

-- ---- members, keys

alone_whether : {A : Type 0} (b : Bool) (P Q : A → Type 0) → Unique P → Unique Q → (x y : A) → Whether b (P x) (Q x) → Whether b (P y) (Q y) → x ≡ y
alone_whether true P Q h k x y i j = h x y i j
alone_whether false P Q h k x y i j = k x y i j

ones_same : (t u : Tuple) → map (λ m. One m) t ≡ map (λ m. One m) u → t ≡ u
ones_same [] [] e = refl
ones_same [] (m ∷ u) e = cc
ones_same (m ∷ t) [] e = cc
ones_same (m ∷ t) (k ∷ u) e = pair (front_is _ _ _ _ e) (ones_same t u (rest_is _ _ _ _ e))
  where
    front_is : (a b : Value) (xs ys : List Value) → (a ∷ xs) ≡ (b ∷ ys) → a ≡ b
    front_is a b xs ys f = cc

    rest_is : (a b : Value) (xs ys : List Value) → (a ∷ xs) ≡ (b ∷ ys) → xs ≡ ys
    rest_is a b xs ys f = cc

    pair : One m ≡ One k → t ≡ u → (m ∷ t) ≡ (k ∷ u)
    pair f g = cc

members_unique : (First : Value → Type 0) (More : List Value → Type 0) → Unique First → Unique More → Unique (AreMembers First More)
members_unique First More h k t u (a, az, p, q, e) (b, bs, r, s, f) = ones_same t u (sym e ∙ (let one : a ≡ b = h a b p r in let two : az ≡ bs = k az bs q s in ap (λ z. z ∷ az) one ∙ ap (λ zs. b ∷ zs) two) ∙ f)

spans_unique : (More : List Value → Type 0) → Unique More → (x : Value) → Unique (HasRange More x)
spans_unique More h x u v (us, ts, m, s, e) (vs, rs, n, r, f) =
    let same : us ≡ vs = h us vs m n in e ∙ ap (λ z. Many z) (span_unique (x ∷ vs) ts rs (subst (λ z. IsRangeOf (x ∷ z) ts) same s) r) ∙ sym f

pub truth_same : (b c : Bool) → Truth b ≡ Truth c → b ≡ c
truth_same b c e = cc

pub number_same : (n m : ℤ) → number n ≡ number m → n ≡ m
number_same n m e = cc

pub many_same : (ts us : List Tuple) → Many ts ≡ Many us → ts ≡ us
many_same ts us e = cc

pub one_same : (m k : Member) → One m ≡ One k → m ≡ k
one_same m k e = cc

pub zip_unique : {A B : Type 0} (R : A → B → Type 0) → ((a : A) → Unique (R a)) → (xs : List A) → Unique (AllZip R xs)
zip_unique R h [] [] [] p q = refl
zip_unique R h [] [] (b ∷ bs) p q = absurd q
zip_unique R h [] (a ∷ az) bs p q = absurd p
zip_unique R h (x ∷ xs) [] bs p q = absurd p
zip_unique R h (x ∷ xs) (a ∷ az) [] p q = absurd q
zip_unique R h (x ∷ xs) (a ∷ az) (b ∷ bs) p q = ap (λ z. z ∷ az) (h x a b p.0 q.0) ∙ ap (λ zs. b ∷ zs) (zip_unique R h xs az bs p.1 q.1)

meets_unique : (k : Key) (o : Option Name) (Own : Value → Type 0) (m : Member) (Rest : Key → Option Key → Type 0) → Unique Own → ((q : Key) → Unique (Rest q)) → Unique (Matches k o Own m Rest)
meets_unique k (Some n) Own m Rest h i r s p q = i (bind n m k) r s p q
meets_unique k None Own m Rest h i r s (u, a, p) (v, b, q) =
    let same : v ≡ u = one_same v u (h (One v) (One u) b a) in
    alone_whether (same_member u m) (Rest k) (λ z. z ≡ None) (i k) (λ x y e f. e ∙ sym f) r s p (subst (λ z. Whether (same_member z m) (Rest k s) (s ≡ None)) same q)

meets_whole_unique : (k : Key) (o : Option Name) (Own : Value → Type 0) (t : Tuple) → Unique Own → Unique (MatchesWhole k o Own t)
meets_whole_unique k (Some n) Own [] h r s p q = absurd p
meets_whole_unique k (Some n) Own (m ∷ []) h r s p q = p ∙ sym q
meets_whole_unique k (Some n) Own (m ∷ l ∷ ms) h r s p q = absurd p
meets_whole_unique k None Own t h r s (u, x, a, i, l, p) (v, y, b, j, m, q) =
    let same : v ≡ u = h v u b a in
    let tuples : y ≡ x = tuple_unique u y x (subst (λ z. IsTuple z y) same j) i in
    alone_whether (same_tuple x t) (λ z. z ≡ Some k) (λ z. z ≡ None) (λ x y e f. e ∙ sym f) (λ x y e f. e ∙ sym f) r s p (subst (λ z. Whether (same_tuple z t) (s ≡ Some k) (s ≡ None)) tuples q)

onward_unique : (Next : Key → List Key → Type 0) → ((k : Key) → Unique (Next k)) → (o : Option Key) → Unique (Continues Next o)
onward_unique Next h None x y p q = p ∙ sym q
onward_unique Next h (Some k) x y p q = h k x y p q

each_unique : (Place : Tuple → Option Key → Type 0) (Next : Key → List Key → Type 0) → ((t : Tuple) → Unique (Place t)) → ((k : Key) → Unique (Next k)) → (ts : List Tuple) → Unique (FromEach Place Next ts)
each_unique Place Next h i [] x y p q = p ∙ sym q
each_unique Place Next h i (t ∷ ts) x y (r, here, rest, a, b, c, e) (s, there, others, f, g, j, l) =
    let one : s ≡ r = h t s r f a in
    let two : here ≡ there = onward_unique Next i r here there b (subst (λ z. Continues Next z there) one g) in
    let three : rest ≡ others = each_unique Place Next h i ts rest others c j in
    e ∙ ap (λ z. z ++ rest) two ∙ ap (λ z. there ++ z) three ∙ sym l

item_unique : (IsSet : List Tuple → Type 0) (Place : Tuple → Option Key → Type 0) (Next : Key → List Key → Type 0) → Unique IsSet → ((t : Tuple) → Unique (Place t)) → ((k : Key) → Unique (Next k)) → Unique (FromItem IsSet Place Next)
item_unique IsSet Place Next g h i x y (ts, a, b) (us, c, d) =
    each_unique Place Next h i ts x y b (subst (λ z. FromEach Place Next z y) (g us ts c a) d)

keeps_unique : (P : Key → Bool → Type 0) → ((k : Key) → Unique (P k)) → (ks : List Key) → Unique (Filters P ks)
keeps_unique P h [] x y p q = p ∙ sym q
keeps_unique P h (k ∷ ks) x y (a, p, inl (t, e)) (b, q, inl (u, f)) = e ∙ ap (λ z. k ∷ z) (keeps_unique P h ks a b p q) ∙ sym f
keeps_unique P h (k ∷ ks) x y (a, p, inr (t, e)) (b, q, inr (u, f)) = e ∙ keeps_unique P h ks a b p q ∙ sym f
keeps_unique P h (k ∷ ks) x y (a, p, inl (t, e)) (b, q, inr (u, f)) = absurd (true≢false (h k true false t u))
keeps_unique P h (k ∷ ks) x y (a, p, inr (t, e)) (b, q, inl (u, f)) = absurd (true≢false (h k true false u t))

set_unique : (i : Expression) (After : List Tuple → Type 0) (Own : Value → Type 0) → Unique After → Unique Own → Unique (IsItemSet i After Own)
set_unique i After Own h k x y p q = alone_whether (has_in i) After (λ ts. Own (Many ts)) h (λ ts us a b. many_same ts us (k (Many ts) (Many us) a b)) x y p q

listed_unique : (e : Env) (First : Value → Type 0) (More : List Value → Type 0) → Unique First → Unique More → Unique (AreListed e First More)
listed_unique e First More h k x y (a, az, ts, p, q, z, d, f) (b, bs, us, r, s, w, c, g) =
    let one : b ≡ a = h b a r p in
    let two : bs ≡ az = k bs az s q in
    let same : ts ≡ us = zip_unique IsTuple tuple_unique (a ∷ az) ts us z (subst (λ n. AllZip IsTuple (a ∷ n) us) two (subst (λ n. AllZip IsTuple (n ∷ bs) us) one w)) in
    f ∙ ap (λ l. map (λ t. record { key = t; env = e }) (union [] l)) same ∙ sym g

-- braces list members and tuples, or are walked
no_set : (ts : List Tuple) (t : Tuple) → IsTuple (Many ts) t → ⊥
no_set ts t h = elim h [ ]

no_truth : (b : Bool) (t : Tuple) → IsTuple (Truth b) t → ⊥
no_truth b t h = elim h [ ]

in_is : (f : BinOp) → is_in f ≡ true → f ≡ op.In
in_is op.In e = refl
in_is _ e = cc

membership_is_truth : (x : Value) (Right : Value → Type 0) (v : Value) → Combines op.In x Right v → (b : Bool) × (v ≡ Truth b)
membership_is_truth x Right v (inl (d, e)) = elim d [ ]
membership_is_truth x Right v (inr (z, r, m)) = by_making x z v m
  where
    by_making : (x z v : Value) → IsResult op.In x z v → (b : Bool) × (v ≡ Truth b)
    by_making x z v (make.is_in a t ts h i) = (_, refl)

-- an item with `in` is a truth where it is evaluated
in_is_no_tuple : (e : Env) (x : Value) (o : _) (y : Expression) (u : Value) (t : Tuple) → o ≡ op.In → Whether (is_range o) (HasRange (AreOperandValues e (apply o y none)) x u) (IsChain e x (apply o y none) u) → IsTuple u t → ⊥
in_is_no_tuple e x o y u t f h k = go (subst (λ g. Whether (is_range g) (HasRange (AreOperandValues e (apply o y none)) x u) ((w : Value) × Combines g x (IsValue e y) w × (u ≡ w))) f h)
  where
    go : (w : Value) × Combines op.In x (IsValue e y) w × (u ≡ w) → ⊥
    go (w, j, i) = let (b, m) = membership_is_truth x (IsValue e y) w j in no_truth b t (subst (λ z. IsTuple z t) (i ∙ m) k)

item_is_no_tuple : (e : Env) (i : Expression) → Unique (IsValue e i) → (ts : List Tuple) → IsItemSet i (IsSetAfterIn e i) (IsValue e i) ts → (u : Value) (t : Tuple) → IsValue e i u → IsTuple u t → ⊥
item_is_no_tuple e (chain x (apply o y none)) alone ts set u t (a, g, h) k = go (is_in o) refl set
  where
    go : (b : Bool) → is_in o ≡ b → Whether b (IsValue e y (Many ts)) (IsValue e (chain x (apply o y none)) (Many ts)) → ⊥
    go true f s = in_is_no_tuple e a o y u t (in_is o f) h k
    go false f s = no_set ts t (subst (λ z. IsTuple z t) (alone u (Many ts) (a, g, h) s) k)
item_is_no_tuple e i alone ts set u t h k = no_set ts t (subst (λ z. IsTuple z t) (alone u (Many ts) h set) k)

walked_or_listed : (e : Env) (i : Expression) → Unique (IsValue e i) → (ts : List Tuple) → IsItemSet i (IsSetAfterIn e i) (IsValue e i) ts → (u : Value) (us : List Value) (vs : List Tuple) → IsValue e i u → AllZip IsTuple (u ∷ us) vs → ⊥
walked_or_listed e i alone ts s u us [] h z = absurd z
walked_or_listed e i alone ts s u us (t ∷ vs) h z = item_is_no_tuple e i alone ts s u t h z.0

filled_unique : (e : Env) (i : Expression) (is : Expressions) (p : Clause) → Unique (IsValue e i) → Unique (IsSetAfterIn e i) → ((k : Key) (t : Tuple) → Unique (Extends k i t)) → ((k : Key) → Unique (Iterates k is))
    → Unique (AreValues e is) → ((k : Key) → Unique (HasTruth p k)) → Unique (AreKeys e (filled i is p))
filled_unique e i is p value set leads walks values tested x y (inl (all, f, d, k)) (inl (others, g, c, l)) =
    let same : others ≡ all = item_unique (IsItemSet i (IsSetAfterIn e i) (IsValue e i)) (Extends (start e) i) (λ z. Iterates z is) (set_unique i (IsSetAfterIn e i) (IsValue e i) set value) (λ t. leads (start e) t) walks others all g f in
    keeps_unique (HasTruth p) tested all x y k (subst (λ z. Filters (HasTruth p) z y) same l)
filled_unique e i is p value set leads walks values tested x y (inr (f, a)) (inr (g, b)) = listed_unique e (IsValue e i) (AreValues e is) value values x y f g
filled_unique e i is p value set leads walks values tested x y (inl (all, (ts, s, f), d, k)) (inr ((u, us, vs, h, g, z, c, l), b)) = absurd (walked_or_listed e i value ts s u us vs h z)
filled_unique e i is p value set leads walks values tested x y (inr ((u, us, vs, h, g, z, c, l), b)) (inl (all, (ts, s, f), d, k)) = absurd (walked_or_listed e i value ts s u us vs h z)

mutual
  value_unique : (e : Env) (t : Expression) → Unique (IsValue e t)
  value_unique e (leaf t) u v p q = read_unique (e.arcs t.text) [] (IsLeaf e t.kind t.text) (leaf_unique e t t.kind) u v p q
  value_unique e (indexed n x l) u v (key, a, p) (other, b, q) =
      let same : other ≡ key = members_unique (IsValue e x) (AreValues e l) (value_unique e x) (values_unique e l) other key b a in
      read_unique (e.arcs n) key (Denotes e n key) (named_unique e n key) u v p (subst (λ z. IsArcOr (e.arcs n) z v (Denotes e n z v)) same q)
  value_unique e (parens x) u v p q = value_unique e x u v p q
  value_unique e (tuple x l) u v (t, a, p) (s, b, q) = p ∙ ap (λ z. Several z) (members_unique (IsValue e x) (AreValues e l) (value_unique e x) (values_unique e l) t s a b) ∙ sym q
  value_unique e (negated x) u v (b, h, p) (c', i, q) = p ∙ ap (λ z. Truth (not z)) (truth_same b c' (value_unique e x (Truth b) (Truth c') h i)) ∙ sym q
  value_unique e (braced b) u v (ks, h, p) (js, i, q) = p ∙ ap (λ z. Many (union [] (map (λ k. k.key) z))) (keys_unique e b ks js h i) ∙ sym q
  value_unique e (signed minus x) u v (n, h, p) (m, i, q) = p ∙ ap (λ z. number (turned minus z)) (number_same n m (value_unique e x (number n) (number m) h i)) ∙ sym q
  value_unique e (reduced r b x) u v (ks, ns, n, h, all, red, p) (js, ms, m, i, each, red', q) =
      let keys : js ≡ ks = keys_unique e b js ks i h in
      let numbers : ms ≡ ns = zip_unique (λ (k : Key) m. IsValue k.env x (number m)) (λ k m n a b. number_same m n (value_unique k.env x (number m) (number n) a b)) ks ms ns (subst (λ z. AllZip (λ (k : Key) m. IsValue k.env x (number m)) z ms) keys each) all in
      p ∙ ap number (reduces_unique r ns n m red (subst (λ z. Reduces r z m) numbers red')) ∙ sym q
  value_unique e (chain x l) u v (a, h, p) (b, i, q) =
      let same : b ≡ a = value_unique e x b a i h in
      alone_whether (begins_range l) (HasRange (AreOperandValues e l) a) (IsChain e a l) (spans_unique (AreOperandValues e l) (operands_unique e l) a) (follows_unique e a l) u v p
      (subst (λ z. Whether (begins_range l) (HasRange (AreOperandValues e l) z v) (IsChain e z l v)) same q)
  value_unique e (conditional x y p) u v (b, h, r) (c, j, s) =
      let same : c ≡ b = truth_same c b (value_unique e x (Truth c) (Truth b) j h) in
      alone_whether b (IsValue e y) (IsElse e p) (value_unique e y) (else_unique e p) u v r (subst (λ z. Whether z (IsValue e y v) (IsElse e p v)) same s)
  value_unique e (net minus out) u v p q = p ∙ sym q

  else_unique : (e : Env) (p : Clause) → Unique (IsElse e p)
  else_unique e absent u v p q = p ∙ sym q
  else_unique e (present x) u v p q = value_unique e x u v p q

  values_unique : (e : Env) (l : Expressions) → Unique (AreValues e l)
  values_unique e no_more u v p q = p ∙ sym q
  values_unique e (more x l) u v (a, as', h, i, p) (b, bs, j, k, q) = p ∙ ap (λ z. z ∷ as') (value_unique e x a b h j) ∙ ap (λ z. b ∷ z) (values_unique e l as' bs i k) ∙ sym q

  operands_unique : (e : Env) (l : Operands) → Unique (AreOperandValues e l)
  operands_unique e none u v p q = p ∙ sym q
  operands_unique e (apply o x l) u v (a, as', h, i, p) (b, bs, j, k, q) = p ∙ ap (λ z. z ∷ as') (value_unique e x a b h j) ∙ ap (λ z. b ∷ z) (operands_unique e l as' bs i k) ∙ sym q

  follows_unique : (e : Env) (x : Value) (l : Operands) → Unique (IsChain e x l)
  follows_unique e x none u v p q = p ∙ sym q
  follows_unique e x (apply o y l) u v (a, h, i) (b, j, k) =
      follows_unique e a l u v i (subst (λ z. IsChain e z l v) (joins_unique o x (IsValue e y) (value_unique e y) b a j h) k)

  keys_unique : (e : Env) (b : Braces) → Unique (AreKeys e b)
  keys_unique e (empty p) x y a b = a.0 ∙ sym b.0
  keys_unique e (filled i is p) x y a b =
      filled_unique e i is p (value_unique e i) (after_unique e i) (λ k t. leads_unique k i t) (λ k. walks_unique k is) (values_unique e is) (λ k. true_unique p k) x y a b

  true_unique : (p : Clause) (k : Key) → Unique (HasTruth p k)
  true_unique absent k b c h i = h ∙ sym i
  true_unique (present x) k b c h i = truth_same b c (value_unique k.env x (Truth b) (Truth c) h i)

  walks_unique : (k : Key) (l : Expressions) → Unique (Iterates k l)
  walks_unique k no_more x y p q = p ∙ sym q
  walks_unique k (more i is) x y p q =
      item_unique (IsItemSet i (IsSetAfterIn k.env i) (IsValue k.env i)) (Extends k i) (λ z. Iterates z is) (set_unique i (IsSetAfterIn k.env i) (IsValue k.env i) (after_unique k.env i) (value_unique k.env i))
      (λ t. leads_unique k i t) (λ z. walks_unique z is) x y p q

  after_unique : (e : Env) (i : Expression) → Unique (IsSetAfterIn e i)
  after_unique e (chain x (apply o y none)) ts us p q = many_same ts us (value_unique e y (Many ts) (Many us) p q)
  after_unique e _ ts us p q = absurd p

  leads_unique : (k : Key) (i : Expression) (t : Tuple) → Unique (Extends k i t)
  leads_unique k (chain x (apply o y none)) t r s p q =
      alone_whether (is_in o) (Agrees k x (IsValue k.env x) t) (λ z. z ≡ Some (extended k t)) (agrees_unique k x t (value_unique k.env x)) (λ a b e f. e ∙ sym f) r s p q
  leads_unique k _ t r s p q = p ∙ sym q

  agrees_unique : (k : Key) (x : Expression) (t : Tuple) → Unique (IsValue k.env x) → Unique (Agrees k x (IsValue k.env x) t)
  agrees_unique k (tuple x l) [] h r s p q = absurd p
  agrees_unique k (tuple x l) (m ∷ ms) h r s p q =
      meets_unique k (new_dummy k.env x) (IsValue k.env x) m (λ z. AllAgree z l ms) (value_unique k.env x) (λ z. all_agree_unique z l ms) r s p.1 q.1
  agrees_unique k x t h r s p q = meets_whole_unique k (new_dummy k.env x) (IsValue k.env x) t h r s p q

  all_agree_unique : (k : Key) (l : Expressions) (ms : Tuple) → Unique (AllAgree k l ms)
  all_agree_unique k no_more [] r s p q = p ∙ sym q
  all_agree_unique k no_more (m ∷ ms) r s p q = absurd p
  all_agree_unique k (more x l) [] r s p q = absurd p
  all_agree_unique k (more x l) (m ∷ ms) r s p q =
      meets_unique k (new_dummy k.env x) (IsValue k.env x) m (λ z. AllAgree z l ms) (value_unique k.env x) (λ z. all_agree_unique z l ms) r s p q

pub values_are_unique : ValuesAreUnique
values_are_unique e t u v p q = value_unique e t u v p q

pub keys_are_unique : KeysAreUnique
keys_are_unique e b u v p q = keys_unique e b u v p q
