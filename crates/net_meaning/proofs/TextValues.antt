-- The texts of a value come from the environment and from the names and strings of the expression.
use Rattle.std.specs.Prelude.{◌≡◌, ℕ, Bool, true, false, List, [], ◌∷◌, map, Option, None, Some, if◌then◌else◌, ℤ}
use Rattle.std.specs.Option.{ForSome}
use Rattle.std.specs.Str.{bytes_eq}
use Rattle.std.proofs.Common.{sym, subst, inl, inr}
use Rattle.net_base.proofs.Elements.{OfSome, all_append}
use Rattle.net_lex.specs.declared.token.Kind.{Kind}
use Rattle.net_lex.specs.declared.token.Kind.TheVariants as kinds
use Rattle.net_lex.specs.declared.token.Token.{Token}
use Rattle.net_sets.specs.declared.member.Member.{Member}
use Rattle.net_sets.specs.Names.{named}
use Rattle.net_sets.specs.Operations.{union}
use Rattle.net_sets.specs.Sets.{Tuple, same_member, same_tuple}
use Rattle.net_tree.specs.Items.{is_in}
use Rattle.net_tree.specs.Syntax.{Expression, Expressions, Operands, Clause, Braces, leaf, indexed, parens, tuple, negated, braced, signed, reduced, chain, conditional, net, no_more, more, none, apply, absent, present, empty, filled}
use Rattle.net_expr.specs.Worlds.{Name, Scope, bound}
use Rattle.net_meaning.specs.Operators.{Value, Many}
use Rattle.net_meaning.specs.Texts.{MemberHolds, TupleHolds, TuplesHold, ValueHolds, MeaningHolds, WorldHolds, ScopeHolds, EnvHolds, KeyHolds, KeysHold, TokenHolds, ExpressionHolds, ExpressionsHold, OperandsHold, ClauseHolds, BracesHold}
use Rattle.net_meaning.specs.Values.{begins_range, has_in, new_dummy, AreOperandValues, IsItemSet, IsValue, IsElse, AreValues, IsChain, AreKeys, HasTruth, Iterates, IsSetAfterIn, Extends, Agrees, AllAgree, SetOf, ParameterOf, World, Env, Key, Whether, Denotes, dummy, a_set, parameter, IsArcOr, bind, Filters, Continues, FromEach, FromItem, AreMembers, HasRange, start, extended, AreListed, IsLeaf, Matches, MatchesWhole}
use Rattle.net_meaning.proofs.TextOperators.{combined_holds, ValuesHold, tuples_hold, members_hold, range_holds, union_holds}

pub none_is : {A : Type 0} (a : A) → None ≡ Some a → ⊥
none_is a e = cc

pub some_is : {A : Type 0} (a b : A) → Some a ≡ Some b → a ≡ b
some_is a b e = cc

module _ (P : List ℕ → Type 0) where
  -- ---- names

  bound_holds : (s : Scope) (n : Name) → ScopeHolds P s → ForSome (bound s n) (MemberHolds P)
  bound_holds [] n h m e = absurd (none_is m e)
  bound_holds (b ∷ s) n h m e = go (bytes_eq b.name n) (bound_holds s n h.1) m e
    where
      go : (c : Bool) → ForSome (bound s n) (MemberHolds P) → ForSome (if c then Some b.member else bound s n) (MemberHolds P)
      go true k m' f = subst (MemberHolds P) (some_is b.member m' f) h.0
      go false k m' f = k m' f

  meaning_holds : (w : World) (n : Name) → WorldHolds P w → ForSome (named w n) (MeaningHolds P)
  meaning_holds [] n h x e = absurd (none_is x e)
  meaning_holds (y ∷ w) n h x e = go (bytes_eq y.0 n) (meaning_holds w n h.1) x e
    where
      go : (c : Bool) → ForSome (named w n) (MeaningHolds P) → ForSome (if c then Some y.1 else named w n) (MeaningHolds P)
      go true k x' f = subst (MeaningHolds P) (some_is y.1 x' f) h.0
      go false k x' f = k x' f

  denoted_holds : (e : Env) (n : Name) (key : Tuple) (v : Value) → EnvHolds P e → Denotes e n key v → ValueHolds P v
  denoted_holds e n key v h (dummy m b) = bound_holds e.dummies n h.1 m b
  denoted_holds e n key v h (a_set ts b i) = meaning_holds e.world n h.0 (SetOf ts) i
  denoted_holds e n key v h (parameter f key' m b i at) = (meaning_holds e.world n h.0 (ParameterOf f) i key' m at).1

  arc_or_holds : (o : Option (Tuple → ℤ)) (key : Tuple) (v : Value) (Else : Type 0) → (Else → ValueHolds P v) → IsArcOr o key v Else → ValueHolds P v
  arc_or_holds None key v Else k h = k h
  arc_or_holds (Some x) key v Else k h = subst (ValueHolds P) (sym h) tt

  leaf_holds : (e : Env) (t : Token) (k : Kind) (v : Value) → EnvHolds P e → TokenHolds P t → IsLeaf e k t.text v → ValueHolds P v
  leaf_holds e t kinds.Num v h k (n, i, is) = subst (ValueHolds P) (sym is) tt
  leaf_holds e t kinds.Str v h k is = subst (ValueHolds P) (sym is) k
  leaf_holds e t kinds.Name v h k is = denoted_holds e t.text [] v h is
  leaf_holds e t _ v h k is = absurd is

  -- ---- keys

  whether : (b : Bool) (Q R S : Type 0) → (Q → S) → (R → S) → Whether b Q R → S
  whether true Q R S f g h = f h
  whether false Q R S f g h = g h

  none_holds : (r : Option Key) → r ≡ None → OfSome (KeyHolds P) r
  none_holds r e = subst (OfSome (KeyHolds P)) (sym e) tt

  some_holds : (r : Option Key) (k : Key) → KeyHolds P k → r ≡ Some k → OfSome (KeyHolds P) r
  some_holds r k h e = subst (OfSome (KeyHolds P)) (sym e) h

  bind_holds : (n : Name) (m : Member) (k : Key) → MemberHolds P m → KeyHolds P k → KeyHolds P (bind n m k)
  bind_holds n m k h i = (all_append (MemberHolds P) k.key (m ∷ []) i.0 (h, tt), (i.1.0, (h, i.1.1)))

  extended_holds : (k : Key) (t : Tuple) → KeyHolds P k → TupleHolds P t → KeyHolds P (extended k t)
  extended_holds k t h i = (all_append (MemberHolds P) k.key t h.0 i, h.1)

  matched_holds : (k : Key) (o : Option Name) (Own : Value → Type 0) (m : Member) (Rest : Key → Option Key → Type 0) (r : Option Key) → KeyHolds P k → MemberHolds P m
      → ((q : Key) → KeyHolds P q → Rest q r → OfSome (KeyHolds P) r) → Matches k o Own m Rest r → OfSome (KeyHolds P) r
  matched_holds k (Some n) Own m Rest r h i f is = f (bind n m k) (bind_holds n m k i h) is
  matched_holds k None Own m Rest r h i f (u, own, is) = whether (same_member u m) (Rest k r) (r ≡ None) (OfSome (KeyHolds P) r) (f k h) (none_holds r) is

  matched_whole_holds : (k : Key) (o : Option Name) (Own : Value → Type 0) (t : Tuple) (r : Option Key) → KeyHolds P k → TupleHolds P t → MatchesWhole k o Own t r → OfSome (KeyHolds P) r
  matched_whole_holds k (Some n) Own [] r h i is = absurd is
  matched_whole_holds k (Some n) Own (m ∷ o ∷ ms) r h i is = absurd is
  matched_whole_holds k (Some n) Own (m ∷ []) r h i is = some_holds r (bind n m k) (bind_holds n m k i.0 h) is
  matched_whole_holds k None Own t r h i (v, u, own, same, long, is) =
      whether (same_tuple u t) (r ≡ Some k) (r ≡ None) (OfSome (KeyHolds P) r) (some_holds r k h) (none_holds r) is

  filtered_hold : (Test : Key → Bool → Type 0) (ks left : List Key) → KeysHold P ks → Filters Test ks left → KeysHold P left
  filtered_hold Test [] left h e = subst (KeysHold P) (sym e) tt
  filtered_hold Test (k ∷ ks) left h (rest, f, inl (t, e)) = subst (KeysHold P) (sym e) (h.0, filtered_hold Test ks rest h.1 f)
  filtered_hold Test (k ∷ ks) left h (rest, f, inr (t, e)) = subst (KeysHold P) (sym e) (filtered_hold Test ks rest h.1 f)

  -- if P holds of a tuple, it holds of the key that the tuple extends
  abbrev PlaceHolds : (Tuple → Option Key → Type 0) → Type 0
  PlaceHolds Place = (t : Tuple) (r : Option Key) → TupleHolds P t → Place t r → OfSome (KeyHolds P) r

  -- if P holds of a key, it holds of the keys that continue it
  abbrev NextHolds : (Key → List Key → Type 0) → Type 0
  NextHolds Next = (k : Key) (ks : List Key) → KeyHolds P k → Next k ks → KeysHold P ks

  continued_hold : (Next : Key → List Key → Type 0) → NextHolds Next → (r : Option Key) (ks : List Key) → OfSome (KeyHolds P) r → Continues Next r ks → KeysHold P ks
  continued_hold Next f None ks h e = subst (KeysHold P) (sym e) tt
  continued_hold Next f (Some k) ks h is = f k ks h is

  each_hold : (Place : Tuple → Option Key → Type 0) (Next : Key → List Key → Type 0) → PlaceHolds Place → NextHolds Next → (ts : List Tuple) (ks : List Key) → TuplesHold P ts → FromEach Place Next ts ks
      → KeysHold P ks
  each_hold Place Next f g [] ks h e = subst (KeysHold P) (sym e) tt
  each_hold Place Next f g (t ∷ ts) ks h (r, here, rest, p, c, others, e) =
      subst (KeysHold P) (sym e) (all_append (KeyHolds P) here rest (continued_hold Next g r here (f t r h.0 p) c) (each_hold Place Next f g ts rest h.1 others))

  item_holds : (IsSet : List Tuple → Type 0) (Place : Tuple → Option Key → Type 0) (Next : Key → List Key → Type 0) → ((ts : List Tuple) → IsSet ts → TuplesHold P ts) → PlaceHolds Place → NextHolds Next
      → (ks : List Key) → FromItem IsSet Place Next ks → KeysHold P ks
  item_holds IsSet Place Next s f g ks (ts, is, each) = each_hold Place Next f g ts ks (s ts is) each

  keyed_hold : (e : Env) (ts : List Tuple) → EnvHolds P e → TuplesHold P ts → KeysHold P (map (λ t. record { key = t; env = e }) ts)
  keyed_hold e [] h i = tt
  keyed_hold e (t ∷ ts) h i = ((i.0, h), keyed_hold e ts h i.1)

  listed_hold : (e : Env) (First : Value → Type 0) (More : List Value → Type 0) → EnvHolds P e → ((u : Value) → First u → ValueHolds P u) → ((us : List Value) → More us → ValuesHold P us) → (ks : List Key)
      → AreListed e First More ks → KeysHold P ks
  listed_hold e First More h f g ks (u, us, ts, i, j, z, d, is) =
      subst (KeysHold P) (sym is) (keyed_hold e (union [] ts) h (union_holds P [] ts tt (tuples_hold P (u ∷ us) ts (f u i, g us j) z)))

  pub of_keys : (ks : List Key) → KeysHold P ks → TuplesHold P (map (λ (k : Key). k.key) ks)
  of_keys [] h = tt
  of_keys (k ∷ ks) h = (h.0.0, of_keys ks h.1)

  -- ---- items

  all_agree_hold : (k : Key) (l : Expressions) (ms : Tuple) (r : Option Key) → KeyHolds P k → TupleHolds P ms → AllAgree k l ms r → OfSome (KeyHolds P) r
  all_agree_hold k no_more [] r h j is = some_holds r k h is
  all_agree_hold k no_more (m ∷ ms) r h j is = absurd is
  all_agree_hold k (more x l) [] r h j is = absurd is
  all_agree_hold k (more x l) (m ∷ ms) r h j is =
      matched_holds k (new_dummy k.env x) (IsValue k.env x) m (λ q. AllAgree q l ms) r h j.0 (λ q a b. all_agree_hold q l ms r a j.1 b) is

  agrees_holds : (k : Key) (x : Expression) (Own : Value → Type 0) (t : Tuple) (r : Option Key) → KeyHolds P k → TupleHolds P t → Agrees k x Own t r → OfSome (KeyHolds P) r
  agrees_holds k (tuple x l) Own [] r h j is = absurd is
  agrees_holds k (tuple x l) Own (m ∷ ms) r h j is =
      matched_holds k (new_dummy k.env x) (IsValue k.env x) m (λ q. AllAgree q l ms) r h j.0 (λ q a b. all_agree_hold q l ms r a j.1 b) is.1
  agrees_holds k x Own t r h j is = matched_whole_holds k (new_dummy k.env x) Own t r h j is

  extends_holds : (k : Key) (i : Expression) (t : Tuple) (r : Option Key) → KeyHolds P k → TupleHolds P t → Extends k i t r → OfSome (KeyHolds P) r
  extends_holds k (chain x (apply o y none)) t r h j is =
      whether (is_in o) (Agrees k x (IsValue k.env x) t r) (r ≡ Some (extended k t)) (OfSome (KeyHolds P) r) (agrees_holds k x (IsValue k.env x) t r h j) (some_holds r (extended k t) (extended_holds k t h j)) is
  extends_holds k _ t r h j is = some_holds r (extended k t) (extended_holds k t h j) is

  -- the members of an item's set
  item_set_holds : (i : Expression) (After : List Tuple → Type 0) (Own : Value → Type 0) (ts : List Tuple) → (After ts → TuplesHold P ts) → (Own (Many ts) → TuplesHold P ts) → IsItemSet i After Own ts → TuplesHold P ts
  item_set_holds i After Own ts f g is = whether (has_in i) (After ts) (Own (Many ts)) (TuplesHold P ts) f g is

  -- ---- expressions

  components_hold : (First : Value → Type 0) (More : List Value → Type 0) (t : Tuple) → ((u : Value) → First u → ValueHolds P u) → ((us : List Value) → More us → ValuesHold P us) → AreMembers First More t
      → TupleHolds P t
  components_hold First More t f g (u, us, i, j, e) = members_hold P t (subst (ValuesHold P) e (f u i, g us j))

  spanned_holds : (More : List Value → Type 0) (u v : Value) → HasRange More u v → ValueHolds P v
  spanned_holds More u v (us, ts, m, r, e) = subst (ValueHolds P) (sym e) (range_holds P (u ∷ us) ts r)

  mutual
    pub value_holds : (e : Env) (t : Expression) (v : Value) → EnvHolds P e → ExpressionHolds P t → IsValue e t v → ValueHolds P v
    value_holds e (leaf t) v h k is = arc_or_holds (e.arcs t.text) [] v (IsLeaf e t.kind t.text v) (leaf_holds e t t.kind v h k) is
    value_holds e (indexed n x l) v h k (key, i, is) = arc_or_holds (e.arcs n) key v (Denotes e n key v) (denoted_holds e n key v h) is
    value_holds e (parens x) v h k is = value_holds e x v h k is
    value_holds e (tuple x l) v h k (t, i, is) =
        subst (ValueHolds P) (sym is) (components_hold (IsValue e x) (AreValues e l) t (λ u j. value_holds e x u h k.0 j) (λ us j. values_hold e l us h k.1 j) i)
    value_holds e (negated x) v h k (b, i, is) = subst (ValueHolds P) (sym is) tt
    value_holds e (braced b) v h k (ks, i, is) = subst (ValueHolds P) (sym is) (union_holds P [] (map (λ (q : Key). q.key) ks) tt (of_keys ks (keys_hold e b ks h k i)))
    value_holds e (signed minus x) v h k (n, i, is) = subst (ValueHolds P) (sym is) tt
    value_holds e (reduced r b x) v h k (ks, ns, n, i, all, red, is) = subst (ValueHolds P) (sym is) tt
    value_holds e (chain x l) v h k (u, i, is) =
        whether (begins_range l) (HasRange (AreOperandValues e l) u v) (IsChain e u l v) (ValueHolds P v) (spanned_holds (AreOperandValues e l) u v) (chain_holds e u l v h (value_holds e x u h k.0 i) k.1) is
    value_holds e (conditional x y p) v h k (b, j, is) = whether b (IsValue e y v) (IsElse e p v) (ValueHolds P v) (value_holds e y v h k.1) (else_holds e p v h k.2) is
    value_holds e (net minus out) v h k is = subst (ValueHolds P) (sym is) tt

    else_holds : (e : Env) (p : Clause) (v : Value) → EnvHolds P e → ClauseHolds P p → IsElse e p v → ValueHolds P v
    else_holds e absent v h k is = subst (ValueHolds P) (sym is) tt
    else_holds e (present x) v h k is = value_holds e x v h k is

    values_hold : (e : Env) (l : Expressions) (vs : List Value) → EnvHolds P e → ExpressionsHold P l → AreValues e l vs → ValuesHold P vs
    values_hold e no_more vs h k is = subst (ValuesHold P) (sym is) tt
    values_hold e (more x l) vs h k (u, us, i, j, is) = subst (ValuesHold P) (sym is) (value_holds e x u h k.0 i, values_hold e l us h k.1 j)

    chain_holds : (e : Env) (u : Value) (l : Operands) (v : Value) → EnvHolds P e → ValueHolds P u → OperandsHold P l → IsChain e u l v → ValueHolds P v
    chain_holds e u none v h i k is = subst (ValueHolds P) (sym is) i
    chain_holds e u (apply o x l) v h i k (w, j, is) =
        chain_holds e w l v h (combined_holds P o u w (IsValue e x) i (λ z r. value_holds e x z h k.0 r) j) k.1 is

    pub keys_hold : (e : Env) (b : Braces) (ks : List Key) → EnvHolds P e → BracesHold P b → AreKeys e b ks → KeysHold P ks
    keys_hold e (empty p) ks h k is = subst (KeysHold P) (sym is.0) tt
    keys_hold e (filled i is p) ks h k (inl (all, f, d, left)) =
        filtered_hold (HasTruth p) all ks (item_holds (IsItemSet i (IsSetAfterIn e i) (IsValue e i)) (Extends (start e) i) (λ q. Iterates q is) (λ ts s. item_set_holds i (IsSetAfterIn e i) (IsValue e i) ts (after_holds e i ts h k.0) (value_holds e i (Many ts) h k.0) s)
        (λ t r a b. extends_holds (start e) i t r (tt, h) a b) (λ q qs a b. iterated_hold q is qs a k.1 b) all f) left
    keys_hold e (filled i is p) ks h k (inr (l, a)) = listed_hold e (IsValue e i) (AreValues e is) h (λ u j. value_holds e i u h k.0 j) (λ us j. values_hold e is us h k.1 j) ks l

    iterated_hold : (k : Key) (l : Expressions) (ks : List Key) → KeyHolds P k → ExpressionsHold P l → Iterates k l ks → KeysHold P ks
    iterated_hold k no_more ks h j is = subst (KeysHold P) (sym is) (h, tt)
    iterated_hold k (more i is) ks h j f =
        item_holds (IsItemSet i (IsSetAfterIn k.env i) (IsValue k.env i)) (Extends k i) (λ q. Iterates q is) (λ ts s. item_set_holds i (IsSetAfterIn k.env i) (IsValue k.env i) ts (after_holds k.env i ts h.1 j.0) (value_holds k.env i (Many ts) h.1 j.0) s)
        (λ t r a b. extends_holds k i t r h a b) (λ q qs a b. iterated_hold q is qs a j.1 b) ks f

    after_holds : (e : Env) (i : Expression) (ts : List Tuple) → EnvHolds P e → ExpressionHolds P i → IsSetAfterIn e i ts → TuplesHold P ts
    after_holds e (chain x (apply o y none)) ts h k is = value_holds e y (Many ts) h k.1.0 is
    after_holds e _ ts h k is = absurd is
