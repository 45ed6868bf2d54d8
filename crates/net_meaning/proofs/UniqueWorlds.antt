-- Declarations with data statements have one world at most.
use Rattle.std.specs.Prelude.{◌≡◌, ◌≤◌, ◌||◌, ◌⊎◌, ℕ, zero, suc, Bool, true, false, List, [], ◌∷◌, ◌++◌, length, Option, None, Some, if◌then◌else◌, IsTrue, ℤ, pos}
use Rattle.std.specs.List.{AllByRecursion, AllZip, Contains, IsDistinct, flat_map}
use Rattle.std.specs.Option.{ForSome}
use Rattle.std.proofs.Common.{refl, ap, sym, ◌∙◌, subst, arith, inl, inr}
use Rattle.std.proofs.lemmas.Bool.{true≢false}
use Rattle.std.proofs.lemmas.List.Elements.{All-from_recursion, All-contains}
use Rattle.net_lex.specs.declared.token.Kind.{Kind}
use Rattle.net_lex.specs.declared.token.Kind.TheVariants.{Num, Dot}
use Rattle.net_lex.specs.declared.token.Token.{Token}
use Rattle.net_data.specs.declared.statement.Statement.{Statement}
use Rattle.net_data.specs.Rows.{DataRow}
use Rattle.net_sets.specs.declared.member.Member.{Member}
use Rattle.net_sets.specs.declared.member.Member.TheVariants as member
use Rattle.net_sets.specs.Operations.{is_within}
use Rattle.net_sets.specs.Sets.{Tuple, same_tuple, has}
use Rattle.net_sets.proofs.Sames.{tuple_decides}
use Rattle.net_tree.specs.declared.role.Begins.TheVariants as begins
use Rattle.net_tree.specs.declared.role.Relation.TheVariants as relations
use Rattle.net_tree.specs.declared.role.Role.{Role}
use Rattle.net_tree.specs.declared.role.Role.TheVariants as roles
use Rattle.net_tree.specs.Phrases.{is_becomes, is_default}
use Rattle.net_tree.specs.Syntax.{Expression, Braces, Body, plain, valued, priced, Phrase, Declaration, set, param, check, node, arc, objective}
use Rattle.net_tree.proofs.Numerals.{value_is}
use Rattle.net_expr.specs.Worlds.{Name}
use Rattle.net_meaning.specs.Laws.{IsSetPhrase, HasSetPhrases, WorldsAreUnique}
use Rattle.net_meaning.specs.Operators.{One, Many, number}
use Rattle.net_meaning.specs.Values.{World, SetOf, ParameterOf, Key, env_of, IsValue}
use Rattle.net_meaning.specs.World.{expression_of, phrase_value, AreIndexed, IsDataValueOf, IsDataValue, AreDataValues, set_rows_of, SatisfiesRole, Satisfies, AreGivenMembers, IsSet, data_rows, data_defaults, HasNoRow, IsParameterValue, row, assigned, data_default, default, nothing, keys_of, IsParameter, Binds, IsWorld}
use Rattle.net_meaning.proofs.TextWorlds.{becomes_members}
use Rattle.net_meaning.proofs.Unique.{Unique, some_is, many_same, number_same, one_same, zip_unique, values_are_unique, keys_are_unique}

pub indexed_unique : (w : World) (b : Option Braces) → Unique (AreIndexed w b)
indexed_unique w None ks js h j = h ∙ sym j
indexed_unique w (Some b) ks js h j = keys_are_unique (env_of w []) b ks js h j

-- ---- data

data_value_unique : (t : Token) → Unique (IsDataValue t)
data_value_unique t = by_kind t.kind
  where
    by_kind : (k : Kind) → Unique (IsDataValueOf k t.text)
    by_kind Dot m l h j = absurd h
    by_kind Num m l (n, h, e) (o, j, f) = e ∙ ap (λ z. member.Number z) (some_is n o (sym (value_is t.text n h) ∙ value_is t.text o j)) ∙ sym f
    by_kind _ m l h j = h ∙ sym j

data_values_unique : (ts : List Token) → Unique (AreDataValues ts)
data_values_unique ts = zip_unique IsDataValue data_value_unique ts

abbrev HasKey : DataRow → Tuple → Type 0
HasKey r key = AreDataValues r.keys key

-- if a key differs from those of the rows, no row has it
no_later : (rows : List DataRow) (keys : List Tuple) (key : Tuple) → AllZip HasKey rows keys → AllByRecursion (λ t. same_tuple key t ≡ false) keys → (r : DataRow) → Contains rows r → HasKey r key → ⊥
no_later [] keys key z d r (i, l, e) h = omega (arith, l)
no_later (x ∷ rows) [] key z d r at h = absurd z
no_later (x ∷ rows) (k ∷ keys) key z d r (zero, l, e) h =
    let same : key ≡ k = data_values_unique r.keys key k h (subst (λ q. HasKey q k) e z.0) in absurd (true≢false (sym ((tuple_decides key k).1 same) ∙ d.0))
no_later (x ∷ rows) (k ∷ keys) key z d r (suc i, l, e) h = no_later rows keys key z.1 d.1 r (i, omega (arith, l), e) h

-- if the rows have distinct keys, at most one has this key
rows_once : (key : Tuple) (rows : List DataRow) (keys : List Tuple) → AllZip HasKey rows keys → IsDistinct same_tuple keys → (r q : DataRow) → Contains rows r → Contains rows q → HasKey r key → HasKey q key → r ≡ q
unfolding IsDistinct
rows_once key [] keys z d r q (i, l, e) at h j = absurd (omega (arith, l))
rows_once key (x ∷ rows) [] z d r q at there h j = absurd z
rows_once key (x ∷ rows) (k ∷ keys) z d r q (zero, l, e) (zero, m, f) h j = sym e ∙ f
rows_once key (x ∷ rows) (k ∷ keys) z d r q (zero, l, e) (suc i, m, f) h j =
    let same : key ≡ k = data_values_unique r.keys key k h (subst (λ y. HasKey y k) e z.0) in absurd (no_later rows keys k z.1 d.0 q (i, omega (arith, m), f) (subst (HasKey q) same j))
rows_once key (x ∷ rows) (k ∷ keys) z d r q (suc i, l, e) (zero, m, f) h j =
    let same : key ≡ k = data_values_unique q.keys key k j (subst (λ y. HasKey y k) f z.0) in absurd (no_later rows keys k z.1 d.0 r (i, omega (arith, l), e) (subst (HasKey r) same h))
rows_once key (x ∷ rows) (k ∷ keys) z d r q (suc i, l, e) (suc o, m, f) h j = rows_once key rows keys z.1 d.1 r q (i, omega (arith, l), e) (o, omega (arith, m), f) h j

one_default : (ts : List Token) → length ts ≤ 1 → (t u : Token) → Contains ts t → Contains ts u → t ≡ u
one_default [] few t u (i, l, e) at = absurd (omega (arith, l))
one_default (x ∷ []) few t u (zero, l, e) (zero, m, f) = sym e ∙ f
one_default (x ∷ []) few t u (suc i, l, e) at = absurd (omega (arith, l))
one_default (x ∷ []) few t u at (suc i, l, e) = absurd (omega (arith, l))
one_default (x ∷ y ∷ ts) few t u at there = absurd (omega (arith, few))

contained : (ts : List Token) (t : Token) → ts ≡ [] → Contains ts t → ⊥
contained ts t e at = let (i, l, is) = subst (λ z. Contains z t) e at in omega (arith, l)

-- ---- sets

none_within : (ts : List Tuple) → IsTrue (is_within ts []) → ts ≡ []
none_within [] h = refl
none_within (t ∷ ts) h = cc

-- the dimensions are equal, or both sets are empty
abbrev Meet : ℕ → ℕ → List Tuple → List Tuple → Type 0
Meet d e ts us = (d ≡ e) ⊎ ((ts ≡ []) × (us ≡ []))

within_meet : (vs : List Tuple) (d e : ℕ) (ts us : List Tuple) → AllByRecursion (λ t. length t ≡ d) vs → AllByRecursion (λ t. length t ≡ e) vs → IsTrue (is_within ts vs) → IsTrue (is_within us vs) → Meet d e ts us
within_meet [] d e ts us h j k l = inr (none_within ts k, none_within us l)
within_meet (v ∷ vs) d e ts us h j k l = inl (sym h.0 ∙ j.0)

pos_same : (d e : ℕ) → pos d ≡ pos e → d ≡ e
pos_same d e h = cc

phrase_meets : (w : World) (d e : ℕ) (ts us : List Tuple) (r : Role) (b : Body) (more : Option Expression) → IsSetPhrase r b → (if is_becomes r then expression_of b else more) ≡ None
    → ForSome (expression_of b) (SatisfiesRole w d ts r) → ForSome (expression_of b) (SatisfiesRole w e us r) → Meet d e ts us
phrase_meets w d e ts us (roles.Phrase begins.Dimen) (valued x) more h none s z =
    inl (pos_same d e (number_same (pos d) (pos e) (values_are_unique (env_of w []) x (number (pos d)) (number (pos e)) (s x refl).0 (z x refl).0)))
phrase_meets w d e ts us (roles.Relation relations.Within) (valued x) more h none s z =
    let (vs, a, long, within) = s x refl in
    let (xs, b, size, inside) = z x refl in
    let same : xs ≡ vs = many_same xs vs (values_are_unique (env_of w []) x (Many xs) (Many vs) b a) in
    within_meet vs d e ts us long (subst (AllByRecursion (λ t. length t ≡ e)) same size) within (subst (λ l. IsTrue (is_within us l)) same inside)
phrase_meets w d e ts us roles.Becomes (valued x) more h none s z = absurd (let some = none in cc)
phrase_meets w d e ts us (roles.Phrase begins.Dimen) plain more h none s z = absurd h
phrase_meets w d e ts us (roles.Relation relations.Within) plain more h none s z = absurd h
phrase_meets w d e ts us roles.Becomes plain more h none s z = absurd h
phrase_meets w d e ts us (roles.Phrase begins.Dimen) (priced n x) more h none s z = absurd h
phrase_meets w d e ts us (roles.Relation relations.Within) (priced n x) more h none s z = absurd h
phrase_meets w d e ts us roles.Becomes (priced n x) more h none s z = absurd h
phrase_meets w d e ts us _ _ more h none s z = absurd h

sets_meet : (w : World) (ss : List Statement) (n : Name) (ps : List Phrase) (ts us : List Tuple) → AllByRecursion (λ (p : Phrase). IsSetPhrase p.word p.body) ps → phrase_value is_becomes ps ≡ None
    → (is : IsSet w ss n ps ts) (are : IsSet w ss n ps us) → Meet is.dimension are.dimension ts us
sets_meet w ss n [] ts us h none is are = inl (is.single refl ∙ sym (are.single refl))
sets_meet w ss n (p ∷ ps) ts us h none is are = phrase_meets w is.dimension are.dimension ts us p.word p.body (phrase_value is_becomes ps) h.0 none is.phrases.0 are.phrases.0

given_unique : (ss : List Statement) (n : Name) (d e : ℕ) (ts us : List Tuple) → Meet d e ts us → AreGivenMembers ss n d ts None → AreGivenMembers ss n e us None → ts ≡ us
given_unique ss n d e ts us (inr (h, j)) m k = h ∙ sym j
given_unique ss n d e ts us (inl same) m k = zip_unique AreDataValues data_values_unique (flat_map (set_rows_of d n) ss) ts us m.2 (subst (λ l. AllZip AreDataValues (flat_map (set_rows_of l n) ss) us) (sym same) k.2)

set_unique : (w : World) (ss : List Statement) (n : Name) (ps : List Phrase) → AllByRecursion (λ (p : Phrase). IsSetPhrase p.word p.body) ps → Unique (IsSet w ss n ps)
set_unique w ss n ps h ts us is are = go (phrase_value is_becomes ps) refl is.members are.members
  where
    go : (o : Option Expression) → phrase_value is_becomes ps ≡ o → AreGivenMembers ss n is.dimension ts o → AreGivenMembers ss n are.dimension us o → ts ≡ us
    go (Some x) e m k = many_same ts us (values_are_unique (env_of w []) x (Many ts) (Many us) (becomes_members w is.dimension ts ps is.phrases x e) (becomes_members w are.dimension us ps are.phrases x e))
    go None e m k = given_unique ss n is.dimension are.dimension ts us (sets_meet w ss n ps ts us h e is are) m k

-- ---- parameters

module _ (ss : List Statement) (n : Name) (ps : List Phrase) (size : ℕ) (k : Key)
    (once : (r q : DataRow) → Contains (data_rows size n ss) r → Contains (data_rows size n ss) q → HasKey r k.key → HasKey q k.key → r ≡ q) (few : length (data_defaults n ss) ≤ 1) where
  a_row : {A : Type 0} → HasNoRow size n ss k.key → (r : DataRow) → Contains (data_rows size n ss) r → HasKey r k.key → A
  a_row none r at h = absurd (All-contains (λ (q : DataRow). HasKey q k.key → ⊥) (data_rows size n ss) r (All-from_recursion (λ (q : DataRow). HasKey q k.key → ⊥) (data_rows size n ss) none) at h)

  said : {A : Type 0} (test : Role → Bool) (x : Expression) → phrase_value test ps ≡ Some x → phrase_value test ps ≡ None → A
  said test x e f = absurd (let both = sym e ∙ f in cc)

  one_value : (test : Role → Bool) (x y : Expression) (m l : Member) → phrase_value test ps ≡ Some x → phrase_value test ps ≡ Some y → IsValue k.env x (One m) → IsValue k.env y (One l) → Some m ≡ Some l
  one_value test x y m l e f h j = ap (λ z. Some z) (one_same m l (values_are_unique k.env x (One m) (One l) h (subst (λ z. IsValue k.env z (One l)) (some_is y x (sym f ∙ e)) j)))

  parameter_value_unique : Unique (IsParameterValue ss n ps size k)
  parameter_value_unique u v (row r m at h is) (row q l there j are) = ap (λ z. Some z) (data_value_unique r.value m l is (subst (λ (z : DataRow). IsDataValue z.value l) (sym (once r q at there h j)) are))
  parameter_value_unique u v (row r m at h is) (assigned x l none e j) = a_row none r at h
  parameter_value_unique u v (row r m at h is) (data_default t l none e there j) = a_row none r at h
  parameter_value_unique u v (row r m at h is) (default x l none e f g j) = a_row none r at h
  parameter_value_unique u v (row r m at h is) (nothing none e f g) = a_row none r at h
  parameter_value_unique u v (assigned x m none e h) (row q l there j are) = a_row none q there j
  parameter_value_unique u v (assigned x m none e h) (assigned y l free f j) = one_value is_becomes x y m l e f h j
  parameter_value_unique u v (assigned x m none e h) (data_default t l free f there j) = said is_becomes x e f
  parameter_value_unique u v (assigned x m none e h) (default y l free f d g j) = said is_becomes x e f
  parameter_value_unique u v (assigned x m none e h) (nothing free f d g) = said is_becomes x e f
  parameter_value_unique u v (data_default t m none e at h) (row q l there j are) = a_row none q there j
  parameter_value_unique u v (data_default t m none e at h) (assigned y l free f j) = said is_becomes y f e
  parameter_value_unique u v (data_default t m none e at h) (data_default a l free f there j) = ap (λ z. Some z) (data_value_unique t m l h (subst (λ z. IsDataValue z l) (sym (one_default (data_defaults n ss) few t a at there)) j))
  parameter_value_unique u v (data_default t m none e at h) (default y l free f d g j) = absurd (contained (data_defaults n ss) t d at)
  parameter_value_unique u v (data_default t m none e at h) (nothing free f d g) = absurd (contained (data_defaults n ss) t d at)
  parameter_value_unique u v (default x m none e c i h) (row q l there j are) = a_row none q there j
  parameter_value_unique u v (default x m none e c i h) (assigned y l free f j) = said is_becomes y f e
  parameter_value_unique u v (default x m none e c i h) (data_default a l free f there j) = absurd (contained (data_defaults n ss) a c there)
  parameter_value_unique u v (default x m none e c i h) (default y l free f d g j) = one_value is_default x y m l i g h j
  parameter_value_unique u v (default x m none e c i h) (nothing free f d g) = said is_default x i g
  parameter_value_unique u v (nothing none e c i) (row q l there j are) = a_row none q there j
  parameter_value_unique u v (nothing none e c i) (assigned y l free f j) = said is_becomes y f e
  parameter_value_unique u v (nothing none e c i) (data_default a l free f there j) = absurd (contained (data_defaults n ss) a c there)
  parameter_value_unique u v (nothing none e c i) (default y l free f d g j) = said is_default y g i
  parameter_value_unique u v (nothing none e c i) (nothing free f d g) = refl

module _ (ss : List Statement) (n : Name) (ps : List Phrase) (t : Tuple) where
  -- if the test fails, f has no value at t
  abbrev IsNone : Bool → (Tuple → Option Member) → Type 0
  IsNone b f = b ≡ false → f t ≡ None

  -- f has the values at these keys, which have this size; at t, if it is no key, it has none
  abbrev IsFunction : ℕ → List Key → (Tuple → Option Member) → Type 0
  IsFunction size ks f =
      AllByRecursion (λ (k : Key). length k.key ≡ size) ks × AllByRecursion (λ (k : Key). IsParameterValue ss n ps size k (f k.key)) ks × IsNone (has (keys_of ks) t) f

  functions_alike : (size other : ℕ) → ((key : Tuple) (r q : DataRow) → Contains (data_rows size n ss) r → Contains (data_rows size n ss) q → HasKey r key → HasKey q key → r ≡ q) → length (data_defaults n ss) ≤ 1
      → (f g : Tuple → Option Member) (ks : List Key) → IsFunction size ks f → IsFunction other ks g → f t ≡ g t
  functions_alike size other once few f g [] (l, v, none) (m, u, free) = none refl ∙ sym (free refl)
  functions_alike size other once few f g (k ∷ ks) (l, v, none) (m, u, free) =
      go (same_tuple t k.key) refl none free (λ h j. functions_alike size other once few f g ks (l.1, v.1, h) (m.1, u.1, j))
    where
      here : f k.key ≡ g k.key
      here = parameter_value_unique ss n ps size k (once k.key) few (f k.key) (g k.key) v.0 (subst (λ z. IsParameterValue ss n ps z k (g k.key)) (sym m.0 ∙ l.0) u.0)

      go : (b : Bool) → same_tuple t k.key ≡ b → IsNone (b || has (keys_of ks) t) f → IsNone (b || has (keys_of ks) t) g → (IsNone (has (keys_of ks) t) f → IsNone (has (keys_of ks) t) g → f t ≡ g t) → f t ≡ g t
      go true e h j more = subst (λ q. f q ≡ g q) (sym ((tuple_decides t k.key).0 e)) here
      go false e h j more = more h j

parameter_unique : (w : World) (ss : List Statement) (n : Name) (b : Option Braces) (ps : List Phrase) → Unique (IsParameter w ss n b ps)
parameter_unique w ss n b ps f g is are = λ i t. same t i
  where
    function : (t : Tuple) → IsFunction ss n ps t are.size is.keys g
    function t = subst (λ ks. IsFunction ss n ps t are.size ks g) (indexed_unique w b are.keys is.keys are.indexed is.indexed) (are.lengths, are.values, are.elsewhere t)

    same : (t : Tuple) → f t ≡ g t
    same t =
        functions_alike ss n ps t is.size are.size (λ key. rows_once key (data_rows is.size n ss) is.subscripts is.read is.once) is.defaults f g is.keys (is.lengths, is.values, is.elsewhere t) (function t)

-- ---- worlds

binds_unique : (ss : List Statement) (before : World) (ds : List Declaration) → AllByRecursion HasSetPhrases ds → Unique (Binds ss before ds)
binds_unique ss before [] h w u e f = e ∙ sym f
binds_unique ss before (set n ps ∷ ds) h w u (ts, is, more) (us, are, others) =
    let same = set_unique before ss n ps h.0 us ts are is in binds_unique ss (before ++ (n, SetOf ts) ∷ []) ds h.1 w u more (subst (λ z. Binds ss (before ++ (n, SetOf z) ∷ []) ds u) same others)
binds_unique ss before (param n b ps ∷ ds) h w u (f, is, more) (g, are, others) =
    let same = parameter_unique before ss n b ps g f are is in binds_unique ss (before ++ (n, ParameterOf f) ∷ []) ds h.1 w u more (subst (λ z. Binds ss (before ++ (n, ParameterOf z) ∷ []) ds u) same others)
binds_unique ss before (check b x ∷ ds) h w u (keys, is, all, more) (others, are, each, rest) = binds_unique ss before ds h.1 w u more rest
binds_unique ss before (node n b c ∷ ds) h w u more rest = binds_unique ss before ds h.1 w u more rest
binds_unique ss before (arc n b ps ∷ ds) h w u more rest = binds_unique ss before ds h.1 w u more rest
binds_unique ss before (objective minimizes n p ∷ ds) h w u more rest = binds_unique ss before ds h.1 w u more rest

pub worlds_are_unique : WorldsAreUnique
worlds_are_unique ds ss w u h is are = binds_unique ss [] ds h w u is.bound are.bound
