-- The texts of a world come from the names and strings of the declarations and the data statements.
use Rattle.std.specs.Prelude.{◌≡◌, ℕ, Bool, true, false, ◌||◌, List, [], ◌∷◌, ◌++◌, Option, None, Some, if◌then◌else◌}
use Rattle.std.specs.List.{AllByRecursion}
use Rattle.std.specs.Option.{ForSome}
use Rattle.std.proofs.Common.{refl, sym, subst}
use Rattle.std.proofs.lemmas.List.Elements.{All-from_recursion, All-contains}
use Rattle.net_base.proofs.Elements.{OfSome, all_append}
use Rattle.net_data.specs.declared.statement.Statement.{Statement}
use Rattle.net_sets.specs.declared.member.Member.{Member}
use Rattle.net_sets.specs.Sets.{Tuple, same_tuple, has}
use Rattle.net_sets.proofs.Sames.{tuple_decides}
use Rattle.net_tree.specs.declared.role.Role.{Role}
use Rattle.net_tree.specs.declared.role.Role.TheVariants as roles
use Rattle.net_tree.specs.Phrases.{is_becomes, is_default}
use Rattle.net_tree.specs.Syntax.{Expression, Braces, Body, plain, valued, priced, Phrase, Declaration, set, param, check, node, arc, objective}
use Rattle.net_expr.specs.Worlds.{Name}
use Rattle.net_meaning.specs.Operators.{One, Many}
use Rattle.net_meaning.specs.Texts.{MemberHolds, TupleHolds, TuplesHold, MeaningHolds, WorldHolds, EnvHolds, KeyHolds, KeysHold, TokenHolds, ExpressionHolds, BracesHold, BodyHolds, PhrasesHold, DeclarationsHold, StatementsHold}
use Rattle.net_meaning.specs.Values.{Meaning, SetOf, ParameterOf, World, IsValue, Key, env_of}
use Rattle.net_meaning.specs.World.{expression_of, phrase_value, AreIndexed, SatisfiesRole, Satisfies, IsSet, IsParameterValue, IsParameter, Binds, IsWorld, AreGivenMembers, data_rows, data_defaults, row, assigned, data_default, default, nothing, keys_of}
use Rattle.net_meaning.proofs.TextRows.{data_value_holds, RowHolds, lines_hold, data_rows_hold, all_set_rows_hold, data_defaults_hold}
use Rattle.net_meaning.proofs.TextValues.{none_is, some_is, value_holds, keys_hold}

-- the value of the expression is the set with these members
abbrev pub AreMembersOf : World → List Tuple → Option Expression → Type 0
AreMembersOf w ts o = ForSome o (λ x. IsValue (env_of w []) x (Many ts))

-- the members of a set are the value of the expression after `:=`
pub becomes_members : (w : World) (d : ℕ) (ts : List Tuple) (ps : List Phrase) → AllByRecursion (Satisfies w d ts) ps → AreMembersOf w ts (phrase_value is_becomes ps)
becomes_members w d ts [] h x e = absurd (none_is x e)
becomes_members w d ts (p ∷ ps) h x e = go p.word h.0 (becomes_members w d ts ps h.1) x e
  where
    go : (r : Role) → ForSome (expression_of p.body) (SatisfiesRole w d ts r) → AreMembersOf w ts (phrase_value is_becomes ps) → AreMembersOf w ts (if is_becomes r then expression_of p.body else phrase_value is_becomes ps)
    go roles.Becomes s more = s
    go _ s more = more

module _ (P : List ℕ → Type 0) where
  pub env_holds : (w : World) → WorldHolds P w → EnvHolds P (env_of w [])
  env_holds w h = (h, tt)

  pub indexed_hold : (w : World) (b : Option Braces) (ks : List Key) → WorldHolds P w → ForSome b (BracesHold P) → AreIndexed w b ks → KeysHold P ks
  indexed_hold w None ks h i e = subst (KeysHold P) (sym e) ((tt, env_holds w h), tt)
  indexed_hold w (Some b) ks h i is = keys_hold P (env_of w []) b ks (env_holds w h) (i b refl) is

  -- ---- phrases

  expression_holds : (b : Body) → BodyHolds P b → ForSome (expression_of b) (ExpressionHolds P)
  expression_holds (valued y) h x e = subst (ExpressionHolds P) (some_is y x e) h
  expression_holds plain h x e = absurd (none_is x e)
  expression_holds (priced n y) h x e = absurd (none_is x e)

  pub phrase_holds : (test : Role → Bool) (ps : List Phrase) → PhrasesHold P ps → ForSome (phrase_value test ps) (ExpressionHolds P)
  phrase_holds test [] h x e = absurd (none_is x e)
  phrase_holds test (p ∷ ps) h x e = go (test p.word) (phrase_holds test ps h.1) x e
    where
      go : (b : Bool) → ForSome (phrase_value test ps) (ExpressionHolds P) → ForSome (if b then expression_of p.body else phrase_value test ps) (ExpressionHolds P)
      go true more = expression_holds p.body h.0
      go false more = more

  -- ---- sets

  given_members_hold : (w : World) (ss : List Statement) (n : Name) (d : ℕ) (ts : List Tuple) (o : Option Expression) → WorldHolds P w → StatementsHold P ss → ForSome o (ExpressionHolds P)
      → AreMembersOf w ts o → AreGivenMembers ss n d ts o → TuplesHold P ts
  given_members_hold w ss n d ts (Some x) h k t is m = value_holds P (env_of w []) x (Many ts) (env_holds w h) (t x refl) (is x refl)
  given_members_hold w ss n d ts None h k t is (once, whole, z) = lines_hold P _ ts (all_set_rows_hold P d n ss k) z

  set_holds : (w : World) (ss : List Statement) (n : Name) (ps : List Phrase) (ts : List Tuple) → WorldHolds P w → StatementsHold P ss → PhrasesHold P ps → IsSet w ss n ps ts → TuplesHold P ts
  set_holds w ss n ps ts h k p is =
      given_members_hold w ss n is.dimension ts (phrase_value is_becomes ps) h k (phrase_holds is_becomes ps p) (becomes_members w is.dimension ts ps is.phrases) is.members

  -- ---- parameters

  parameter_value_holds : (ss : List Statement) (n : Name) (ps : List Phrase) (size : ℕ) (k : Key) (o : Option Member) → StatementsHold P ss → PhrasesHold P ps → KeyHolds P k
      → IsParameterValue ss n ps size k o → OfSome (MemberHolds P) o
  parameter_value_holds ss n ps size k o h p i (row r m at keys is) =
      data_value_holds P r.value m (All-contains (RowHolds P) (data_rows size n ss) r (All-from_recursion (RowHolds P) (data_rows size n ss) (data_rows_hold P size n ss h)) at).1 is
  parameter_value_holds ss n ps size k o h p i (assigned x m free e is) = value_holds P k.env x (One m) i.1 (phrase_holds is_becomes ps p x e) is
  parameter_value_holds ss n ps size k o h p i (data_default t m free e at is) =
      data_value_holds P t m (All-contains (TokenHolds P) (data_defaults n ss) t (All-from_recursion (TokenHolds P) (data_defaults n ss) (data_defaults_hold P n ss h)) at) is
  parameter_value_holds ss n ps size k o h p i (default x m free e f g is) = value_holds P k.env x (One m) i.1 (phrase_holds is_default ps p x g) is
  parameter_value_holds ss n ps size k o h p i (nothing free e f g) = tt

  -- the texts of a key and of the value there have the property, if there is a value
  abbrev HoldsAt : Tuple → Option Member → Type 0
  HoldsAt key o = OfSome (λ m. TupleHolds P key × MemberHolds P m) o

  with_key : (key : Tuple) (o : Option Member) → TupleHolds P key → OfSome (MemberHolds P) o → HoldsAt key o
  with_key key None h k = tt
  with_key key (Some m) h k = (h, k)

  -- at a tuple, whether it is one of the keys or not
  value_at_holds : (ss : List Statement) (n : Name) (ps : List Phrase) (size : ℕ) (f : Tuple → Option Member) (key : Tuple) (ks : List Key) → StatementsHold P ss → PhrasesHold P ps → KeysHold P ks
      → AllByRecursion (λ (k : Key). IsParameterValue ss n ps size k (f k.key)) ks → (has (keys_of ks) key ≡ false → f key ≡ None) → HoldsAt key (f key)
  value_at_holds ss n ps size f key [] h p i v none = subst (HoldsAt key) (sym (none refl)) tt
  value_at_holds ss n ps size f key (k ∷ ks) h p i v none = go (same_tuple key k.key) refl none (value_at_holds ss n ps size f key ks h p i.1 v.1)
    where
      go : (b : Bool) → same_tuple key k.key ≡ b → ((b || has (keys_of ks) key) ≡ false → f key ≡ None) → ((has (keys_of ks) key ≡ false → f key ≡ None) → HoldsAt key (f key)) → HoldsAt key (f key)
      go true e g more = subst (λ q. HoldsAt q (f q)) (sym ((tuple_decides key k.key).0 e)) (with_key k.key (f k.key) i.0.0 (parameter_value_holds ss n ps size k (f k.key) h p i.0 v.0))
      go false e g more = more g

  of_some : (key : Tuple) (o : Option Member) → HoldsAt key o → ForSome o (λ m. TupleHolds P key × MemberHolds P m)
  of_some key None h m e = absurd (none_is m e)
  of_some key (Some k) h m e = subst (λ l. TupleHolds P key × MemberHolds P l) (some_is k m e) h

  parameter_holds : (w : World) (ss : List Statement) (n : Name) (b : Option Braces) (ps : List Phrase) (f : Tuple → Option Member) → WorldHolds P w → StatementsHold P ss → ForSome b (BracesHold P) → PhrasesHold P ps
      → IsParameter w ss n b ps f → MeaningHolds P (ParameterOf f)
  parameter_holds w ss n b ps f h k i p is key =
      of_some key (f key) (value_at_holds ss n ps is.size f key is.keys k p (indexed_hold w b is.keys h i is.indexed) is.values (is.elsewhere key))

  -- ---- worlds

  with_meaning : (w : World) (n : Name) (x : Meaning) → WorldHolds P w → MeaningHolds P x → WorldHolds P (w ++ (n, x) ∷ [])
  with_meaning w n x h k = all_append (λ (y : Name × Meaning). MeaningHolds P y.1) w ((n, x) ∷ []) h (k, tt)

  bound_holds : (ss : List Statement) (before : World) (ds : List Declaration) (w : World) → StatementsHold P ss → WorldHolds P before → DeclarationsHold P ds → Binds ss before ds w → WorldHolds P w
  bound_holds ss before [] w h k i e = subst (WorldHolds P) (sym e) k
  bound_holds ss before (set n ps ∷ ds) w h k i (ts, is, more) =
      bound_holds ss (before ++ (n, SetOf ts) ∷ []) ds w h (with_meaning before n (SetOf ts) k (set_holds before ss n ps ts k h i.0 is)) i.1 more
  bound_holds ss before (param n b ps ∷ ds) w h k i (f, is, more) =
      bound_holds ss (before ++ (n, ParameterOf f) ∷ []) ds w h (with_meaning before n (ParameterOf f) k (parameter_holds before ss n b ps f k h i.0.0 i.0.1 is)) i.1 more
  bound_holds ss before (check b x ∷ ds) w h k i (keys, is, all, more) = bound_holds ss before ds w h k i.1 more
  bound_holds ss before (node n b c ∷ ds) w h k i more = bound_holds ss before ds w h k i.1 more
  bound_holds ss before (arc n b ps ∷ ds) w h k i more = bound_holds ss before ds w h k i.1 more
  bound_holds ss before (objective minimizes n p ∷ ds) w h k i more = bound_holds ss before ds w h k i.1 more

  pub world_holds : (ds : List Declaration) (ss : List Statement) (w : World) → DeclarationsHold P ds → StatementsHold P ss → IsWorld ds ss w → WorldHolds P w
  world_holds ds ss w h k is = bound_holds ss [] ds w k tt h is.bound
