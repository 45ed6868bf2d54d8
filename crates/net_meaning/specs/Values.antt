-- The value of an expression, and the keys of an indexing expression, as AMPL defines them (Fourer, Gay, Kernighan: AMPL, second edition,
-- chapters 5 to 8 and appendix A). The definitions are relations: an expression with an error of kind, of division or of a missing value has no
-- value, so no value is a default. Nor has an expression whose tuples have a wrong number of components. The dimension of an empty set, and
-- limits on sizes except that of numerals, are not part of the meaning.
-- Other files use `IsValue` and `AreKeys`, at the end; what precedes them are their parts. For example, {(i, 2) in L, j in B : j > i}, where L has
-- (1, 2) and (1, 3), and B has 1 and 5: with (1, 2) the first item extends the empty key to (1), where i is 1, and it passes over (1, 3) (`Extends`).
-- The second extends (1) to (1, 1) and (1, 5), where j is 1 and 5 (`Iterates`). The condition keeps (1, 5) (`Filters`).
use Rattle.std.specs.Prelude.{◌≡◌, ◌⊎◌, ◌+◌, ◌&&◌, ◌||◌, ℕ, Bool, true, false, not, List, [], ◌∷◌, ◌++◌, map, length, Option, None, Some, is_some, if◌then◌else◌, ⊤, ℤ, pos}
use Rattle.std.specs.List.{AllZip}
use Rattle.net_lex.specs.Limits.{limits}
use Rattle.net_lex.specs.Numerals.{IsValue as IsNumeral}
use Rattle.net_lex.specs.declared.token.Kind.{Kind}
use Rattle.net_lex.specs.declared.token.Kind.TheVariants as kinds
use Rattle.net_sets.specs.declared.member.Member.{Member}
use Rattle.net_sets.specs.declared.member.Member.TheVariants as member
use Rattle.net_sets.specs.Names.{named}
use Rattle.net_sets.specs.Operations.{union}
use Rattle.net_sets.specs.Sets.{Tuple, same_member, same_tuple}
use Rattle.net_sets.specs.Texts.{text_of}
use Rattle.net_tree.specs.Items.{is_in}
use Rattle.net_tree.specs.Operations.{is_range}
use Rattle.net_tree.specs.Syntax.{Expression, Expressions, Operands, Clause, Braces, leaf, indexed, parens, tuple, negated, braced, signed, reduced, chain, conditional, net, no_more, more, none, apply, absent, present, empty, filled}
use Rattle.net_expr.specs.Numbers.{turned}
use Rattle.net_expr.specs.Worlds.{Name, Scope, bound, with_dummy}
use Rattle.net_meaning.specs.Operators.{Value, One, Several, Many, Truth, number, IsTuple, HaveOneDimension, Reduces, IsRangeOf, Combines}

-- what a declared name denotes: a set, by its tuples, or a parameter, by its value at each key; at any other tuple a parameter has no value (None)
pub data Meaning : Type 0 where
  SetOf : List Tuple → Meaning
  ParameterOf : (Tuple → Option Member) → Meaning

-- the declared sets and parameters, in order
abbrev pub World : Type 0
World = List (Name × Meaning)

-- what names denote at a place: declared sets and parameters, dummy indices with their members, the flows of arcs in an objective, and the
-- net inflow in a node's condition
pub record Env : Type 0 where
  pub world : World
  pub dummies : Scope
  pub arcs : Name → Option (Tuple → ℤ)
  pub inflow : ℤ

-- an environment without arcs and net inflow, as in every declaration of sets and parameters
abbrev pub env_of : World → Scope → Env
env_of w s = record { world = w; dummies = s; arcs = λ n. None; inflow = pos 0 }

-- one key of an indexing expression, with the environment in which its dummy indices have their members
pub record Key : Type 0 where
  pub key : Tuple
  pub env : Env

-- P if the test is true, otherwise Q
abbrev pub Whether : Bool → Type 0 → Type 0 → Type 0
Whether true P Q = P
Whether false P Q = Q

-- `Denotes e n key v`: the name n with the subscripts key has the value v. No dummy index has the name of a visible set
-- or parameter (`new_dummy`).
pub data Denotes (e : Env) (n : Name) : Tuple → Value → Type 0 where
  dummy : (m : Member) → bound e.dummies n ≡ Some m → Denotes e n [] (One m)
  a_set : (ts : List Tuple) → bound e.dummies n ≡ None → named e.world n ≡ Some (SetOf ts) → Denotes e n [] (Many ts)
  parameter : (f : Tuple → Option Member) (key : Tuple) (m : Member) → bound e.dummies n ≡ None → named e.world n ≡ Some (ParameterOf f) → f key ≡ Some m → Denotes e n key (One m)

-- extends a key by a member, to which a new dummy index refers from there on
abbrev pub bind : Name → Member → Key → Key
bind n m k = record { key = k.key ++ m ∷ []; env = record k.env { dummies = with_dummy n m k.env.dummies } }

-- `Filters P ks left`: left are those of ks for which the condition P is true, in order
abbrev pub Filters : (Key → Bool → Type 0) → List Key → List Key → Type 0
Filters P [] left = left ≡ []
Filters P (k ∷ ks) left = (rest : List Key) × Filters P ks rest × ((P k true × (left ≡ k ∷ rest)) ⊎ (P k false × (left ≡ rest)))

-- the keys after the items to the right (Next) of a partial key; None, for a tuple that the item passes over, has none
abbrev pub Continues : (Key → List Key → Type 0) → Option Key → List Key → Type 0
Continues Next None keys = keys ≡ []
Continues Next (Some k) keys = Next k keys

-- the keys from each tuple of an item's set, in order. `Place t r`: t takes the partial key to r, or is passed over (None). `Next`: the items after it.
abbrev pub FromEach : (Tuple → Option Key → Type 0) → (Key → List Key → Type 0) → List Tuple → List Key → Type 0
FromEach Place Next [] keys = keys ≡ []
FromEach Place Next (t ∷ ts) keys =
    (r : Option Key) × (here : List Key) × (rest : List Key) × Place t r × Continues Next r here × FromEach Place Next ts rest × (keys ≡ here ++ rest)

-- the keys from an item of an indexing expression: those from each tuple of its set
abbrev pub FromItem : (List Tuple → Type 0) → (Tuple → Option Key → Type 0) → (Key → List Key → Type 0) → List Key → Type 0
FromItem IsItsSet Place Next keys = (ts : List Tuple) × IsItsSet ts × FromEach Place Next ts keys

-- the flow of an arc at a key if the name is an arc's; otherwise what Else says
abbrev pub IsArcOr : Option (Tuple → ℤ) → Tuple → Value → Type 0 → Type 0
IsArcOr None key v Else = Else
IsArcOr (Some x) key v Else = v ≡ number (x key)

-- the values of the operands are the components of the tuple: each is a number or a string
abbrev pub AreMembers : (Value → Type 0) → (List Value → Type 0) → Tuple → Type 0
AreMembers First More t = (u : Value) × (us : List Value) × First u × More us × (u ∷ us ≡ map (λ m. One m) t)

-- v is the set of the range from u, with the other bounds given by More
abbrev pub HasRange : (List Value → Type 0) → Value → Value → Type 0
HasRange More u v = (us : List Value) × (ts : List Tuple) × More us × IsRangeOf (u ∷ us) ts × (v ≡ Many ts)

-- the empty key, from which an indexing expression starts
abbrev pub start : Env → Key
start e = record { key = []; env = e }

-- extends a key by a tuple, without a dummy index
abbrev pub extended : Key → Tuple → Key
extended k t = record { key = k.key ++ t; env = k.env }

-- braces that list members, or tuples with the same number of components: each is a key once, at its first occurrence
abbrev pub AreListed : Env → (Value → Type 0) → (List Value → Type 0) → List Key → Type 0
AreListed e First More keys =
    (u : Value) × (us : List Value) × (ts : List Tuple) × First u × More us × AllZip IsTuple (u ∷ us) ts × HaveOneDimension ts × (keys ≡ map (λ t. record { key = t; env = e }) (union [] ts))

-- there is no condition
abbrev pub IsAbsent : Clause → Type 0
IsAbsent absent = ⊤
IsAbsent (present x) = ⊥

-- a chain is a range if its first operator is `..`
abbrev pub begins_range : Operands → Bool
begins_range none = false
begins_range (apply o x l) = is_range o

-- the only operator of the item is `in`
abbrev pub has_in : Expression → Bool
has_in (chain x (apply o y none)) = is_in o
has_in _ = false

-- a name
abbrev pub is_name : Kind → Bool
is_name kinds.Name = true
is_name _ = false

-- the name of a declared set or parameter, or of a dummy index
abbrev pub is_known : Env → Name → Bool
is_known e n = is_some (bound e.dummies n) || is_some (named e.world n)

-- the name of a new dummy index: a name alone that is neither declared nor a dummy index
abbrev pub new_dummy : Env → Expression → Option Name
new_dummy e (leaf t) = if is_name t.kind && not (is_known e t.text) then Some t.text else None
new_dummy e _ = None

-- the set of an item: the one after `in`, or the item itself (`Own v`: the item's expression has the value v)
abbrev pub IsItemSet : Expression → (List Tuple → Type 0) → (Value → Type 0) → List Tuple → Type 0
IsItemSet i After Own ts = Whether (has_in i) (After ts) (Own (Many ts))

-- the value of a token: a numeral, a quoted string, or a name
abbrev pub IsLeaf : Env → Kind → List ℕ → Value → Type 0
IsLeaf e kinds.Num text v = (n : ℤ) × IsNumeral limits.value text n × (v ≡ number n)
IsLeaf e kinds.Str text v = v ≡ One (member.Name (text_of text))
IsLeaf e kinds.Name text v = Denotes e text [] v
IsLeaf e _ text v = ⊥

-- one component of a tuple to the left of `in`: a new dummy index takes the member at its place; any other expression selects, since
-- its value (`Own`) has to equal the member. `Rest`: the other components.
abbrev pub Matches : Key → Option Name → (Value → Type 0) → Member → (Key → Option Key → Type 0) → Option Key → Type 0
Matches k (Some n) Own m Rest r = Rest (bind n m k) r
Matches k None Own m Rest r = (u : Member) × Own (One u) × Whether (same_member u m) (Rest k r) (r ≡ None)

-- a single expression to the left of `in`: a new dummy index takes the only component of the tuple; the value of any other expression selects,
-- and has as many components as the tuple
abbrev pub MatchesWhole : Key → Option Name → (Value → Type 0) → Tuple → Option Key → Type 0
MatchesWhole k (Some n) Own (m ∷ []) r = r ≡ Some (bind n m k)
MatchesWhole k (Some n) Own _ r = ⊥
MatchesWhole k None Own t r = (v : Value) × (u : Tuple) × Own v × IsTuple v u × (length u ≡ length t) × Whether (same_tuple u t) (r ≡ Some k) (r ≡ None)

-- the number of expressions
abbrev pub size : Expressions → ℕ
size no_more = 0
size (more x l) = 1 + size l

abbrev mutual
  -- `IsValue e x v`: in the environment e the expression x has the value v
  pub IsValue : Env → Expression → Value → Type 0
  IsValue e (leaf t) v = IsArcOr (e.arcs t.text) [] v (IsLeaf e t.kind t.text v)
  IsValue e (indexed n x l) v = (key : Tuple) × AreMembers (IsValue e x) (AreValues e l) key × IsArcOr (e.arcs n) key v (Denotes e n key v)
  IsValue e (parens x) v = IsValue e x v
  IsValue e (tuple x l) v = (t : Tuple) × AreMembers (IsValue e x) (AreValues e l) t × (v ≡ Several t)
  IsValue e (negated x) v = (b : Bool) × IsValue e x (Truth b) × (v ≡ Truth (not b))
  IsValue e (braced b) v = (keys : List Key) × AreKeys e b keys × (v ≡ Many (union [] (map (λ k. k.key) keys)))
  IsValue e (signed minus x) v = (n : ℤ) × IsValue e x (number n) × (v ≡ number (turned minus n))
  IsValue e (reduced r b x) v =
      (keys : List Key) × (ns : List ℤ) × (n : ℤ) × AreKeys e b keys × AllZip (λ k m. IsValue k.env x (number m)) keys ns × Reduces r ns n × (v ≡ number n)
  IsValue e (chain x l) v = (u : Value) × IsValue e x u × Whether (begins_range l) (HasRange (AreOperandValues e l) u v) (IsChain e u l v)
  IsValue e (conditional x y p) v = (b : Bool) × IsValue e x (Truth b) × Whether b (IsValue e y v) (IsElse e p v)
  IsValue e (net minus out) v = v ≡ number (turned minus (turned out e.inflow))

  -- a missing `else` is 0
  pub IsElse : Env → Clause → Value → Type 0
  IsElse e absent v = v ≡ number (pos 0)
  IsElse e (present x) v = IsValue e x v

  -- the values of expressions, in order
  pub AreValues : Env → Expressions → List Value → Type 0
  AreValues e no_more vs = vs ≡ []
  AreValues e (more x l) vs = (u : Value) × (us : List Value) × IsValue e x u × AreValues e l us × (vs ≡ u ∷ us)

  -- the values of operands, in order
  pub AreOperandValues : Env → Operands → List Value → Type 0
  AreOperandValues e none vs = vs ≡ []
  AreOperandValues e (apply o x l) vs = (u : Value) × (us : List Value) × IsValue e x u × AreOperandValues e l us × (vs ≡ u ∷ us)

  -- `IsChain e u l v`: the operators and operands l, applied to u from the left, give v
  pub IsChain : Env → Value → Operands → Value → Type 0
  IsChain e u none v = v ≡ u
  IsChain e u (apply o x l) v = (w : Value) × Combines o u (IsValue e x) w × IsChain e w l v

  -- the keys of an indexing expression: those of its items at which the condition is true, or its listed members and tuples. Only items that
  -- iterate can have a condition. All keys of the items have the same number of components, before the condition selects. No braces are both.
  pub AreKeys : Env → Braces → List Key → Type 0
  AreKeys e (empty p) keys = (keys ≡ []) × IsAbsent p
  AreKeys e (filled i is p) keys =
      ((all : List Key) × FromItem (IsItemSet i (IsSetAfterIn e i) (IsValue e i)) (Extends (start e) i) (λ k. Iterates k is) all × HaveOneDimension (map (λ k. k.key) all) × Filters (HasTruth p) all keys)
      ⊎ (AreListed e (IsValue e i) (AreValues e is) keys × IsAbsent p)

  -- the condition of an indexing expression is true or false at a key; an absent condition is true
  pub HasTruth : Clause → Key → Bool → Type 0
  HasTruth absent k b = b ≡ true
  HasTruth (present x) k b = IsValue k.env x (Truth b)

  -- the keys that extend a key by the items, from left to right
  pub Iterates : Key → Expressions → List Key → Type 0
  Iterates k no_more keys = keys ≡ k ∷ []
  Iterates k (more i is) keys = FromItem (IsItemSet i (IsSetAfterIn k.env i) (IsValue k.env i)) (Extends k i) (λ q. Iterates q is) keys

  -- the set after `in`
  pub IsSetAfterIn : Env → Expression → List Tuple → Type 0
  IsSetAfterIn e (chain x (apply o y none)) ts = IsValue e y (Many ts)
  IsSetAfterIn e _ ts = ⊥

  -- `Extends k i t r`: the tuple t of the set of item i extends the key k to r, or is passed over if r is None. To the left of `in` the tuple
  -- has to agree with what is written there; an item without `in` takes the whole tuple.
  pub Extends : Key → Expression → Tuple → Option Key → Type 0
  Extends k (chain x (apply o y none)) t r = Whether (is_in o) (Agrees k x (IsValue k.env x) t r) (r ≡ Some (extended k t))
  Extends k _ t r = r ≡ Some (extended k t)

  -- the tuple agrees with the expression to the left of `in`, component by component, and both have the same number of components (`Own v`: a
  -- single expression has the value v)
  pub Agrees : Key → Expression → (Value → Type 0) → Tuple → Option Key → Type 0
  Agrees k (tuple x l) Own [] r = ⊥
  Agrees k (tuple x l) Own (m ∷ ms) r = (length ms ≡ size l) × Matches k (new_dummy k.env x) (IsValue k.env x) m (λ q. AllAgree q l ms) r
  Agrees k x Own t r = MatchesWhole k (new_dummy k.env x) Own t r

  -- the other components agree
  pub AllAgree : Key → Expressions → Tuple → Option Key → Type 0
  AllAgree k no_more [] r = r ≡ Some k
  AllAgree k (more x l) (m ∷ ms) r = Matches k (new_dummy k.env x) (IsValue k.env x) m (λ q. AllAgree q l ms) r
  AllAgree k _ _ r = ⊥

-- an environment with these flows of arcs and this net inflow, for the laws about conditions and objectives
abbrev pub env_with : (Name → Option (Tuple → ℤ)) → ℤ → World → Scope → Env
env_with arcs y w s = record { world = w; dummies = s; arcs = arcs; inflow = y }
