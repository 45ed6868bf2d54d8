-- Laws that relate the meaning of expressions to the evaluator, whose definition the code is proved to compute.
use Rattle.std.specs.Prelude.{◌≡◌, ℕ, Bool, true, List, map, None, Ok, Option, ⊤, ℤ, pos}
use Rattle.std.specs.List.{AllByRecursion}
use Rattle.net_data.specs.declared.statement.Statement.{Statement}
use Rattle.net_sets.specs.Sets.{Tuple}
use Rattle.net_tree.specs.declared.role.Begins.TheVariants as begins
use Rattle.net_tree.specs.declared.role.Relation.TheVariants as relations
use Rattle.net_tree.specs.declared.role.Role.{Role}
use Rattle.net_tree.specs.declared.role.Role.TheVariants as roles
use Rattle.net_tree.specs.Syntax as forms
use Rattle.net_tree.specs.Tree.{Tree, Links, Part, Braces, leaf, indexed, parens, tuple, negated, braced, signed, reduced, chain, choice, net, none, link, absent, part, empty, filled}
use Rattle.net_expr.specs.declared.row.Keys.{Keys}
use Rattle.net_expr.specs.declared.row.Row.{Row}
use Rattle.net_expr.specs.declared.value.Value.{Value as Found}
use Rattle.net_expr.specs.declared.value.Value.TheVariants as found
use Rattle.net_expr.specs.SetValues.{HasSets}
use Rattle.net_expr.specs.Values.{value, index}
use Rattle.net_expr.specs.Worlds as code
use Rattle.net_expr.specs.Worlds.{Name, Scope}
use Rattle.net_meaning.specs.Operators.{Value, One, Several, Many, Truth}
use Rattle.net_meaning.specs.Network.{Node, Arc, Network, IsNetwork}
use Rattle.net_meaning.specs.OfTrees.{env_of, env_with, IsValue, AreKeys}
use Rattle.net_meaning.specs.Texts.{ValueHolds, WorldHolds, EnvHolds, KeysHold, ExpressionHolds, BracesHold, DeclarationsHold, StatementsHold, nodes_in, arcs_in, LabelHolds}
use Rattle.net_meaning.specs.Values as values
use Rattle.net_meaning.specs.Values.{World, Env, Key}
use Rattle.net_meaning.specs.World.{IsWorld}

-- the value of the evaluator as a value of these definitions, in which a set is its list of tuples, without a dimension
abbrev pub meaning_of : Found → Value
meaning_of (found.One m) = One m
meaning_of (found.Several t) = Several t
meaning_of (found.Many d ts) = Many ts
meaning_of (found.Truth b) = Truth b

-- the expression names no arc, and it has no `net_in` or `net_out` unless the net inflow is 0
abbrev mutual
  pub IsArcFree : (Name → Option (Tuple → ℤ)) → ℤ → Tree → Type 0
  IsArcFree g y (leaf t) = g t.text ≡ None
  IsArcFree g y (indexed n o x l c) = (g n.text ≡ None) × IsArcFree g y x × AreArcFree g y l
  IsArcFree g y (parens o x c) = IsArcFree g y x
  IsArcFree g y (tuple o x l c) = IsArcFree g y x × AreArcFree g y l
  IsArcFree g y (negated n o x c) = IsArcFree g y x
  IsArcFree g y (braced b) = AreBracesArcFree g y b
  IsArcFree g y (signed t x) = IsArcFree g y x
  IsArcFree g y (reduced r b x) = AreBracesArcFree g y b × IsArcFree g y x
  IsArcFree g y (chain n x l) = IsArcFree g y x × AreArcFree g y l
  IsArcFree g y (choice i x t z p) = IsArcFree g y x × IsArcFree g y z × IsPartArcFree g y p
  IsArcFree g y (net s t) = y ≡ pos 0

  pub AreArcFree : (Name → Option (Tuple → ℤ)) → ℤ → Links → Type 0
  AreArcFree g y none = ⊤
  AreArcFree g y (link o x l) = IsArcFree g y x × AreArcFree g y l

  pub IsPartArcFree : (Name → Option (Tuple → ℤ)) → ℤ → Part → Type 0
  IsPartArcFree g y absent = ⊤
  IsPartArcFree g y (part m x) = IsArcFree g y x

  pub AreBracesArcFree : (Name → Option (Tuple → ℤ)) → ℤ → Braces → Type 0
  AreBracesArcFree g y (empty o p c) = IsPartArcFree g y p
  AreBracesArcFree g y (filled o i is p c) = IsArcFree g y i × AreArcFree g y is × IsPartArcFree g y p

-- the same in an environment with arcs and a net inflow, for an expression that names neither
abbrev pub EvaluationIsSoundWith : Type 0
EvaluationIsSoundWith = (arcs : Name → Option (Tuple → ℤ)) (y : ℤ) (w : code.World) (s : Scope) (t : Tree) (v : Found) → HasSets w → IsArcFree arcs y t → value w s t ≡ Ok v → IsValue (env_with arcs y w s) t (meaning_of v)

-- if the evaluator computes a value of an expression, the expression has this value; the declared sets of the world have to be sets
abbrev pub EvaluationIsSound : Type 0
EvaluationIsSound = (w : code.World) (s : Scope) (t : Tree) (v : Found) → HasSets w → value w s t ≡ Ok v → IsValue (env_of w s) t (meaning_of v)

-- if the evaluator computes the keys of an indexing expression, these are its keys
abbrev pub KeysAreSound : Type 0
KeysAreSound = (w : code.World) (s : Scope) (b : Braces) (k : Keys) → HasSets w → index w s b ≡ Ok k → AreKeys (env_of w s) b (map (λ (r : Row). record { key = r.key; env = env_of w r.scope }) k.rows)

-- an expression has at most one value
abbrev pub ValuesAreUnique : Type 0
ValuesAreUnique = (e : Env) (x : forms.Expression) (u v : Value) → values.IsValue e x u → values.IsValue e x v → u ≡ v

-- an indexing expression has at most one list of keys
abbrev pub KeysAreUnique : Type 0
KeysAreUnique = (e : Env) (b : forms.Braces) (ks js : List Key) → values.AreKeys e b ks → values.AreKeys e b js → ks ≡ js

-- a phrase of a set, as the grammar has it
abbrev pub IsSetPhrase : Role → forms.Body → Type 0
IsSetPhrase (roles.Phrase begins.Dimen) (forms.valued x) = ⊤
IsSetPhrase (roles.Relation relations.Within) (forms.valued x) = ⊤
IsSetPhrase roles.Becomes (forms.valued x) = ⊤
IsSetPhrase _ _ = ⊥

-- if the declaration declares a set, its phrases are those of a set
abbrev pub HasSetPhrases : forms.Declaration → Type 0
HasSetPhrases (forms.set n ps) = AllByRecursion (λ (p : forms.Phrase). IsSetPhrase p.word p.body) ps
HasSetPhrases _ = ⊤

-- declarations with data statements have at most one world
abbrev pub WorldsAreUnique : Type 0
WorldsAreUnique = (ds : List forms.Declaration) (ss : List Statement) (w u : World) → AllByRecursion HasSetPhrases ds → IsWorld ds ss w → IsWorld ds ss u → w ≡ u

-- the text passes the test
abbrev pub Passes : (List ℕ → Bool) → List ℕ → Type 0
Passes test text = test text ≡ true

-- if the texts of the environment and the names and strings of the expression pass a test, the texts of the value pass it
abbrev pub TextsOfValuesPass : Type 0
TextsOfValuesPass = (test : List ℕ → Bool) (e : Env) (x : forms.Expression) (v : Value) → EnvHolds (Passes test) e → ExpressionHolds (Passes test) x → values.IsValue e x v → ValueHolds (Passes test) v

-- the same for the keys of an indexing expression, and for the environment at each key
abbrev pub TextsOfKeysPass : Type 0
TextsOfKeysPass = (test : List ℕ → Bool) (e : Env) (b : forms.Braces) (ks : List Key) → EnvHolds (Passes test) e → BracesHold (Passes test) b → values.AreKeys e b ks → KeysHold (Passes test) ks

-- if the names and strings of the declarations and the data statements pass a test, the texts of their world pass it
abbrev pub TextsOfWorldsPass : Type 0
TextsOfWorldsPass = (test : List ℕ → Bool) (ds : List forms.Declaration) (ss : List Statement) (w : World) → DeclarationsHold (Passes test) ds → StatementsHold (Passes test) ss → IsWorld ds ss w → WorldHolds (Passes test) w

-- if the texts of the world and the names and strings of the declarations pass a test, the texts of the keys of nodes and arcs pass it; the name
-- of each node and each arc is the name of a declaration
abbrev pub TextsOfLabelsPass : Type 0
TextsOfLabelsPass = (test : List ℕ → Bool) (requested : Option Name) (w : World) (ds : List forms.Declaration) (network : Network) → WorldHolds (Passes test) w → DeclarationsHold (Passes test) ds
    → IsNetwork requested w ds network
    → AllByRecursion (λ (v : Node). LabelHolds (Passes test) (nodes_in ds) v.label) network.nodes × AllByRecursion (λ (a : Arc). LabelHolds (Passes test) (arcs_in ds) a.label) network.arcs
