-- For the proofs about the code, which works on syntax trees and on a world with tables: what Values, World and Network say of the abstract syntax
-- of a tree, in the world that is meant. An auditor need not read this file.
use Rattle.std.specs.Prelude.{◌≡◌, ℕ, Bool, List, [], ◌∷◌, map, Option, if◌then◌else◌, option_map, ℤ}
use Rattle.net_data.specs.declared.statement.Statement.{Statement}
use Rattle.net_sets.specs.declared.member.Member.{Member}
use Rattle.net_sets.specs.Sets.{Tuple, at_key}
use Rattle.net_tree.specs.declared.operator.OperatorWords.{OperatorWords as Operator}
use Rattle.net_tree.specs.declared.role.Role.{Role}
use Rattle.net_tree.specs.Erasure as erased
use Rattle.net_tree.specs.Erasure.{expression, expressions, operands, clause, braces, indexing, declaration, declarations}
use Rattle.net_tree.specs.Operations.{operation}
use Rattle.net_tree.specs.Tree.{Tree, Links, Part, Braces, Body, Phrase, Condition, Declaration}
use Rattle.net_lex.specs.declared.token.Token.{Token}
use Rattle.net_expr.specs.declared.world.Entry.{Entry}
use Rattle.net_expr.specs.declared.world.Entry.TheVariants.{Set, Parameter}
use Rattle.net_expr.specs.Worlds.{Name, World, Scope}
use Rattle.net_meaning.specs.Operators.{Value}
use Rattle.net_meaning.specs.Values as values
use Rattle.net_meaning.specs.Values.{Meaning, SetOf, ParameterOf, Env, Key}
use Rattle.net_meaning.specs.World as world
use Rattle.net_meaning.specs.Network as network
use Rattle.net_meaning.specs.Network.{Node, Arc, Objective, Network}

-- ---- the code's world

-- the meaning of an entry: not the dimension of a set, and of a parameter neither the number of its subscripts nor its keys, nor the order of its table
abbrev pub meant_entry : Entry → Meaning
meant_entry (Set d ts) = SetOf ts
meant_entry (Parameter count keys table) = ParameterOf (at_key table)

-- the world that is meant
abbrev pub meant_world : World → values.World
meant_world w = map (λ (x : Name × Entry). (x.0, meant_entry x.1)) w

abbrev pub env_of : World → Scope → Env
env_of w s = values.env_of (meant_world w) s

abbrev pub env_with : (Name → Option (Tuple → ℤ)) → ℤ → World → Scope → Env
env_with arcs y w s = values.env_with arcs y (meant_world w) s

-- ---- values

abbrev pub begins_range : Links → Bool
begins_range l = values.begins_range (operands l)

abbrev pub has_in : Tree → Bool
has_in i = values.has_in (expression i)

abbrev pub new_dummy : Env → Tree → Option Name
new_dummy e x = values.new_dummy e (expression x)

abbrev pub IsAbsent : Part → Type 0
IsAbsent p = values.IsAbsent (clause p)

abbrev pub IsItemSet : Tree → (List Tuple → Type 0) → (Value → Type 0) → List Tuple → Type 0
IsItemSet i = values.IsItemSet (expression i)

abbrev pub IsValue : Env → Tree → Value → Type 0
IsValue e t = values.IsValue e (expression t)

abbrev pub IsElse : Env → Part → Value → Type 0
IsElse e p = values.IsElse e (clause p)

abbrev pub AreValues : Env → Links → List Value → Type 0
AreValues e l = values.AreValues e (expressions l)

abbrev pub AreOperandValues : Env → Links → List Value → Type 0
AreOperandValues e l = values.AreOperandValues e (operands l)

abbrev pub IsChain : Env → Value → Links → Value → Type 0
IsChain e u l = values.IsChain e u (operands l)

abbrev pub AreKeys : Env → Braces → List Key → Type 0
AreKeys e b = values.AreKeys e (braces b)

abbrev pub HasTruth : Part → Key → Bool → Type 0
HasTruth p = values.HasTruth (clause p)

abbrev pub Iterates : Key → Links → List Key → Type 0
Iterates k l = values.Iterates k (expressions l)

abbrev pub IsSetAfterIn : Env → Tree → List Tuple → Type 0
IsSetAfterIn e i = values.IsSetAfterIn e (expression i)

abbrev pub Extends : Key → Tree → Tuple → Option Key → Type 0
Extends k i = values.Extends k (expression i)

abbrev pub Agrees : Key → Tree → (Value → Type 0) → Tuple → Option Key → Type 0
Agrees k x = values.Agrees k (expression x)

abbrev pub AllAgree : Key → Links → Tuple → Option Key → Type 0
AllAgree k l = values.AllAgree k (expressions l)

-- ---- worlds

abbrev pub AreIndexed : World → Option Braces → List Key → Type 0
AreIndexed w b = world.AreIndexed (meant_world w) (indexing b)

abbrev pub SatisfiesRole : World → ℕ → List Tuple → Role → Tree → Type 0
SatisfiesRole w d ts r x = world.SatisfiesRole (meant_world w) d ts r (expression x)

abbrev pub IsSet : World → List Statement → Name → List Phrase → List Tuple → Type 0
IsSet w ss n ps = world.IsSet (meant_world w) ss n (map erased.phrase ps)

abbrev pub IsParameterValue : List Statement → Name → List Phrase → ℕ → Key → Option Member → Type 0
IsParameterValue ss n ps = world.IsParameterValue ss n (map erased.phrase ps)

abbrev pub IsOfKind : List Phrase → Member → Type 0
IsOfKind ps = world.IsOfKind (map erased.phrase ps)

abbrev pub IsParameter : World → List Statement → Name → Option Braces → List Phrase → Entry → Type 0
IsParameter w ss n b ps x = (f : Tuple → Option Member) × (meant_entry x ≡ ParameterOf f) × world.IsParameter (meant_world w) ss n (indexing b) (map erased.phrase ps) f

abbrev pub Binds : List Statement → World → List Declaration → World → Type 0
Binds ss before ds w = world.Binds ss (meant_world before) (declarations ds) (meant_world w)

abbrev pub sets_in : List Declaration → List Name
sets_in ds = world.sets_in (declarations ds)

abbrev pub params_in : List Declaration → List Name
params_in ds = world.params_in (declarations ds)

abbrev pub AreDeclared : List Declaration → Statement → Type 0
AreDeclared ds = world.AreDeclared (declarations ds)

abbrev pub IsWorld : List Declaration → List Statement → World → Type 0
IsWorld ds ss w = world.IsWorld (declarations ds) ss (meant_world w)

-- ---- networks

abbrev pub IsEnd : Env → Option Tree → Option (Name × Tuple) → Type 0
IsEnd e x = network.IsEnd e (option_map expression x)

abbrev pub HasNumber : Env → Option Tree → ℤ → Type 0
HasNumber e x = network.HasNumber e (option_map expression x)

abbrev pub IsCoefficientFor : Env → Tree → ℤ → Bool → Type 0
IsCoefficientFor e x = network.IsCoefficientFor e (expression x)

abbrev pub IsCoefficientIn : Name → Env → Body → ℤ → Type 0
IsCoefficientIn n e b = network.IsCoefficientIn n e (erased.body b)

abbrev pub IsCoefficient : Name → Env → List Phrase → ℤ → Type 0
IsCoefficient n e ps = network.IsCoefficient n e (map erased.phrase ps)

abbrev pub IsArc : Name → Token → Option Braces → List Phrase → Key → Arc → Type 0
IsArc objective_name n b ps = network.IsArc objective_name n.text (indexing b) (map erased.phrase ps)

abbrev pub IsNode : Token → Option Braces → Condition → Key → Node → Type 0
IsNode n b c = network.IsNode n.text (indexing b) (erased.condition c)

abbrev pub AreNodesOf : World → Declaration → List Node → Type 0
AreNodesOf w d = network.AreNodesOf (meant_world w) (declaration d)

abbrev pub AreArcsOf : Name → World → Declaration → List Arc → Type 0
AreArcsOf n w d = network.AreArcsOf n (meant_world w) (declaration d)

abbrev pub entries_after : ℕ → Declaration → ℕ
entries_after k d = network.entries_after k (declaration d)

abbrev pub objectives : World → ℕ → List Name → List Declaration → List Objective
objectives w k before ds = network.objectives (meant_world w) k before (declarations ds)

abbrev pub IsObjective : Option Name → World → List Declaration → Objective → Type 0
IsObjective requested w ds = network.IsObjective requested (meant_world w) (declarations ds)

abbrev pub IsNetwork : Option Name → World → List Declaration → Network → Type 0
IsNetwork requested w ds = network.IsNetwork requested (meant_world w) (declarations ds)

abbrev pub Compares : Env → Tree → Operator → Tree → Type 0
Compares e x o z = network.Compares e (expression x) (operation o) (expression z)

abbrev pub IsSatisfied : Env → Condition → ℤ → Type 0
IsSatisfied e c = network.IsSatisfied e (erased.condition c)

abbrev pub IsExpressionValue : Env → Part → ℤ → Type 0
IsExpressionValue e p = network.IsExpressionValue e (clause p)
