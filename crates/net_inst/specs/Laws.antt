-- Theorems about networks: they correspond to the model as written.
use Rattle.std.specs.Prelude.{◌≡◌, ◌↔◌, ℕ, Bool, List, [], ◌∷◌, take, length, map, slice_get, Option, None, Some, Ok, ⊤, ℤ, ◌+ℤ◌, ◌≤ℤ◌}
use Rattle.std.specs.List.{AllZip, IsDistinct, flat_map}
use Rattle.std.specs.Option.{ForSome}
use Rattle.std.specs.Str.{bytes_eq}
use Rattle.net_sets.specs.declared.member.Member.TheVariants.{Number}
use Rattle.net_sets.specs.Sets.{Tuple, same_tuple}
use Rattle.net_tree.specs.Tree.{Declaration, node, arc}
use Rattle.net_normal.specs.Assignments.{IsFeasibleAssignment}
use Rattle.net_normal.specs.Sums.{price_of}
use Rattle.net_normal.specs.declared.instance.InstArc.{InstArc}
use Rattle.net_expr.specs.declared.value.Value.TheVariants.{One}
use Rattle.net_expr.specs.SetValues.{HasSets}
use Rattle.net_expr.specs.Values.{value}
use Rattle.net_expr.specs.Worlds.{Name, World}
use Rattle.net_linear.specs.declared.condition.Sides.{Sides}
use Rattle.net_linear.specs.Conditions.{Holds}
use Rattle.net_inst.specs.declared.arc.Built.{Built}
use Rattle.net_inst.specs.declared.network.Named.{Named as NamedOfCode}
use Rattle.net_inst.specs.declared.network_names.Declared.{Declared}
use Rattle.net_inst.specs.Lists.{Key, Listed, AreInOrder}
use Rattle.net_inst.specs.AsWritten.{WrittenLabel, WrittenNode, WrittenArc, rows_of, known_after, nodes, arcs, node_declared, arc_declared, same_label, Assignment, numbers_on, by_label, from_end, to_end, AreDistinct, IsFeasible}
use Rattle.net_expr.specs.Indexings.{indexing_in}
use Rattle.net_expr.specs.Rows.{keys_of}
use Rattle.net_inst.specs.Instances.{Network, network, seen_as}
use Rattle.net_inst.specs.Readings.{Objective, objectives, chosen, value_of}

-- an arc without its coefficient
abbrev pub shape_of : InstArc → Built
shape_of a = record { lower = a.lower; upper = a.upper; tail = a.tail; head = a.head }

-- two networks have the same nodes, ranges, arcs, bounds, ends and names of nodes and arcs
pub record HaveOneShape (m n : Network) : Type 0 where
  pub nodes : m.nodes ≡ n.nodes
  pub arcs : map shape_of m.arcs ≡ map shape_of n.arcs
  pub node_names : m.names.nodes ≡ n.names.nodes
  pub arc_names : m.names.arcs ≡ n.names.arcs

-- the choice of the objective does not change the rest of the network
abbrev pub AreOneNetwork : Type 0
AreOneNetwork = (name other : Option Name) (w : World) (ds : List Declaration) (m n : Network) → network name w ds ≡ Ok m → network other w ds ≡ Ok n → HaveOneShape m n

pub record IsInSides (r : Sides) (inflow : ℤ) : Type 0 where
  pub low : ForSome r.low (λ low. low ≤ℤ inflow)
  pub high : ForSome r.high (λ high. inflow ≤ℤ high)

-- a node's range contains a number if and only if the condition as written is true for it as the
-- net inflow
abbrev pub IsRangeOf : WrittenNode → Sides → Type 0
IsRangeOf n r = (y : ℤ) → IsInSides r y ↔ Holds n.env n.scope n.condition y

abbrev pub HaveExactRanges : Type 0
HaveExactRanges = (wanted : Option Name) (w : World) (ds : List Declaration) (n : Network) → network wanted w ds ≡ Ok n → AllZip IsRangeOf (nodes w ds) n.nodes

-- a listed key is that of the label, and its declaration is that of the label
pub record IsKeyOf (declared : List Declared) (l : WrittenLabel) (k : Key) : Type 0 where
  pub declaration : slice_get declared k.declaration ≡ Some (record { name = l.name; indexed = l.indexed })
  pub key : k.tuple ≡ l.key

-- the declared names in order, and the keys of the nodes or arcs in order, grouped by declaration
pub record AreNames (declared : List Declared) (labels : List WrittenLabel) (listed : Listed) : Type 0 where
  pub declarations : listed.declarations ≡ declared
  pub keys : AllZip (IsKeyOf declared) labels listed.keys
  pub ordered : AreInOrder 0 listed.keys

pub record AreNamesOf (w : World) (ds : List Declaration) (n : Network) : Type 0 where
  pub nodes : AreNames (flat_map node_declared ds) (map (λ v. v.label) (nodes w ds)) n.names.nodes
  pub arcs : AreNames (flat_map arc_declared ds) (map (λ a. a.label) (arcs w ds)) n.names.arcs

abbrev pub HaveNames : Type 0
HaveNames = (wanted : Option Name) (w : World) (ds : List Declaration) (n : Network) → network wanted w ds ≡ Ok n → AreNamesOf w ds n

-- the number of a node is the index of the node that the end names
abbrev pub IsPlaceOf : List WrittenLabel → Option (Name × Tuple) → Option ℕ → Type 0
IsPlaceOf labels None None = ⊤
IsPlaceOf labels None (Some v) = ⊥
IsPlaceOf labels (Some r) None = ⊥
IsPlaceOf labels (Some r) (Some v) = (l : WrittenLabel) × (slice_get labels v ≡ Some l) × (l.name ≡ r.0) × (l.key ≡ r.1)

-- the bounds are the values of the bounds as written
pub record IsBoundedAs (a : WrittenArc) (x : InstArc) : Type 0 where
  pub lower : value a.env a.scope a.parts.lower ≡ Ok (One (Number x.lower))
  pub upper : value a.env a.scope a.parts.upper ≡ Ok (One (Number x.upper))

abbrev pub HaveBounds : Type 0
HaveBounds = (wanted : Option Name) (w : World) (ds : List Declaration) (n : Network) → network wanted w ds ≡ Ok n → AllZip IsBoundedAs (arcs w ds) n.arcs

-- the ends are the nodes that are named
pub record HasEndsOf (labels : List WrittenLabel) (a : WrittenArc) (x : InstArc) : Type 0 where
  pub from : IsPlaceOf labels (from_end a) x.tail
  pub to : IsPlaceOf labels (to_end a) x.head

abbrev pub HaveEnds : Type 0
HaveEnds = (wanted : Option Name) (w : World) (ds : List Declaration) (n : Network) → network wanted w ds ≡ Ok n → AreDistinct (nodes w ds) (arcs w ds)
    → AllZip (HasEndsOf (map (λ v. v.label) (nodes w ds))) (arcs w ds) n.arcs

-- the constant plus the sum of coefficient times value over all arcs
abbrev pub total_of : Network → List ℤ → ℤ
total_of n numbers = n.constant +ℤ price_of (λ a. a.coefficient) n.arcs numbers

-- the objective is the chosen one, and the network's objective has its value at every assignment
pub record IsObjectiveOf (o : Objective) (n : Network) (all : List WrittenArc) : Type 0 where
  pub name : n.names.objective ≡ o.name
  pub sense : n.sense ≡ o.sense
  pub value : IsDistinct same_label (map (λ a. a.label) all) → (x : Assignment) → total_of n (numbers_on x all) ≡ value_of o x

abbrev pub HaveObjective : Type 0
HaveObjective = (wanted : Option Name) (w : World) (ds : List Declaration) (n : Network) → network wanted w ds ≡ Ok n
    → (o : Objective) × (chosen wanted (objectives w ds) ≡ Some o) × IsObjectiveOf o n (arcs w ds)

-- an assignment of names and keys is feasible if and only if its values in arc order are feasible
abbrev pub IsFeasibleAlike : World → List Declaration → NamedOfCode → Type 0
IsFeasibleAlike w ds n = (x : Assignment) → IsFeasible (nodes w ds) (arcs w ds) x ↔ IsFeasibleAssignment n.instance (numbers_on x (arcs w ds))

abbrev pub HaveFeasible : Type 0
HaveFeasible = (wanted : Option Name) (w : World) (ds : List Declaration) (n : NamedOfCode) → network wanted w ds ≡ Ok (seen_as n) → AreDistinct (nodes w ds) (arcs w ds) → IsFeasibleAlike w ds n

-- each list with one number for each arc comes from an assignment
abbrev pub HaveAssignments : Type 0
HaveAssignments = (all : List WrittenArc) (numbers : List ℤ) → IsDistinct same_label (map (λ a. a.label) all) → length numbers ≡ length all → numbers_on (by_label (map (λ a. a.label) all) numbers) all ≡ numbers

-- the keys of a declaration of nodes or arcs
abbrev pub keys_by : World → Declaration → List Tuple
keys_by w (node t n b c e) = keys_of (rows_of (indexing_in w b))
keys_by w (arc t n b ps e) = keys_of (rows_of (indexing_in w b))
keys_by w _ = []

-- no declaration has a key twice
abbrev pub HaveKeysOnce : World → ℕ → List Declaration → Type 0
HaveKeysOnce w k [] = ⊤
HaveKeysOnce w k (d ∷ ds) = IsDistinct same_tuple (keys_by (take k w) d) × HaveKeysOnce w (known_after k d) ds

abbrev pub same_name : Declared → Declared → Bool
same_name d e = bytes_eq d.name e.name

-- no name is declared twice, and no declaration has a key twice
pub record AreDeclaredOnce (w : World) (ds : List Declaration) : Type 0 where
  pub nodes : IsDistinct same_name (flat_map node_declared ds)
  pub arcs : IsDistinct same_name (flat_map arc_declared ds)
  pub keys : HaveKeysOnce w 0 ds

abbrev pub AreDistinctAsDeclared : Type 0
AreDistinctAsDeclared = (w : World) (ds : List Declaration) → AreDeclaredOnce w ds → AreDistinct (nodes w ds) (arcs w ds)

-- the same, if names are declared once, in a world whose declared sets are sets
abbrev pub AreDistinctInSets : Type 0
AreDistinctInSets = (w : World) (ds : List Declaration) → HasSets w → IsDistinct same_name (flat_map node_declared ds) → IsDistinct same_name (flat_map arc_declared ds) → AreDistinct (nodes w ds) (arcs w ds)
