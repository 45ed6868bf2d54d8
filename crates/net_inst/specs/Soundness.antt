-- Laws that relate the network that the code computes to the meaning of the model.
use Rattle.std.specs.Prelude.{◌≡◌, ◌⊎◌, ◌↔◌, ℕ, List, [], ◌∷◌, map, slice_get, Option, Some, Ok, ⊤, ℤ}
use Rattle.std.specs.List.{AllByRecursion, AllZip, IsDistinct}
use Rattle.std.specs.Str.{bytes_eq}
use Rattle.net_tree.specs.Erasure.{condition}
use Rattle.net_tree.specs.Tree.{Body, plain, valued, priced, Phrase, Declaration, set, param, check, node, arc, objective}
use Rattle.net_tree.specs.Declarations.{AreDeclarations}
use Rattle.net_normal.specs.Assignments.{net_inflow, IsWithinBounds, IsInRange, IsFeasibleAssignment, value_of}
use Rattle.net_normal.specs.declared.instance.InstArc.{InstArc}
use Rattle.net_normal.specs.declared.instance.Instance.{Instance}
use Rattle.net_normal.specs.declared.instance.NodeRange.{NodeRange}
use Rattle.net_expr.specs.SetValues.{HasSets}
use Rattle.net_expr.specs.Worlds.{Name, World}
use Rattle.net_meaning.specs.OfTrees.{env_of, IsNetwork}
use Rattle.net_meaning.specs.Network as meaning
use Rattle.net_meaning.specs.Network.{flow_on, HasValue}
use Rattle.net_inst.specs.declared.network.Named.{Named}
use Rattle.net_inst.specs.AsWritten as written
use Rattle.net_inst.specs.Instances.{Network, network, seen_as}

-- the name is in the list
abbrev pub IsListed : List Name → Name → Type 0
IsListed [] n = ⊥
IsListed (m ∷ ms) n = (m ≡ n) ⊎ IsListed ms n

abbrev pub NamesObjective : List Name → Body → Type 0
NamesObjective before (priced n x) = IsListed before n.text
NamesObjective before plain = ⊤
NamesObjective before (valued x) = ⊤

-- each `obj` phrase names an objective that is declared before it; before are the objectives so far
abbrev pub NameObjectives : List Name → List Declaration → Type 0
NameObjectives before [] = ⊤
NameObjectives before (arc t n b ps e ∷ ds) = AllByRecursion (λ (p : Phrase). NamesObjective before p.body) ps × NameObjectives before ds
NameObjectives before (objective t n p e ∷ ds) = NameObjectives (n.text ∷ before) ds
NameObjectives before (set t n ps e ∷ ds) = NameObjectives before ds
NameObjectives before (param t n b ps e ∷ ds) = NameObjectives before ds
NameObjectives before (check t b m x e ∷ ds) = NameObjectives before ds
NameObjectives before (node t n b c e ∷ ds) = NameObjectives before ds

-- the declared names, in order; a `check` declares none
abbrev pub names_in : List Declaration → List Name
names_in [] = []
names_in (set t n ps e ∷ ds) = n.text ∷ names_in ds
names_in (param t n b ps e ∷ ds) = n.text ∷ names_in ds
names_in (check t b m x e ∷ ds) = names_in ds
names_in (node t n b c e ∷ ds) = n.text ∷ names_in ds
names_in (arc t n b ps e ∷ ds) = n.text ∷ names_in ds
names_in (objective t n p e ∷ ds) = n.text ∷ names_in ds

-- the rules of AMPL for names that give a network its meaning
pub record IsNamedOnce (ds : List Declaration) : Type 0 where
  -- no name is declared twice
  pub once : IsDistinct bytes_eq (names_in ds)
  -- each `obj` phrase names an objective that is declared before it
  pub priced : NameObjectives [] ds

-- a node as written and its meaning have the same label and, without punctuation, the same condition, in the same environment
pub record IsSameNode (v : written.WrittenNode) (a : meaning.Node) : Type 0 where
  pub name : a.label.name ≡ v.label.name
  pub indexed : a.label.indexed ≡ v.label.indexed
  pub key : a.label.key ≡ v.label.key
  pub condition : a.condition ≡ condition v.condition
  pub env : a.env ≡ env_of v.env v.scope

-- an arc as written and its meaning have the same label and the same ends
pub record IsSameArc (v : written.WrittenArc) (a : meaning.Arc) : Type 0 where
  pub name : a.label.name ≡ v.label.name
  pub indexed : a.label.indexed ≡ v.label.indexed
  pub key : a.label.key ≡ v.label.key
  pub from : a.from ≡ written.from_end v
  pub to : a.to ≡ written.to_end v

-- the network's arc has the bounds that are meant
pub record HasBounds (a : meaning.Arc) (x : InstArc) : Type 0 where
  pub lower : x.lower ≡ a.lower
  pub upper : x.upper ≡ a.upper

-- the network of the model, with its nodes and arcs in order of declaration and key; the network n that the code computes has the same labels,
-- ends, bounds and objective
pub record HasNetwork (requested : Option Name) (w : World) (ds : List Declaration) (n : Network) : Type 0 where
  pub network : meaning.Network
  pub is_network : IsNetwork requested w ds network
  pub same_name : network.objective.name ≡ n.names.objective
  pub same_sense : network.objective.sense ≡ n.sense
  pub same_nodes : AllZip IsSameNode (written.nodes w ds) network.nodes
  pub same_arcs : AllZip IsSameArc (written.arcs w ds) network.arcs
  pub bounds : AllZip HasBounds network.arcs n.arcs

-- the node with number i has a range; its condition is true of a net inflow if and only if this is in the range; and an assignment gives the node
-- the same net inflow by label as by number
abbrev pub IsRangeAt : Instance → List meaning.Arc → ℕ → meaning.Node → Type 0
IsRangeAt instance all i v = (r : NodeRange) × (slice_get instance.nodes.items i ≡ Some r)
    × ((y : ℤ) → meaning.IsSatisfied v.env v.condition y ↔ IsInRange r y)
    × ((x : meaning.Assignment) → meaning.net_inflow all x v.label ≡ net_inflow instance.arcs.items (map (flow_on x) all) i)

-- the network of the model, in which everything has a value; an assignment is within the bounds, satisfies a condition, or is feasible if and
-- only if its flows are within the bounds, in the range, or both in the network n, and it has exactly one value, which the constant and the
-- coefficients of n give
pub record HasAssignments (requested : Option Name) (w : World) (ds : List Declaration) (n : Named) : Type 0 where
  pub has : HasNetwork requested w ds (seen_as n)
  pub evaluated : meaning.IsEvaluated has.network
  pub bounds : (x : meaning.Assignment) → meaning.AreWithinBounds has.network.arcs x ↔ AllZip IsWithinBounds n.instance.arcs.items (map (flow_on x) has.network.arcs)
  pub ranges : (i : ℕ) (v : meaning.Node) → slice_get has.network.nodes i ≡ Some v → IsRangeAt n.instance has.network.arcs i v
  pub feasible : (x : meaning.Assignment) → meaning.IsFeasible has.network x ↔ IsFeasibleAssignment n.instance (map (flow_on x) has.network.arcs)
  pub value : (x : meaning.Assignment) (m : ℤ) → HasValue has.network x m ↔ (m ≡ value_of n.instance (map (flow_on x) has.network.arcs))

-- if the code computes a network, the model has this network; the declared sets of the world have to be sets
abbrev pub NetworksAreSound : Type 0
NetworksAreSound = (requested : Option Name) (w : World) (ds : List Declaration) (n : Network) → HasSets w → IsNamedOnce ds → network requested w ds ≡ Ok n → HasNetwork requested w ds n

-- if the declarations are also well-formed, the feasible assignments of the model and their values are those of the computed network
abbrev pub AssignmentsAreSound : Type 0
AssignmentsAreSound = (requested : Option Name) (w : World) (ds : List Declaration) (n : Named) → HasSets w → IsNamedOnce ds → AreDeclarations ds → network requested w ds ≡ Ok (seen_as n) → HasAssignments requested w ds n
