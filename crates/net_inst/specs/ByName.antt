-- What the normal form guarantees, in the names of the model: the feasible flows of the problem
-- correspond one to one to the feasible assignments of names and keys, and costs correspond to
-- objective values.
use Rattle.std.specs.Prelude.{◌≡◌, List, map, Option, Some, Ok, ℤ}
use Rattle.net_tree.specs.Tree.{Declaration}
use Rattle.net_normal.specs.Correspondence.{CorrespondsOneToOne}
use Rattle.net_normal.specs.Flows.{IsFeasibleFlow, cost_of}
use Rattle.net_normal.specs.Links.{mapped_back, value_at}
use Rattle.net_normal.specs.declared.problem.Link.{Link}
use Rattle.net_normal.specs.declared.problem.Problem.{Problem}
use Rattle.net_expr.specs.Worlds.{Name, World}
use Rattle.net_inst.specs.declared.network.Named.{Named as NamedOfCode}
use Rattle.net_inst.specs.AsWritten.{WrittenNode, WrittenArc, nodes, arcs, AreDistinct, Assignment, numbers_on, by_label, IsFeasible}
use Rattle.net_inst.specs.Instances.{network, seen_as}
use Rattle.net_inst.specs.Readings.{Objective, objectives, chosen, value_of}

-- the assignment that corresponds to a flow
abbrev pub up : List WrittenArc → Link → List ℤ → Assignment
up all link flows = by_label (map (λ a. a.label) all) (mapped_back link flows)

-- both give each arc the same value
abbrev pub Agree : List WrittenArc → Assignment → Assignment → Type 0
Agree all x y = numbers_on x all ≡ numbers_on y all

pub record CorrespondsByName (ns : List WrittenNode) (all : List WrittenArc) (o : Objective) (problem : Problem) (link : Link) : Type 0 where
  -- each feasible flow maps to a feasible assignment
  pub forward : (flows : List ℤ) → IsFeasibleFlow problem flows → IsFeasible ns all (up all link flows)
  -- surjective: every feasible assignment comes from a feasible flow
  pub onto : (x : Assignment) → IsFeasible ns all x → (flows : List ℤ) × IsFeasibleFlow problem flows × Agree all (up all link flows) x
  -- injective: different flows map to different assignments
  pub injective : (flows others : List ℤ) → IsFeasibleFlow problem flows → IsFeasibleFlow problem others → Agree all (up all link flows) (up all link others) → flows ≡ others
  -- the cost of a flow determines the objective value of its assignment
  pub value : (flows : List ℤ) → IsFeasibleFlow problem flows → value_of o (up all link flows) ≡ value_at link (cost_of problem flows)

-- a problem that corresponds to the network also corresponds to the model as written, with the
-- chosen objective
abbrev pub CorrespondAsWritten : Type 0
CorrespondAsWritten = (wanted : Option Name) (w : World) (ds : List Declaration) (n : NamedOfCode) (problem : Problem) (link : Link) → network wanted w ds ≡ Ok (seen_as n) → AreDistinct (nodes w ds) (arcs w ds)
    → CorrespondsOneToOne n.instance problem link → (o : Objective) × (chosen wanted (objectives w ds) ≡ Some o) × CorrespondsByName (nodes w ds) (arcs w ds) o problem link
