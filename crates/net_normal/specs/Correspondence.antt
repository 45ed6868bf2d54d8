-- What the normal form guarantees: the feasible flows of a problem correspond one to one to the
-- feasible assignments of a network (AMPL book, chapter 15; First DIMACS Implementation Challenge,
-- minimum-cost flow), and costs correspond to objective values.
use Rattle.std.specs.Prelude.{◌≡◌, List, ℤ}
use Rattle.net_normal.specs.Assignments.{IsFeasibleAssignment, value_of}
use Rattle.net_normal.specs.Flows.{IsFeasibleFlow, cost_of}
use Rattle.net_normal.specs.Links.{mapped_back, value_at}
use Rattle.net_normal.specs.declared.instance.Instance.{Instance}
use Rattle.net_normal.specs.declared.problem.Problem.{Problem}
use Rattle.net_normal.specs.declared.problem.Link.{Link}

pub record CorrespondsOneToOne (instance : Instance) (problem : Problem) (link : Link) : Type 0 where
  -- each feasible flow maps to a feasible assignment
  pub forward : (flows : List ℤ) → IsFeasibleFlow problem flows → IsFeasibleAssignment instance (mapped_back link flows)
  -- surjective: every feasible assignment comes from a feasible flow
  pub onto : (assignment : List ℤ) → IsFeasibleAssignment instance assignment → (flows : List ℤ) × IsFeasibleFlow problem flows × (mapped_back link flows ≡ assignment)
  -- injective: different flows map to different assignments
  pub injective : (flows others : List ℤ) → IsFeasibleFlow problem flows → IsFeasibleFlow problem others → mapped_back link flows ≡ mapped_back link others → flows ≡ others
  -- the cost of a flow determines the objective value of its assignment
  pub value : (flows : List ℤ) → IsFeasibleFlow problem flows → value_of instance (mapped_back link flows) ≡ value_at link (cost_of problem flows)
