-- A min-cost flow problem represents a network: which arc of the problem is which arc of the model, and how flows correspond to
-- assignments. The flows and costs of a problem are those of `Flows.antt` of net_normal, and `Links.antt` there maps them back.
use Rattle.std.specs.Prelude.{◌≡◌, ◌≢◌, ◌+◌, ℕ, suc, List, [], ◌∷◌, length, slice_get, Option, None, Some, IsTrue, if◌then◌else◌, ◌&&◌, ℤ, pos, ◌+ℤ◌, ◌-ℤ◌, ◌≤ℤ◌, neg_ℤ}
use Rattle.std.specs.Int.{int_max}
use Rattle.std.specs.List.{AllByRecursion, AllZip}
use Rattle.std.specs.Str.{bytes_eq}
use Rattle.net_sets.specs.Sets.{Tuple, same_tuple}
use Rattle.net_expr.specs.Worlds.{Name}
use Rattle.net_normal.specs.declared.problem.Link.{Link}
use Rattle.net_normal.specs.declared.problem.FlowArc.{FlowArc}
use Rattle.net_normal.specs.declared.problem.Problem.{Problem}
use Rattle.net_normal.specs.Flows.{net_outflow, IsWithinCapacity, IsFeasibleFlow, cost_of}
use Rattle.net_normal.specs.Links.{mapped_back, value_at}
use Rattle.net_normal.specs.Sums.{sum_of}
use Rattle.net_meaning.specs.Network.{Node, Arc, Network, Assignment, Agree, is_at, AreWithinBounds, net_inflow, IsSatisfied, IsFeasible, HasValue}

-- the number of a node in the problem, from 0. The problem has one more node after the model's nodes, which is the missing end of arcs with one end.
pub data IsNodeNumber (vs : List Node) : Option (Name × Tuple) → ℕ → Type 0 where
  outside : IsNodeNumber vs None (length vs)
  named : (r : Name × Tuple) (i : ℕ) (v : Node) → slice_get vs i ≡ Some v → IsTrue (is_at (Some r) v.label) → IsNodeNumber vs (Some r) i

-- the arc of the problem that encodes an arc of the model: it joins the same nodes, and its bounds are those of the model's arc minus the
-- offset. Arcs are numbered from 1: number suc i is the arc with index i. Number 0: the arc is not in the problem, since its bounds are equal;
-- the offset is its flow. That two arcs share a number is excluded by `balanced` if their flows can vary, and else by `satisfied`, except for loops.
pub data IsEncoded (vs : List Node) (arcs : List FlowArc) (a : Arc) (offset : ℤ) : ℕ → Type 0 where
  fixed : a.lower ≡ offset → a.upper ≡ offset → IsEncoded vs arcs a offset 0
  at : (i : ℕ) (f : FlowArc) → slice_get arcs i ≡ Some f → IsNodeNumber vs a.from f.src → IsNodeNumber vs a.to f.dst → f.low +ℤ offset ≡ a.lower → f.cap +ℤ offset ≡ a.upper
      → IsEncoded vs arcs a offset (suc i)

-- each arc with its offset and its number in the problem
abbrev pub AreEncoded : List Node → List FlowArc → List Arc → List ℤ → List ℕ → Type 0
AreEncoded vs arcs [] [] [] = Unit {0}
AreEncoded vs arcs (a ∷ all) (y ∷ ys) (i ∷ is) = IsEncoded vs arcs a y i × AreEncoded vs arcs all ys is
AreEncoded vs arcs _ _ _ = ⊥

-- the assignment that gives the arcs these flows, in order
abbrev pub by_label : List Arc → List ℤ → Assignment
by_label [] ys n key = pos 0
by_label (a ∷ all) [] n key = pos 0
by_label (a ∷ all) (y ∷ ys) n key = if bytes_eq a.label.name n && same_tuple a.label.key key then y else by_label all ys n key

-- the assignment that corresponds to a flow of the problem
abbrev pub assignment_of : List Arc → Link → List ℤ → Assignment
assignment_of all link flows = by_label all (mapped_back link flows)

-- node i lacks d units of inflow: its outflow minus its inflow is by d more than its supply. With d = 0 it is balanced; if d is negative, it has
-- -d units too many. A supply is a negated net inflow, except for offsets and slack.
abbrev pub Lacks : Problem → List ℤ → ℕ → ℤ → Type 0
Lacks problem flows i d = slice_get problem.supplies.items i ≡ Some (net_outflow problem.arcs.items flows i -ℤ d)

-- the absolute value
abbrev pub magnitude : ℤ → ℤ
magnitude d = int_max d (neg_ℤ d)

-- there is a flow on each arc of the problem, and it is within the capacities on the slack arcs, which encode no arc of the model: they give the
-- range of a condition its room
pub record HasSlackWithin (problem : Problem) (link : Link) (flows : List ℤ) : Type 0 where
  pub each : length flows ≡ length problem.arcs.items
  pub slack : (i : ℕ) (f : FlowArc) (y : ℤ) → AllByRecursion (λ (n : ℕ). n ≢ suc i) link.numbers.items → slice_get problem.arcs.items i ≡ Some f → slice_get flows i ≡ Some y → IsWithinCapacity f y

-- the problem represents the network: it has the network's nodes and one more, each arc is in it or has a fixed flow, and its feasible flows
-- correspond one to one to the feasible assignments, with costs and values
pub record Represents (network : Network) (problem : Problem) (link : Link) : Type 0 where
  pub sense : link.sense ≡ network.objective.sense
  pub nodes : length problem.supplies.items ≡ length network.nodes + 1
  -- so the supplies of the model's nodes determine that of the other node
  pub total : sum_of problem.supplies.items ≡ pos 0
  pub arcs : AreEncoded network.nodes problem.arcs.items network.arcs link.offsets.items link.numbers.items
  -- feasible flows correspond one to one to feasible assignments
  pub forward : (flows : List ℤ) → IsFeasibleFlow problem flows → IsFeasible network (assignment_of network.arcs link flows)
  pub onto : (x : Assignment) → IsFeasible network x → (flows : List ℤ) × IsFeasibleFlow problem flows × Agree network.arcs (assignment_of network.arcs link flows) x
  pub injective : (flows others : List ℤ) → IsFeasibleFlow problem flows → IsFeasibleFlow problem others → Agree network.arcs (assignment_of network.arcs link flows) (assignment_of network.arcs link others) → flows ≡ others
  -- the cost of a flow, feasible or not, gives the value of its assignment: the constant plus the cost, or minus it to maximize
  pub value : (flows : List ℤ) → length flows ≡ length problem.arcs.items → HasValue network (assignment_of network.arcs link flows) (value_at link (cost_of problem flows))
  -- If no assignment is feasible, the fields above say nothing of supplies. The next two do, node by node. If a node lacks d units, its condition
  -- is true of its net inflow and d more units, whatever the flows on the model's arcs. So its supply, with any slack, stands for net inflows that
  -- the condition allows. A condition that is true of no net inflow (E54) has no such supply.
  pub satisfied : (flows : List ℤ) (i : ℕ) (v : Node) (d : ℤ) → HasSlackWithin problem link flows → slice_get network.nodes i ≡ Some v → Lacks problem flows i d
      → IsSatisfied v.env v.condition (net_inflow network.arcs (assignment_of network.arcs link flows) v.label +ℤ d)
  -- Each assignment within the bounds has a flow within the capacities that misses the supply of each node by no more than the assignment misses
  -- the node's condition.
  pub balanced : (x : Assignment) → AreWithinBounds network.arcs x
      → (flows : List ℤ) × AllZip IsWithinCapacity problem.arcs.items flows × Agree network.arcs (assignment_of network.arcs link flows) x
      × ((i : ℕ) (v : Node) (d : ℤ) → slice_get network.nodes i ≡ Some v → IsSatisfied v.env v.condition (net_inflow network.arcs x v.label +ℤ d) → (e : ℤ) × Lacks problem flows i e × (magnitude e ≤ℤ magnitude d))
