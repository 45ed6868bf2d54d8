-- The limits that netflow sets for a network and for its minimum-cost flow problem (First DIMACS
-- Implementation Challenge).
use Rattle.std.specs.Prelude.{ℕ, ◌*◌, ◌^◌, ◌<◌, ◌≤◌, ◌||◌, ℤ, pos, ◌≤ℤ◌, neg_ℤ, IsTrue, is_some, List, length, All}
use Rattle.std.specs.Option.{ForSome}
use Rattle.net_normal.specs.declared.instance.InstArc.{InstArc}
use Rattle.net_normal.specs.declared.problem.FlowArc.{FlowArc}

-- limits of a network: numbers of nodes and arcs
abbrev pub node_limit : ℕ
node_limit = 10000

abbrev pub arc_limit : ℕ
arc_limit = 100000

-- absolute value of a bound, a coefficient or the objective's constant
abbrev pub value_limit : ℕ
value_limit = 10 ^ 12

-- absolute value of a side of a node's range
abbrev pub range_limit : ℕ
range_limit = 2 * 10 ^ 12

-- limits of a problem: numbers of nodes and arcs
abbrev pub flow_node_limit : ℕ
flow_node_limit = 20000

abbrev pub flow_arc_limit : ℕ
flow_arc_limit = 200000

-- absolute value of LOW, CAP or a supply
abbrev pub flow_limit : ℕ
flow_limit = 10 ^ 18

abbrev pub cost_limit : ℕ
cost_limit = 10 ^ 12

-- absolute value of a link's constant, and of a cost that is added to it
abbrev pub constant_limit : ℕ
constant_limit = 10 ^ 30

abbrev pub total_cost_limit : ℕ
total_cost_limit = 10 ^ 36

-- absolute value of a sum over all arcs at one node (an arc can be counted at both ends)
abbrev pub sum_limit : ℕ
sum_limit = 2 * 10 ^ 17

-- the absolute value of x is at most n
pub record IsSized (n : ℕ) (x : ℤ) : Type 0 where
  pub above : neg_ℤ (pos n) ≤ℤ x
  pub below : x ≤ℤ pos n

-- an arc of a network with this many nodes
pub record IsArcOf (nodes : ℕ) (arc : InstArc) : Type 0 where
  pub lower : IsSized value_limit arc.lower
  pub upper : IsSized value_limit arc.upper
  pub ordered : arc.lower ≤ℤ arc.upper
  pub coefficient : IsSized value_limit arc.coefficient
  pub tail : ForSome arc.tail (λ v. v < nodes)
  pub head : ForSome arc.head (λ v. v < nodes)
  pub an_end : IsTrue (is_some arc.tail || is_some arc.head)

-- an arc of a problem with this many nodes
pub record IsFlowArcOf (nodes : ℕ) (arc : FlowArc) : Type 0 where
  pub src : arc.src < nodes
  pub dst : arc.dst < nodes
  pub low : pos 0 ≤ℤ arc.low
  pub room : arc.low ≤ℤ arc.cap
  pub cap : arc.cap ≤ℤ pos flow_limit
  pub cost : IsSized cost_limit arc.cost

-- a network within the limits, with this many nodes
pub record IsNetworkWithinLimits (nodes : ℕ) (arcs : List InstArc) (constant : ℤ) : Type 0 where
  pub few_nodes : nodes ≤ node_limit
  pub few_arcs : length arcs ≤ arc_limit
  pub arcs_fit : All (IsArcOf nodes) arcs
  pub constant_fits : IsSized value_limit constant

-- a problem within the limits
pub record IsWithinLimits (supplies : List ℤ) (arcs : List FlowArc) : Type 0 where
  pub some_node : 1 ≤ length supplies
  pub few_nodes : length supplies ≤ flow_node_limit
  pub few_arcs : length arcs ≤ flow_arc_limit
  pub supplies_fit : All (IsSized flow_limit) supplies
  pub arcs_fit : All (IsFlowArcOf (length supplies)) arcs
