-- The limits that the code names are those of the definitions.
use Rattle.std.proofs.Common.{◌≡◌, pos, refl}
use Rattle.net_normal.specs.Limits.{node_limit, arc_limit, value_limit, range_limit, flow_node_limit, flow_arc_limit, flow_limit, cost_limit}
use Rattle.net_normal.specs.declared.limits.TheConstants.{NODE_LIMIT, ARC_LIMIT, VALUE_LIMIT, RANGE_LIMIT, FLOW_NODE_LIMIT, FLOW_ARC_LIMIT, FLOW_LIMIT, COST_LIMIT}

nodes : NODE_LIMIT ≡ node_limit
nodes = refl

arcs : ARC_LIMIT ≡ arc_limit
arcs = refl

value : VALUE_LIMIT ≡ pos value_limit
value = refl

range : RANGE_LIMIT ≡ pos range_limit
range = refl

flow_nodes : FLOW_NODE_LIMIT ≡ flow_node_limit
flow_nodes = refl

flow_arcs : FLOW_ARC_LIMIT ≡ flow_arc_limit
flow_arcs = refl

flow : FLOW_LIMIT ≡ pos flow_limit
flow = refl

cost : COST_LIMIT ≡ pos cost_limit
cost = refl
