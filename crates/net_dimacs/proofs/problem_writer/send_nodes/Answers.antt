use Rattle.std.proofs.Common.{◌+◌, drop, get_or, pos}
use Rattle.net_dimacs.specs.Written.{node_line, node_lines}
use Rattle.net_io.proofs.Paging.{start, step, finish}
use Rattle.net_dimacs.proofs.Sending.{nodes_next, nodes_end}
use Rattle.net_dimacs.proofs.problem_writer.send_nodes.Goals as goal

pub loop-node-init : goal.loop-node-init
loop-node-init g c = start _ _ (node_lines 0 c.args.supplies.now)

pub loop-node-preserved : goal.loop-node-preserved
loop-node-preserved g c =
    let v = c.loop-node.node in
    let supplies = c.args.supplies.now in
    step (node_line v (get_or supplies v (pos 0))) (node_lines (v + 1) (drop (v + 1) supplies)) (nodes_next v supplies c.loop-node-test.true) c.loop-node.invariant c.send_node.ensures

pub returns : goal.returns
returns g c = finish (nodes_end c.loop-node.node c.args.supplies.now c.loop-node-test.false) c.loop-node.invariant
