use Rattle.std.proofs.Common.{drop}
use Rattle.net_dimacs.specs.Written.{node_lines}
use Rattle.net_io.proofs.Paging.{IsPartlySentTo}
use Rattle.net_dimacs.proofs.problem_writer.send_nodes.Given as goal

abbrev pub invariant-loop-node : goal.invariant-loop-node
invariant-loop-node g l =
    IsPartlySentTo g.W.Sink.taken g.W.Sink.failed l.fn.sink l.sink l.fn.page l.page
    (node_lines l.node (drop l.node l.supplies)) (node_lines 0 l.supplies)
