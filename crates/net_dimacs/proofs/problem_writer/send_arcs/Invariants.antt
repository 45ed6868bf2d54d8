use Rattle.std.proofs.Common.{drop}
use Rattle.std.specs.List.{flat_map}
use Rattle.net_dimacs.specs.Written.{arc_line}
use Rattle.net_io.proofs.Paging.{IsPartlySentTo}
use Rattle.net_dimacs.proofs.problem_writer.send_arcs.Given as goal

abbrev pub invariant-loop-arc : goal.invariant-loop-arc
invariant-loop-arc g l =
    IsPartlySentTo g.W.Sink.taken g.W.Sink.failed l.fn.sink l.sink l.fn.page l.page
    (flat_map arc_line (drop l.arc-index l.arcs)) (flat_map arc_line l.arcs)
