use Rattle.std.proofs.Common.{◌+◌, drop}
use Rattle.net_io.proofs.Paging.{IsPartlySentTo}
use Rattle.net_report.specs.References.{names_of}
use Rattle.net_report.specs.Links.{node_lines}
use Rattle.net_report.proofs.links.send_declared_nodes.Given as goal

abbrev pub invariant-loop-place : goal.invariant-loop-place
invariant-loop-place g l =
    IsPartlySentTo g.W.Sink.taken g.W.Sink.failed l.fn.sink l.sink l.fn.page l.page
    (node_lines (l.count + l.place) (drop l.place (names_of l.declaration))) (node_lines l.count (names_of l.declaration))
