use Rattle.std.proofs.Common.{drop}
use Rattle.net_io.proofs.Paging.{IsPartlySentTo}
use Rattle.net_report.specs.References.{names_of}
use Rattle.net_report.specs.Links.{arc_lines}
use Rattle.net_report.proofs.links.send_declared_arcs.Given as goal

abbrev pub invariant-loop-place : goal.invariant-loop-place
invariant-loop-place g l =
    IsPartlySentTo g.W.Sink.taken g.W.Sink.failed l.fn.sink l.sink l.fn.page l.page
    (arc_lines (drop l.place l.numbers) (drop l.place l.offsets) (drop l.place (names_of l.declaration))) (arc_lines l.numbers l.offsets (names_of l.declaration))
