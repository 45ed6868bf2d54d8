use Rattle.std.proofs.Common.{drop}
use Rattle.net_io.proofs.Paging.{IsPartlySentTo}
use Rattle.net_report.specs.Links.{in_line}
use Rattle.net_report.proofs.written_name.send_in_line.Given as goal

abbrev pub invariant-loop-byte : goal.invariant-loop-byte
invariant-loop-byte g l =
    IsPartlySentTo g.W.Sink.taken g.W.Sink.failed l.fn.sink l.sink l.fn.page l.page
    (in_line (drop l.byte-index l.bytes)) (in_line l.bytes)
