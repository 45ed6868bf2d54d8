use Rattle.net_io.proofs.Paging.{IsPartlySentTo}
use Rattle.net_expr.specs.References.{doubled}
use Rattle.net_report.specs.Links.{in_line}
use Rattle.net_report.proofs.written_name.send_text.Given as goal

abbrev pub invariant-loop-byte : goal.invariant-loop-byte
invariant-loop-byte g l =
    IsPartlySentTo g.W.Sink.taken g.W.Sink.failed l.fn.sink l.sink l.fn.page l.page
    (in_line (doubled l.byte-iterator)) (in_line (doubled l.fn.text))
