use Rattle.std.proofs.Common.{drop}
use Rattle.net_io.proofs.Paging.{IsPartlySentTo}
use Rattle.net_expr.specs.References.{further_text}
use Rattle.net_report.specs.Links.{in_line}
use Rattle.net_report.proofs.written_name.send_further.Given as goal

abbrev pub invariant-loop-member : goal.invariant-loop-member
invariant-loop-member g l =
    IsPartlySentTo g.W.Sink.taken g.W.Sink.failed l.fn.sink l.sink l.fn.page l.page
    (in_line (further_text (drop l.member-index l.members))) (in_line (further_text l.members))
