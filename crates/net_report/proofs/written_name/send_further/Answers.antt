use Rattle.std.proofs.Common.{◌+◌, ◌∷◌, [], ◌++◌, drop}
use Rattle.net_io.proofs.Paging.{step, sends_both}
use Rattle.net_expr.specs.References.{member_text, further_text}
use Rattle.net_report.specs.Links.{in_line}
use Rattle.net_report.proofs.WrittenNames.{further_at}
use Rattle.net_report.proofs.written_name.send_further.Goals as goal

pub loop-member-preserved : goal.loop-member-preserved
loop-member-preserved g c =
    let members = c.args.members.now in
    let i = c.loop-member.member-index in
    let m = c.member-item.result in
    step ((44 ∷ []) ++ in_line (member_text m)) (in_line (further_text (drop (i + 1) members))) (further_at members i m c.loop-member-test.true c.member-item.is) c.loop-member.invariant
    (sends_both c.send.ensures c.send_member.ensures)
