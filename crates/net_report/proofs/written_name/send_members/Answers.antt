use Rattle.net_io.proofs.Paging.{sends_both, sends_as}
use Rattle.net_report.proofs.WrittenNames.{members_at}
use Rattle.net_report.proofs.written_name.send_members.Goals as goal

pub returns-in-len1-up : goal.returns-in-len1-up
returns-in-len1-up g c =
    sends_as (members_at c.args.members.now c.first-item.result c.in-len1-up.len_at_least c.first-item.is) (sends_both c.send_member.ensures c.send_further.ensures)
