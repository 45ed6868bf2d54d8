use Rattle.std.proofs.Common.{◌≡◌, ◌∙◌, sym, ap, arith}
use Rattle.std.specs.Fmt.{signed_decimal}
use Rattle.std.proofs.lemmas.Grind.{common_steps}
use Rattle.net_sets.specs.declared.member.Member.{Member}
use Rattle.net_io.proofs.Paging.{sends_both, sends_as}
use Rattle.net_expr.specs.References.{member_text}
use Rattle.net_report.specs.Links.{in_line}
use Rattle.net_report.proofs.LineNames.{unchanged, signed_stays}
use Rattle.net_report.proofs.WrittenNames.{in_quotes}
use Rattle.net_report.proofs.written_name.send_member.Goals as goal

pub returns-in-Number : goal.returns-in-Number
returns-in-Number g c =
    let n = c.in-Number.number in
    let text : c.as_bytes.result.now ≡ signed_decimal n = grind (arith, common_steps) in
    sends_as (text ∙ sym (unchanged (signed_decimal n) (signed_stays n)) ∙ ap (λ (m : Member). in_line (member_text m)) (sym c.in-Number.is)) c.send.ensures

pub returns-in-Name : goal.returns-in-Name
returns-in-Name g c =
    sends_as (in_quotes c.in-Name.text ∙ ap (λ (m : Member). in_line (member_text m)) (sym c.in-Name.is)) (sends_both c.send-in-Name.ensures (sends_both c.send_text.ensures c.send-in-Name-2.ensures))
