use Rattle.std.proofs.Common.{◌≡◌, ◌++◌, ◌∷◌, [], List, ℕ, Some, codes, ap, ◌∙◌, arith, decimal}
use Rattle.std.specs.Fmt.{signed_decimal}
use Rattle.std.proofs.lemmas.Grind.{common_steps}
use Rattle.net_io.proofs.Paging.{sends_both, sends_as}
use Rattle.net_report.specs.Links.{in_line}
use Rattle.net_report.specs.References.{declared_name}
use Rattle.net_report.proofs.links.send_arc.Goals as goal

pub returns : goal.returns
returns g c =
    let name = in_line (declared_name (Some c.args.declared.now) c.args.key.now) in
    let number : c.as_bytes.result.now ≡ decimal c.args.number = grind (arith, common_steps) in
    let offset : c.as_bytes-2.result.now ≡ signed_decimal c.args.offset = grind (arith, common_steps) in
    sends_as
    (ap (λ (l : List ℕ). codes "c arc " ++ (l ++ (32 ∷ (c.as_bytes-2.result.now ++ (32 ∷ (name ++ 10 ∷ [])))))) number
    ∙ ap (λ (l : List ℕ). codes "c arc " ++ (decimal c.args.number ++ (32 ∷ (l ++ (32 ∷ (name ++ 10 ∷ [])))))) offset)
    (sends_both c.send.ensures (sends_both c.send-2.ensures (sends_both c.send-3.ensures (sends_both c.send-4.ensures (sends_both c.send-5.ensures (sends_both c.send_name.ensures c.send-6.ensures))))))
