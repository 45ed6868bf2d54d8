use Rattle.std.proofs.Common.{◌≡◌, ◌++◌, ◌∷◌, [], List, ℕ, Some, codes, ap, arith, decimal}
use Rattle.std.proofs.lemmas.Grind.{common_steps}
use Rattle.net_io.proofs.Paging.{sends_both, sends_as}
use Rattle.net_report.specs.Links.{in_line}
use Rattle.net_report.specs.References.{declared_name}
use Rattle.net_report.proofs.links.send_node.Goals as goal

pub returns : goal.returns
returns g c =
    let text : c.as_bytes.result.now ≡ decimal c.args.number = grind (arith, common_steps) in
    sends_as (ap (λ (l : List ℕ). codes "c node " ++ (l ++ (32 ∷ (in_line (declared_name (Some c.args.declared.now) c.args.key.now) ++ 10 ∷ [])))) text)
    (sends_both c.send.ensures (sends_both c.send-2.ensures (sends_both c.send-3.ensures (sends_both c.send_name.ensures c.send-4.ensures))))
