use Rattle.std.proofs.Common.{◌≡◌, ◌++◌, ◌∷◌, [], List, ℕ, codes, ap, arith}
use Rattle.std.specs.Fmt.{signed_decimal}
use Rattle.std.proofs.lemmas.Grind.{common_steps}
use Rattle.net_io.proofs.Paging.{sends_both, sends_as}
use Rattle.net_report.proofs.links.send_constant.Goals as goal

pub returns : goal.returns
returns g c =
    let text : c.as_bytes.result.now ≡ signed_decimal c.args.constant = grind (arith, common_steps) in
    sends_as (ap (λ (l : List ℕ). codes "c constant " ++ (l ++ 10 ∷ [])) text) (sends_both c.send.ensures (sends_both c.send-2.ensures c.send-3.ensures))
