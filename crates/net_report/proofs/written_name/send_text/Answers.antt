use Rattle.std.proofs.Common.{◌∷◌, [], List, ℕ, ap, ◌∙◌}
use Rattle.net_io.proofs.Paging.{step}
use Rattle.net_expr.specs.References.{doubled}
use Rattle.net_report.specs.Links.{in_line}
use Rattle.net_report.proofs.WrittenNames.{text_next}
use Rattle.net_report.proofs.written_name.send_text.Goals as goal

pub loop-byte-preserved : goal.loop-byte-preserved
loop-byte-preserved g c =
    let b = c.in-Some-byte.byte in
    let rest = c.next.new.self in
    step (in_line (doubled (b ∷ []))) (in_line (doubled rest)) (ap (λ (l : List ℕ). in_line (doubled l)) c.in-Some-byte.ensures.steps ∙ text_next b rest) c.loop-byte.invariant c.send_text_byte.ensures
