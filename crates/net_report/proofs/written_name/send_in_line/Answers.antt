use Rattle.std.proofs.Common.{ℕ, ◌+◌, ◌∷◌, [], drop, get_or, ap}
use Rattle.std.proofs.lemmas.List.{get_or_default}
use Rattle.net_io.proofs.Paging.{step, sends_as}
use Rattle.net_report.specs.Links.{within_line, in_line}
use Rattle.net_report.proofs.WrittenNames.{bytes_at}
use Rattle.net_report.proofs.written_name.send_in_line.Goals as goal

pub loop-byte-preserved : goal.loop-byte-preserved
loop-byte-preserved g c =
    let bytes = c.args.bytes.now in
    let i = c.loop-byte.byte-index in
    let b = get_or bytes i 0 in
    step (within_line b ∷ []) (in_line (drop (i + 1) bytes)) (bytes_at bytes i b c.loop-byte-test.true (get_or_default bytes i 0 b c.loop-byte-test.true)) c.loop-byte.invariant
    (sends_as (ap (λ (x : ℕ). x ∷ []) c.within_line.ensures) c.send-in-loop-byte.ensures)
