use Rattle.std.proofs.Common.{◌∙◌, ap}
use Rattle.net_io.proofs.Paging.{page_fails, both_pass, text_fails}
use Rattle.net_io.proofs.page.Page.send_bytes.Goals as goal

pub returns-in_err-write_whole-clause-err : goal.returns-in_err-write_whole-clause-err
returns-in_err-write_whole-clause-err g c =
    page_fails _ _ c.as_slice.result.now c.args.self.now.bytes c.args.bytes.now c.from_residual.result (c.as_slice.ensures.value ∙ ap (λ p. p.bytes) c.self.view_is) c.in_err-write_whole.ensures.err

pub returns-else-bytes-le-PAGE-clause-ok : goal.returns-else-bytes-le-PAGE-clause-ok
returns-else-bytes-le-PAGE-clause-ok g c =
    both_pass _ _ _ c.as_slice.result.now c.args.self.now.bytes c.args.bytes.now c.clear.new.self.items c.write_whole-else-bytes-le-PAGE.result (c.as_slice.ensures.value ∙ ap (λ p. p.bytes) c.self.view_is)
    c.in_ok-write_whole.ensures.ok c.clear.ensures c.write_whole-else-bytes-le-PAGE.ensures.ok

pub returns-else-bytes-le-PAGE-clause-err : goal.returns-else-bytes-le-PAGE-clause-err
returns-else-bytes-le-PAGE-clause-err g c =
    text_fails _ _ _ c.as_slice.result.now c.args.self.now.bytes c.args.bytes.now c.write_whole-else-bytes-le-PAGE.result (c.as_slice.ensures.value ∙ ap (λ p. p.bytes) c.self.view_is)
    c.in_ok-write_whole.ensures.ok c.write_whole-else-bytes-le-PAGE.ensures.err
