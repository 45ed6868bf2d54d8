use Rattle.std.specs.Prelude.{slice_get, length}
use Rattle.std.proofs.Common.{ap, ◌∙◌, arith}
use Rattle.net_linear.proofs.Storage.{entry_in_run, entry_past}
use Rattle.net_linear.proofs.coefficient_list.Coefficients.entry.Goals as goal

pub overflow_add-result : goal.overflow_add-result
overflow_add-result c = omega (arith, c.self.invariant, c.if-position-len.true, c.len.ensures, c.self.inside.run.ok.0)

pub returns-then-position-len : goal.returns-then-position-len
returns-then-position-len c =
    let inside = c.self.inside in
    entry_in_run inside.first inside.run.items inside.others.entries c.args.position c.index.result.now (omega (arith, c.if-position-len.true, c.len.ensures, inside.run.ok.0)) c.index.ensures
    ∙ ap (λ ps. slice_get ps c.args.position) c.self.view_is

pub returns-else-position-len : goal.returns-else-position-len
returns-else-position-len c =
    let inside = c.self.inside in
    c.entry_in.ensures
    ∙ (entry_past inside.first inside.run.items inside.others.entries c.args.position _ (omega (arith, c.if-position-len.false, c.len.ensures, inside.run.ok.0))
    ∙ ap (λ ps. slice_get ps c.args.position) c.self.view_is)
