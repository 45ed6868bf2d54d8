use Rattle.std.proofs.Common.{ap, ◌∙◌, arith}
use Rattle.std.proofs.lemmas.Int.{to_z-of_z}
use mir.Syntax.{w128}
use Rattle.net_linear.specs.Forms.{coefficient}
use Rattle.net_linear.proofs.Storage.{coefficient_in_run, coefficient_past, in_run, past_run}
use Rattle.net_linear.proofs.coefficient_list.Coefficients.get.Goals as goal

pub returns-then-position-len : goal.returns-then-position-len
returns-then-position-len c =
    let inside = c.self.inside in
    let place = c.position_from-position in
    let is = in_run inside.first c.args.arc place.result c.len.result (place.ensures.from, place.ensures.before) (omega (arith, c.len.ensures, inside.run.ok.1, inside.run.small)) c.if-position-len.true in
    to_z-of_z w128 c.copied.result (record { sfits = c.copied.type_inv })
    ∙ c.copied.ensures
    ∙ coefficient_in_run inside.first inside.run.items inside.others.entries place.result c.args.arc c.index.result.now is (omega (arith, c.if-position-len.true, c.len.ensures, inside.run.ok.0)) c.index.ensures
    ∙ ap (λ ps. coefficient ps c.args.arc) c.self.view_is

pub returns-else-position-len : goal.returns-else-position-len
returns-else-position-len c =
    let inside = c.self.inside in
    let place = c.position_from-position in
    to_z-of_z w128 c.coefficient_in.result (record { sfits = c.coefficient_in.type_inv })
    ∙ c.coefficient_in.ensures
    ∙ (coefficient_past inside.first inside.run.items inside.others.entries c.args.arc (past_run inside.first c.args.arc place.result _ (place.ensures.from, place.ensures.before) (omega (arith, c.if-position-len.false, c.len.ensures, inside.run.ok.0)))
    ∙ ap (λ ps. coefficient ps c.args.arc) c.self.view_is)
