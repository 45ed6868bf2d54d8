use Rattle.std.proofs.Common.{ap, ◌∙◌, ◌+ℤ◌}
use Rattle.net_expr.specs.Limits.{is_small}
use Rattle.net_linear.specs.Forms.{Linear, coefficient}
use Rattle.net_linear.proofs.FormSizes.{arc_apart, fits_arc}
use Rattle.net_linear.proofs.form.Sum.with_arc.Goals as goal

pub invariant_of-result : goal.invariant_of-result
invariant_of-result c = arc_apart c.self.inside.products c.args.arc c.args.factor.now _ c.in_ok-fits.ensures.adds c.self.invariant

pub returns-clause-fits : goal.returns-clause-fits
returns-clause-fits c = λ h.
    c.in_ok-fits.ensures.fits
    ∙ ap (λ (f : Linear). is_small (coefficient f.products c.args.arc +ℤ c.args.factor.now)) c.self.view_is
    ∙ fits_arc c.args.self c.args.factor.now c.args.arc h
