use Rattle.std.proofs.Common.{ap, ◌∙◌}
use Rattle.net_linear.specs.Forms.{is_sized}
use Rattle.net_linear.proofs.FormSizes.{arc_sized}
use Rattle.net_linear.proofs.form.Affine.arc.Goals as goal

pub invariant_of-result : goal.invariant_of-result
invariant_of-result c = ap is_sized c.in_ok-arc.ensures ∙ arc_sized c.args.arc
