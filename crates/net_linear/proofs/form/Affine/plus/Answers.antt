use Rattle.net_linear.proofs.FormSizes.{roomy, small_factor}
use Rattle.net_linear.proofs.form.Affine.plus.Goals as goal

pub with-requires-clause-factor : goal.with-requires-clause-factor
with-requires-clause-factor c = small_factor c.args.factor.now c.requires

pub with-requires-clause-room : goal.with-requires-clause-room
with-requires-clause-room c = roomy c.self.inside.sum c.self.invariant
