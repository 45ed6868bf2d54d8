use Rattle.net_linear.proofs.FormSizes.{arc_room}
use Rattle.net_linear.proofs.form.Affine.plus_arc.Goals as goal

pub with_arc-requires : goal.with_arc-requires
with_arc-requires c = arc_room c.self.inside.sum c.args.factor.now c.args.arc c.self.invariant c.requires
