use Rattle.net_linear.proofs.Sizes.{taken_fits, taken_is}
use Rattle.net_linear.proofs.condition.less.Goals as goal

pub overflow_sub-result : goal.overflow_sub-result
overflow_sub-result c = taken_fits c.args.a.now c.args.b.now c.requires

pub returns : goal.returns
returns c = taken_is c.args.a.now c.args.b.now c.requires
