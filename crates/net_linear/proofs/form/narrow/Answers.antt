use Rattle.net_linear.proofs.FormSizes.{is_sized_number}
use Rattle.net_linear.proofs.Sizes.{narrow_fits, narrow_is}
use Rattle.net_linear.proofs.form.narrow.Goals as goal

pub overflow_cast-result : goal.overflow_cast-result
overflow_cast-result c = narrow_fits c.args.number.now c.requires

pub returns-clause-value : goal.returns-clause-value
returns-clause-value c = narrow_is c.args.number.now c.requires

pub returns-clause-size : goal.returns-clause-size
returns-clause-size c = is_sized_number c.args.number.now c.requires
