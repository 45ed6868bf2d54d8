use Rattle.net_linear.proofs.Storage.{none_is}
use Rattle.net_linear.proofs.coefficient_list.Coefficients.is_empty.Goals as goal

pub returns : goal.returns
returns c = none_is c.args.self.now c.len.result c.len.ensures
