use Rattle.std.proofs.Common.{arith}
use Rattle.net_tree.proofs.Views.{views}
use Rattle.net_model.proofs.braces.reduced.Goals as goal

pub returns : goal.returns
returns c = grind (arith, views)
