use Rattle.std.proofs.Common.{arith}
use Rattle.std.proofs.lemmas.Grind.{common_steps}
use Rattle.net_tree.specs.Operations.{reduction}
use Rattle.net_tree.proofs.operator.reduction_of.Goals as goal

pub returns-in_default : goal.returns-in_default
unfolding reduction
returns-in_default c = grind (arith, common_steps)
