use Rattle.std.proofs.Common.{arith}
use Rattle.std.proofs.lemmas.Grind.{common_steps}
use Rattle.net_names.proofs.expression_names.check_leaf.Goals as goal

pub returns-in-Name : goal.returns-in-Name
returns-in-Name c = grind (arith, common_steps)
