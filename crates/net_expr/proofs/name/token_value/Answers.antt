use Rattle.std.proofs.Common.{arith}
use Rattle.std.proofs.lemmas.Grind.{common_steps}
use Rattle.net_tree.specs.Numerals.{number_of}
use Rattle.net_expr.proofs.name.token_value.Goals as goal

pub returns-in-Name : goal.returns-in-Name
returns-in-Name c = grind (arith, common_steps)

pub returns-in_default : goal.returns-in_default
returns-in_default c = grind (arith, common_steps)

pub returns-in-Number : goal.returns-in-Number
unfolding number_of
returns-in-Number c = grind (arith, common_steps)
