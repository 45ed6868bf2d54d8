use Rattle.std.proofs.Common.{arith}
use Rattle.std.proofs.lemmas.Grind.{common_steps}
use Rattle.net_bind.proofs.restriction.related.Goals as goal

pub returns-in-In : goal.returns-in-In
returns-in-In c = grind (arith, common_steps)

pub returns-in-AtMost : goal.returns-in-AtMost
returns-in-AtMost c = grind (arith, common_steps)

pub returns-in-Less : goal.returns-in-Less
returns-in-Less c = grind (arith, common_steps)

pub returns-in-Greater : goal.returns-in-Greater
returns-in-Greater c = grind (arith, common_steps)

pub returns-in-Unequal : goal.returns-in-Unequal
returns-in-Unequal c = grind (arith, common_steps)

pub returns-in-AtLeast : goal.returns-in-AtLeast
returns-in-AtLeast c = grind (arith, common_steps)
