use Rattle.std.proofs.Common.{arith}
use Rattle.std.proofs.lemmas.Grind.{common_steps}
use Rattle.net_linear.proofs.condition.sides_of.Goals as goal

pub returns-in-One : goal.returns-in-One
returns-in-One c = grind (arith, common_steps)

pub returns-in-Between : goal.returns-in-Between
returns-in-Between c = grind (arith, common_steps)

pub returns-in-Absent : goal.returns-in-Absent
returns-in-Absent c = grind (arith, common_steps)
