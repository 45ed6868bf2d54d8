use Rattle.std.proofs.Common.{arith}
use Rattle.std.proofs.lemmas.Grind.{common_steps}
use Rattle.net_bind.proofs.restriction.among.Goals as goal

pub returns-in-One : goal.returns-in-One
returns-in-One c = grind (arith, common_steps)

pub returns-in-Several : goal.returns-in-Several
returns-in-Several c = grind (arith, common_steps)

pub returns-then-is_single : goal.returns-then-is_single
returns-then-is_single c = grind (arith, common_steps)

pub returns-in-Truth : goal.returns-in-Truth
returns-in-Truth c = grind (arith, common_steps)

pub returns-else-is_single : goal.returns-else-is_single
returns-else-is_single c = grind (arith, common_steps)
