use Rattle.std.proofs.Common.{arith}
use Rattle.std.proofs.lemmas.Grind.{common_steps}
use Rattle.net_expr.proofs.name.entry_at.Goals as goal

pub returns-in-None : goal.returns-in-None
returns-in-None c = grind (arith, common_steps)

pub returns-else-len-eq0 : goal.returns-else-len-eq0
returns-else-len-eq0 c = grind (arith, common_steps)

pub returns-else-len-key_count : goal.returns-else-len-key_count
returns-else-len-key_count c = grind (arith)

pub returns-then-len-eq0 : goal.returns-then-len-eq0
returns-then-len-eq0 c = grind (arith)
