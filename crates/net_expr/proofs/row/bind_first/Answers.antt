use Rattle.std.proofs.Common.{arith}
use Rattle.std.proofs.lemmas.Grind.{common_steps}
use Rattle.net_expr.proofs.row.bind_first.Goals as goal

pub bounds-members-0 : goal.bounds-members-0
bounds-members-0 c = grind (arith, common_steps)

pub returns-in-empty : goal.returns-in-empty
returns-in-empty c = grind (arith, common_steps)

pub returns-in_ok-copied-in-len1-up : goal.returns-in_ok-copied-in-len1-up
returns-in_ok-copied-in-len1-up c = grind (arith, common_steps)
