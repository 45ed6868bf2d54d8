use Rattle.std.proofs.Common.{arith}
use Rattle.net_inst.proofs.arc.arc_at.Goals as goal

pub returns-in_ok-detail : goal.returns-in_ok-detail
returns-in_ok-detail c = grind (arith)

pub returns-in_err-lower : goal.returns-in_err-lower
returns-in_err-lower c = grind (arith)
