use Rattle.std.proofs.Common.{arith}
use Rattle.net_inst.proofs.arc.with_ends.Goals as goal

pub returns-in_err-tail : goal.returns-in_err-tail
returns-in_err-tail c = grind (arith)

pub returns : goal.returns
returns c = grind (arith)
