use Rattle.std.proofs.Common.{arith}
use Rattle.net_bind.proofs.check.checked.Goals as goal

pub returns : goal.returns
returns c = grind (arith)
