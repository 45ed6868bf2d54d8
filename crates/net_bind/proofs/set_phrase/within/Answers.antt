use Rattle.std.proofs.Common.{arith}
use Rattle.net_bind.proofs.set_phrase.within.Goals as goal

pub returns-in_ok-set-in-Some : goal.returns-in_ok-set-in-Some
returns-in_ok-set-in-Some c = grind (arith)
