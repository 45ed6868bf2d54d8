use Rattle.std.proofs.Common.{arith}
use Rattle.std.proofs.lemmas.Grind.{common_steps}
use Rattle.net_bind.proofs.restriction.ordered.Goals as goal

pub returns-in_err-second : goal.returns-in_err-second
returns-in_err-second c = grind (arith, common_steps)
