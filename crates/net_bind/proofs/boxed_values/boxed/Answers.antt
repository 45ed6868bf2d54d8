use Rattle.std.proofs.Common.{arith}
use Rattle.std.proofs.lemmas.Grind.{common_steps}
use Rattle.net_bind.proofs.boxed_values.boxed.Goals as goal

pub returns : goal.returns
returns g c = grind (arith, common_steps)
