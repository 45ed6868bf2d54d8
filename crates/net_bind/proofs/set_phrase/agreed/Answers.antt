use Rattle.std.proofs.Common.{arith}
use Rattle.std.proofs.lemmas.Grind.{common_steps}
use Rattle.net_bind.proofs.set_phrase.agreed.Goals as goal

pub returns-else-dimension-other : goal.returns-else-dimension-other
returns-else-dimension-other c = grind (arith, common_steps)
