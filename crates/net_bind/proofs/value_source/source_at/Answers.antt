use Rattle.std.proofs.Common.{arith}
use Rattle.std.proofs.lemmas.Grind.{common_steps}
use Rattle.net_bind.proofs.value_source.source_at.Goals as goal

pub returns-in-None-None : goal.returns-in-None-None
returns-in-None-None c = grind (arith, common_steps)

pub returns-in-None-Some : goal.returns-in-None-Some
returns-in-None-Some c = grind (arith, common_steps)

pub returns-in-Some-default : goal.returns-in-Some-default
returns-in-Some-default c = grind (arith, common_steps)
