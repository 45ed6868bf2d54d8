use Rattle.std.proofs.Common.{arith}
use Rattle.std.proofs.lemmas.Grind.{common_steps}
use Rattle.net_bind.proofs.set_phrase.assigned.Goals as goal

pub returns : goal.returns
returns c = grind (arith, common_steps)

pub loop-phrase-preserved : goal.loop-phrase-preserved
loop-phrase-preserved c = grind (arith, common_steps)

pub returns-in-Some : goal.returns-in-Some
returns-in-Some c = grind (arith, common_steps)
