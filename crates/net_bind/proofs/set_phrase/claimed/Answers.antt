use Rattle.std.proofs.Common.{arith}
use Rattle.std.proofs.lemmas.Grind.{common_steps}
use Rattle.net_bind.proofs.set_phrase.claimed.Goals as goal

pub returns-in-Dimension : goal.returns-in-Dimension
returns-in-Dimension c = grind (arith, common_steps)

pub returns-in-Becomes : goal.returns-in-Becomes
returns-in-Becomes c = grind (arith, common_steps)

pub returns-in-Within : goal.returns-in-Within
returns-in-Within c = grind (arith, common_steps)
