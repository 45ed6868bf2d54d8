use Rattle.std.proofs.Common.{arith}
use Rattle.std.proofs.lemmas.Grind.{common_steps}
use Rattle.net_bind.proofs.set_phrase.in_body.Goals as goal

pub returns-in-Plain : goal.returns-in-Plain
returns-in-Plain c = grind (arith, common_steps)

pub returns-in-Priced : goal.returns-in-Priced
returns-in-Priced c = grind (arith, common_steps)

pub returns-in_ok-phrase-in-Valued : goal.returns-in_ok-phrase-in-Valued
returns-in_ok-phrase-in-Valued c = grind (arith)
