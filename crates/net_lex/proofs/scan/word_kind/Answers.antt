use Rattle.std.proofs.Common.{arith}
use Rattle.std.proofs.lemmas.Grind.{common_steps}
use Rattle.net_lex.proofs.scan.word_kind.Goals as goal

pub returns-in-Model : goal.returns-in-Model
returns-in-Model c = grind (arith, common_steps)

pub returns-in-Data-2 : goal.returns-in-Data-2
returns-in-Data-2 c = grind (arith, common_steps)

pub returns-in-Model-2 : goal.returns-in-Model-2
returns-in-Model-2 c = grind (arith, common_steps)
