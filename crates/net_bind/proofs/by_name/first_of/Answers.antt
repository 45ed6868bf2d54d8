use Rattle.std.proofs.Common.{arith}
use Rattle.std.proofs.lemmas.Grind.{common_steps}
use Rattle.net_bind.proofs.by_name.first_of.Goals as goal

pub returns : goal.returns
returns c = grind (arith, common_steps)

pub loop-word-preserved : goal.loop-word-preserved
loop-word-preserved c = grind (arith, common_steps)

pub returns-in_err-place : goal.returns-in_err-place
returns-in_err-place c = grind (arith, common_steps)
