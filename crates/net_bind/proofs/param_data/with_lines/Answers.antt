use Rattle.std.proofs.Common.{arith}
use Rattle.std.proofs.lemmas.Grind.{common_steps}
use Rattle.net_bind.proofs.param_data.with_lines.Goals as goal

pub returns : goal.returns
returns c = grind (arith, common_steps)

pub loop-line-preserved : goal.loop-line-preserved
loop-line-preserved c = grind (arith, common_steps)

pub returns-in_err-across : goal.returns-in_err-across
returns-in_err-across c = grind (arith, common_steps)
