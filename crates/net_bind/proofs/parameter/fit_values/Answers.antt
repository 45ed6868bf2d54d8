use Rattle.std.proofs.Common.{arith}
use Rattle.std.proofs.lemmas.Grind.{common_steps}
use Rattle.net_bind.proofs.parameter.fit_values.Goals as goal

pub loop-place-preserved : goal.loop-place-preserved
loop-place-preserved c = grind (arith, common_steps)

pub returns-in_err-fit_value : goal.returns-in_err-fit_value
returns-in_err-fit_value c = grind (arith, common_steps)

pub returns : goal.returns
returns c = grind (arith, common_steps)
