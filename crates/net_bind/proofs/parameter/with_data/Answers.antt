use Rattle.std.proofs.Common.{arith}
use Rattle.std.proofs.lemmas.Grind.{common_steps}
use Rattle.net_bind.proofs.parameter.with_data.Goals as goal

pub returns-in_err-filled : goal.returns-in_err-filled
returns-in_err-filled c = grind (arith, common_steps)

pub filled-requires : goal.filled-requires
filled-requires c = grind (arith, common_steps)

pub returns : goal.returns
returns c = grind (arith)
