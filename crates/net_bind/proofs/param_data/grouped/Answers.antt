use Rattle.std.proofs.Common.{arith}
use Rattle.std.proofs.lemmas.Grind.{common_steps}
use Rattle.net_bind.proofs.param_data.grouped.Goals as goal

pub returns-then-is_doubled : goal.returns-then-is_doubled
returns-then-is_doubled c = grind (arith, common_steps)

pub returns : goal.returns
returns c = grind (arith, common_steps)
