use Rattle.std.proofs.Common.{arith}
use Rattle.std.proofs.lemmas.Grind.{common_steps}
use Rattle.net_sets.proofs.Places.{has_place}
use Rattle.net_bind.proofs.data_row.with_key.Goals as goal

pub returns-in_default : goal.returns-in_default
returns-in_default c = grind (arith, common_steps, has_place c.args.key.now 0 c.args.parameter.now.index.now)

pub returns-in_ok-push-in-Ok-true : goal.returns-in_ok-push-in-Ok-true
returns-in_ok-push-in-Ok-true c = grind (arith, common_steps, has_place c.args.key.now 0 c.args.parameter.now.index.now)

pub returns-in-Err-TooMany : goal.returns-in-Err-TooMany
returns-in-Err-TooMany c = grind (arith, common_steps, has_place c.args.key.now 0 c.args.parameter.now.index.now)
