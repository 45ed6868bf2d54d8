use Rattle.std.proofs.Common.{arith}
use Rattle.std.proofs.lemmas.Grind.{common_steps}
use Rattle.net_model.specs.Reading.{expect}
use Rattle.net_model.proofs.token_cursor.expect.Goals as goal

pub returns-in-Some-clause-shorter : goal.returns-in-Some-clause-shorter
unfolding expect
returns-in-Some-clause-shorter c = grind (arith, common_steps)
