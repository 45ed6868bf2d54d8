use Rattle.std.proofs.Common.{arith}
use Rattle.std.proofs.lemmas.Grind.{common_steps}
use Rattle.net_data.specs.Reading.{set}
use Rattle.net_data.proofs.set_statement.set.Goals as goal

pub returns-clause-shorter : goal.returns-clause-shorter
unfolding set
returns-clause-shorter c = grind (arith, common_steps)

pub returns-clause-value : goal.returns-clause-value
unfolding set
returns-clause-value c = grind (arith, common_steps)
