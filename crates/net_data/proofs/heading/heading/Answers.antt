use Rattle.std.proofs.Common.{arith}
use Rattle.std.proofs.lemmas.Grind.{common_steps}
use Rattle.net_data.specs.Reading.{heading}
use Rattle.net_data.proofs.heading.heading.Goals as goal

pub returns-clause-value : goal.returns-clause-value
unfolding heading
returns-clause-value c = grind (arith, common_steps)

pub returns-clause-shorter : goal.returns-clause-shorter
unfolding heading
returns-clause-shorter c = grind (arith, common_steps)
