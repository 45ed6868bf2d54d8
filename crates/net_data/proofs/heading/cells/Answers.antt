use Rattle.std.proofs.Common.{arith}
use Rattle.std.proofs.lemmas.Grind.{common_steps}
use Rattle.net_data.specs.Reading.{cells}
use Rattle.net_data.proofs.heading.cells.Goals as goal

pub returns-clause-value : goal.returns-clause-value
unfolding cells
returns-clause-value c = grind (arith, common_steps)

pub returns-clause-shorter : goal.returns-clause-shorter
unfolding cells
returns-clause-shorter c = grind (arith, common_steps)
