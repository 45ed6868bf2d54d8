use Rattle.std.proofs.Common.{arith}
use Rattle.std.proofs.lemmas.Grind.{common_steps}
use Rattle.net_model.proofs.Making.{makings}
use Rattle.net_model.proofs.chains.chained.Goals as goal

pub returns-then-is_none-clause-value : goal.returns-then-is_none-clause-value
returns-then-is_none-clause-value c = grind (arith, common_steps, makings)

pub returns-clause-value : goal.returns-clause-value
returns-clause-value c = grind (arith, makings)

pub returns-clause-memory : goal.returns-clause-memory
returns-clause-memory c = grind (arith, makings)
