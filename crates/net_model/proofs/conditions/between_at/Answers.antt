use Rattle.std.proofs.Common.{arith}
use Rattle.net_model.proofs.conditions.between_at.Goals as goal

pub returns-clause-shorter : goal.returns-clause-shorter
returns-clause-shorter c = grind (arith)

pub returns-clause-value : goal.returns-clause-value
returns-clause-value c = grind (arith)
