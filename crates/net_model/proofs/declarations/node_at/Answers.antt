use Rattle.std.proofs.Common.{arith}
use Rattle.net_model.specs.Declarations.{node_at}
use Rattle.net_model.proofs.declarations.node_at.Goals as goal

pub returns-clause-shorter : goal.returns-clause-shorter
returns-clause-shorter c = grind (arith)

pub returns-clause-value : goal.returns-clause-value
unfolding node_at
returns-clause-value c = grind (arith)
