use Rattle.std.proofs.Common.{arith}
use Rattle.net_tree.proofs.Views.{views}
use Rattle.net_model.proofs.Making.{makings}
use Rattle.net_model.proofs.expressions.indexed.Goals as goal

pub returns-clause-value : goal.returns-clause-value
returns-clause-value c = grind (arith, views, makings)

pub returns-clause-shorter : goal.returns-clause-shorter
returns-clause-shorter c = grind (arith)
