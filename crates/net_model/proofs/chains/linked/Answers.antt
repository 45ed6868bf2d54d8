use Rattle.std.proofs.Common.{arith}
use Rattle.std.proofs.lemmas.Grind.{common_steps}
use Rattle.net_model.proofs.Making.{link_made}
use Rattle.net_model.proofs.chains.linked.Goals as goal

pub returns-clause-memory : goal.returns-clause-memory
returns-clause-memory c = grind (arith, common_steps, link_made)

pub returns-clause-value : goal.returns-clause-value
returns-clause-value c = grind (arith, link_made)
