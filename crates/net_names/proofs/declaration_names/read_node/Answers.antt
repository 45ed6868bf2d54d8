use Rattle.std.proofs.Common.{arith}
use Rattle.std.proofs.lemmas.Grind.{common_steps}
use Rattle.net_names.proofs.declaration_names.read_node.Goals as goal

pub returns-clause-grown : goal.returns-clause-grown
returns-clause-grown c = grind (arith, common_steps)

pub returns-clause-value : goal.returns-clause-value
returns-clause-value c = grind (arith, common_steps)
