use Rattle.std.proofs.Common.{arith}
use Rattle.std.proofs.lemmas.Grind.{common_steps}
use Rattle.net_model.specs.Declarations.{declaration_at}
use Rattle.net_model.proofs.declarations.declaration_at.Goals as goal

pub returns-in-Declaration-clause-value : goal.returns-in-Declaration-clause-value
unfolding declaration_at
returns-in-Declaration-clause-value c = grind (arith, common_steps)

pub returns-in_default-role : goal.returns-in_default-role
unfolding declaration_at
returns-in_default-role c = grind (arith, common_steps)

pub returns-in_default-clause-value : goal.returns-in_default-clause-value
unfolding declaration_at
returns-in_default-clause-value c = grind (arith, common_steps)

pub returns-in-Declaration-clause-shorter : goal.returns-in-Declaration-clause-shorter
unfolding declaration_at
returns-in-Declaration-clause-shorter c = grind (arith, common_steps)
