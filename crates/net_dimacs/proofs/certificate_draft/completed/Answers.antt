use Rattle.std.proofs.Common.{arith}
use Rattle.std.proofs.lemmas.Grind.{common_steps}
use Rattle.net_dimacs.proofs.certificate_draft.completed.Goals as goal

pub returns-in_ok-with_absent-in-Cut-clause-value : goal.returns-in_ok-with_absent-in-Cut-clause-value
returns-in_ok-with_absent-in-Cut-clause-value c = grind (arith, common_steps)

pub returns-then-len-clause-value : goal.returns-then-len-clause-value
returns-then-len-clause-value c = grind (arith, common_steps)
