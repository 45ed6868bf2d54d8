use Rattle.std.proofs.Common.{arith}
use Rattle.std.proofs.lemmas.Grind.{common_steps}
use Rattle.net_names.proofs.declaration_names.check_body.Goals as goal

pub returns-in-Valued-clause-kept : goal.returns-in-Valued-clause-kept
returns-in-Valued-clause-kept c = grind (arith, common_steps)

pub returns-in-Valued-clause-value : goal.returns-in-Valued-clause-value
returns-in-Valued-clause-value c = grind (arith, common_steps)

pub returns-in-Plain-clause-value : goal.returns-in-Plain-clause-value
returns-in-Plain-clause-value c = grind (arith, common_steps)

pub returns-in_ok-check_name-in-Priced-clause-value : goal.returns-in_ok-check_name-in-Priced-clause-value
returns-in_ok-check_name-in-Priced-clause-value c = grind (arith, common_steps)

pub returns-in_ok-check_name-in-Priced-clause-kept : goal.returns-in_ok-check_name-in-Priced-clause-kept
returns-in_ok-check_name-in-Priced-clause-kept c = grind (arith, common_steps)
