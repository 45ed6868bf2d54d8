use Rattle.std.proofs.Common.{arith}
use Rattle.std.proofs.lemmas.Grind.{common_steps}
use Rattle.net_check.proofs.checker.check_cut.Goals as goal

pub returns-clause-no : goal.returns-clause-no
returns-clause-no c = grind (arith, common_steps)

pub returns-then-not-is_violated-clause-yes : goal.returns-then-not-is_violated-clause-yes
returns-then-not-is_violated-clause-yes c = grind (arith, common_steps)

pub returns-then-flags-len-clause-yes : goal.returns-then-flags-len-clause-yes
returns-then-flags-len-clause-yes c = grind (arith, common_steps)

pub returns-then-flags-len-clause-no : goal.returns-then-flags-len-clause-no
returns-then-flags-len-clause-no c = grind (arith, common_steps)

pub returns-then-not-is_violated-clause-no : goal.returns-then-not-is_violated-clause-no
returns-then-not-is_violated-clause-no c = grind (arith, common_steps)

pub returns-clause-yes : goal.returns-clause-yes
returns-clause-yes c = grind (arith, common_steps)
