use Rattle.std.proofs.Common.{arith}
use Rattle.std.proofs.lemmas.Grind.{common_steps}
use Rattle.net_driver.proofs.Reading.{short_problem}
use Rattle.net_driver.proofs.problem_source.finished.Goals as goal

pub returns-in-Ok-clause-ok : goal.returns-in-Ok-clause-ok
returns-in-Ok-clause-ok c = λ text known.
    record { short = short_problem text _ (c.in-Ok.ensures.value text known); is = c.in-Ok.ensures.ok text known; only = c.in-Ok.ensures.only text known }

pub returns-in-Err-clause-rejected : goal.returns-in-Err-clause-rejected
returns-in-Err-clause-rejected c = grind (arith, common_steps)
