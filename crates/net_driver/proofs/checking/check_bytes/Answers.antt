use Rattle.std.proofs.Common.{arith}
use Rattle.std.proofs.lemmas.Grind.{common_steps}
use Rattle.net_driver.proofs.Reading.{may_be}
use Rattle.net_driver.proofs.checking.check_bytes.Goals as goal

pub returns-clause-value : goal.returns-clause-value
returns-clause-value c = c.judge.ensures.value c.args.problem.now c.in-Ok.ensures.ok

pub returns-clause-rejected : goal.returns-clause-rejected
returns-clause-rejected c = c.judge.ensures.rejected c.args.problem.now c.in-Ok.ensures.ok

pub returns-in-Err-clause-rejected : goal.returns-in-Err-clause-rejected
returns-in-Err-clause-rejected c = grind (arith, common_steps)

pub returns-clause-memory : goal.returns-clause-memory
returns-clause-memory c = λ lacks. may_be c.args.problem.now c.in-Ok.network c.in-Ok.ensures.ok
