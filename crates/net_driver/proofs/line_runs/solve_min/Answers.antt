use Rattle.net_driver.proofs.Reading.{may_be}
use Rattle.net_driver.proofs.line_runs.solve_min.Goals as goal

pub returns-clause-value : goal.returns-clause-value
returns-clause-value c = c.in_ok-answer.ensures c.args.problem.now c.in-Ok.ensures.ok

pub returns-in_err-answer-clause-memory : goal.returns-in_err-answer-clause-memory
returns-in_err-answer-clause-memory c = λ lacks. may_be c.args.problem.now c.in-Ok.network c.in-Ok.ensures.ok
