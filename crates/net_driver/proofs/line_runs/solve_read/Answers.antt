use Rattle.net_driver.proofs.line_runs.solve_read.Goals as goal

pub returns-clause-value : goal.returns-clause-value
returns-clause-value c = λ text known. c.in_ok-answer.ensures text (c.in-Ok.ensures.ok text known)
