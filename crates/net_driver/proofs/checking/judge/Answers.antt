use Rattle.net_driver.proofs.Answering.{certificate_rejection}
use Rattle.net_driver.proofs.checking.judge.Goals as goal

pub returns-clause-value : goal.returns-clause-value
returns-clause-value c = λ problem is. record { problem = c.args.network.now; is_problem = is; certificate = c.in-Ok.claim; is_certificate = c.in-Ok.ensures.ok; yes = c.check.ensures.yes; no = c.check.ensures.no }

pub returns-in-Err-clause-rejected : goal.returns-in-Err-clause-rejected
returns-in-Err-clause-rejected c = λ problem is. certificate_rejection problem c.args.certificate.now c.args.network.now c.in-Err.fault is c.in-Err.ensures.rejected
