use Rattle.std.proofs.Common.{arith}
use Rattle.std.proofs.lemmas.Grind.{common_steps}
use Rattle.net_driver.proofs.Reading.{short_certificate}
use Rattle.net_driver.proofs.checking.certificate_of.Goals as goal

pub returns-in-Ok-clause-ok : goal.returns-in-Ok-clause-ok
returns-in-Ok-clause-ok c = grind (arith, common_steps, short_certificate)

pub returns-in-Err-clause-rejected : goal.returns-in-Err-clause-rejected
returns-in-Err-clause-rejected c = grind (arith, common_steps, short_certificate)
