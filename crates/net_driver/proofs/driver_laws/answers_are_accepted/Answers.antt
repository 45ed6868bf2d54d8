use Rattle.net_driver.proofs.Accepted.{accepted}
use Rattle.net_driver.proofs.driver_laws.answers_are_accepted.Goals as goal

pub returns : goal.returns
returns c = record { value = accepted }
