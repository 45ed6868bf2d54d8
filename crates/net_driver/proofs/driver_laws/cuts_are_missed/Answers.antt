use Rattle.net_driver.proofs.MissedCuts.{cuts_are_missed}
use Rattle.net_driver.proofs.driver_laws.cuts_are_missed.Goals as goal

pub returns : goal.returns
returns c = record { value = cuts_are_missed }
