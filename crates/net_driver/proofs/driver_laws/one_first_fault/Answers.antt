use Rattle.net_driver.proofs.OneFault.{one_first_fault, one_network}
use Rattle.net_driver.proofs.driver_laws.one_first_fault.Goals as goal

pub returns : goal.returns
returns c = record { fault = one_first_fault; network = one_network }
