use Rattle.net_driver.proofs.Existence.{one_of_both}
use Rattle.net_driver.proofs.driver_laws.one_of_network_and_error.Goals as goal

pub returns : goal.returns
returns c = record { value = one_of_both }
