use Rattle.net_driver.proofs.OneNetwork.{one_network}
use Rattle.net_driver.proofs.driver_laws.models_have_one_network.Goals as goal

pub returns : goal.returns
returns c = record { value = one_network }
