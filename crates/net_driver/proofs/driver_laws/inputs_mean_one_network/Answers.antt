use Rattle.net_driver.proofs.OneMeaning.{one_meaning}
use Rattle.net_driver.proofs.driver_laws.inputs_mean_one_network.Goals as goal

pub returns : goal.returns
returns c = record { value = one_meaning }
