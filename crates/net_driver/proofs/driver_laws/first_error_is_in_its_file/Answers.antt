use Rattle.net_driver.proofs.FaultPlaces.{fault_lies}
use Rattle.net_driver.proofs.driver_laws.first_error_is_in_its_file.Goals as goal

pub returns : goal.returns
returns c = record { value = fault_lies }
