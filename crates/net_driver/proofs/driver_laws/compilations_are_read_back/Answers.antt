use Rattle.net_driver.proofs.Accepted.{read_back}
use Rattle.net_driver.proofs.driver_laws.compilations_are_read_back.Goals as goal

pub returns : goal.returns
returns c = record { value = read_back }
