use Rattle.net_driver.proofs.OneFault.{read_or_rejected}
use Rattle.net_driver.proofs.driver_laws.read_or_rejected.Goals as goal

pub returns : goal.returns
returns c = record { value = read_or_rejected }
