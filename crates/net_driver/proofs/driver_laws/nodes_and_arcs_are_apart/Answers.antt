use Rattle.net_driver.proofs.Apart.{bound_apart, read_apart}
use Rattle.net_driver.proofs.driver_laws.nodes_and_arcs_are_apart.Goals as goal

pub returns : goal.returns
returns c = record { bound = bound_apart; read = read_apart }
