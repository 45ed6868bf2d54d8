use Rattle.net_driver.proofs.NamesOnce.{nodes_once, arcs_once}
use Rattle.net_driver.proofs.driver_laws.names_are_declared_once.Goals as goal

pub returns : goal.returns
returns c = record { nodes = nodes_once; arcs = arcs_once }
