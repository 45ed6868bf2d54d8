use Rattle.net_inst.proofs.Agreement.{are_one_network}
use Rattle.net_inst.proofs.inst_laws.network_without_objective_is_one.Goals as goal

pub returns : goal.returns
returns c = record { value = are_one_network }
