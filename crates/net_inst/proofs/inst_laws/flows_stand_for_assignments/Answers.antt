use Rattle.net_inst.proofs.Corresponding.{correspond_as_written}
use Rattle.net_inst.proofs.inst_laws.flows_stand_for_assignments.Goals as goal

pub returns : goal.returns
returns c = record { value = correspond_as_written }
