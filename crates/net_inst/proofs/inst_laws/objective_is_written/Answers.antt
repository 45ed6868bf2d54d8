use Rattle.net_inst.proofs.Aiming.{have_objective}
use Rattle.net_inst.proofs.inst_laws.objective_is_written.Goals as goal

pub returns : goal.returns
returns c = record { value = have_objective }
