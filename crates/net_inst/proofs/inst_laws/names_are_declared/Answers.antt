use Rattle.net_inst.proofs.Written.{have_names}
use Rattle.net_inst.proofs.inst_laws.names_are_declared.Goals as goal

pub returns : goal.returns
returns c = record { value = have_names }
