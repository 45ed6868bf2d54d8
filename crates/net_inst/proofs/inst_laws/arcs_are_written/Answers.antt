use Rattle.net_inst.proofs.Written.{have_bounds, have_ends}
use Rattle.net_inst.proofs.inst_laws.arcs_are_written.Goals as goal

pub returns : goal.returns
returns c = record { bounds = have_bounds; ends = have_ends }
