use Rattle.net_inst.proofs.Written.{have_exact_ranges}
use Rattle.net_inst.proofs.inst_laws.ranges_are_conditions.Goals as goal

pub returns : goal.returns
returns c = record { value = have_exact_ranges }
