use Rattle.net_inst.proofs.Feasible.{have_feasible, have_assignments}
use Rattle.net_inst.proofs.inst_laws.assignments_are_alike.Goals as goal

pub returns : goal.returns
returns c = record { feasible = have_feasible; each = have_assignments }
