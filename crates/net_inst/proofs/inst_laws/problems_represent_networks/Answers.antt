use Rattle.net_inst.proofs.SoundProblems.{problems_represent}
use Rattle.net_inst.proofs.inst_laws.problems_represent_networks.Goals as goal

pub returns : goal.returns
returns c = record { value = problems_represent }
