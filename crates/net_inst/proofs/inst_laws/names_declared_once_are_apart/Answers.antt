use Rattle.net_inst.proofs.KeysOnce.{are_distinct_in_sets}
use Rattle.net_inst.proofs.Once.{are_distinct_as_declared}
use Rattle.net_inst.proofs.inst_laws.names_declared_once_are_apart.Goals as goal

pub returns : goal.returns
returns c = record { value = are_distinct_as_declared; sets = are_distinct_in_sets }
