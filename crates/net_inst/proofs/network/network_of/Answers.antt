use Rattle.std.proofs.Common.{arith}
use Rattle.std.proofs.lemmas.Grind.{common_steps}
use Rattle.net_inst.proofs.network.network_of.Goals as goal

pub network_on-requires : goal.network_on-requires
network_on-requires c = grind (arith, common_steps)

pub returns : goal.returns
returns c = grind (arith, common_steps)
