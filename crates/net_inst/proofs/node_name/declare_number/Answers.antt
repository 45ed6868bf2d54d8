use Rattle.std.proofs.Common.{arith}
use Rattle.std.proofs.lemmas.Grind.{common_steps}
use Rattle.net_inst.proofs.node_name.declare_number.Goals as goal

pub keys_in-requires : goal.keys_in-requires
keys_in-requires c = grind (arith, common_steps)

pub returns : goal.returns
returns c = grind (arith, common_steps)
