use Rattle.std.proofs.Common.{arith}
use Rattle.std.proofs.lemmas.Grind.{common_steps}
use Rattle.net_inst.proofs.network.end_of.Goals as goal

pub offset_bounds-declarations-declaration-index : goal.offset_bounds-declarations-declaration-index
offset_bounds-declarations-declaration-index c = grind (arith, common_steps)

pub returns : goal.returns
returns c = grind (arith, common_steps)

pub loop-declaration-preserved : goal.loop-declaration-preserved
loop-declaration-preserved c = grind (arith, common_steps)
