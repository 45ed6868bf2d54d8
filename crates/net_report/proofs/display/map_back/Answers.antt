use Rattle.std.proofs.Common.{arith}
use Rattle.std.proofs.lemmas.Grind.{common_steps}
use Rattle.net_report.proofs.display.map_back.Goals as goal

pub loop-arc-preserved : goal.loop-arc-preserved
loop-arc-preserved c = grind (arith, common_steps)

pub bounds-number-items-arc : goal.bounds-number-items-arc
bounds-number-items-arc c = grind (arith, common_steps)

pub loop-arc-init : goal.loop-arc-init
loop-arc-init c = grind (arith, common_steps)

pub number_of-requires-clause-offset : goal.number_of-requires-clause-offset
number_of-requires-clause-offset c = grind (arith, common_steps)

pub index-requires : goal.index-requires
index-requires c = grind (arith, common_steps)

pub returns : goal.returns
returns c = grind (arith, common_steps)

pub number_of-requires-clause-flow : goal.number_of-requires-clause-flow
number_of-requires-clause-flow c = grind (arith, common_steps)

pub offset_bounds-number-items-arc : goal.offset_bounds-number-items-arc
offset_bounds-number-items-arc c = grind (arith, common_steps)
