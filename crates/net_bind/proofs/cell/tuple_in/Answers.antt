use Rattle.std.proofs.Common.{rules, arith}
use Rattle.std.proofs.lemmas.Grind.{common_steps}
use Rattle.net_bind.proofs.Cells.{whole, full}
use Rattle.net_bind.proofs.cell.tuple_in.Goals as goal

pub returns-then-not-has_room : goal.returns-then-not-has_room
returns-then-not-has_room c = search (rules, arith, full c.loop-cell.cell-index c.args.cells.now c.loop-cell.tuple c.loop-cell.invariant.taken)

pub returns : goal.returns
returns c = search (rules, arith, whole c.loop-cell.cell-index c.args.cells.now c.loop-cell.tuple c.loop-cell.invariant.taken)

pub loop-cell-preserved : goal.loop-cell-preserved
loop-cell-preserved c = grind (arith, common_steps)

pub add-requires : goal.add-requires
add-requires c = grind (arith, common_steps)
