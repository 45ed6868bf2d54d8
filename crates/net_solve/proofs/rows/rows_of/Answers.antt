use Rattle.std.proofs.Common.{arith}
use Rattle.net_solve.proofs.rows.rows_of.Goals as goal

pub entry_of-requires : goal.entry_of-requires
entry_of-requires c = grind (arith)

pub entry_of-requires-in-loop-index : goal.entry_of-requires-in-loop-index
entry_of-requires-in-loop-index c = grind (arith)

pub index-arc-requires : goal.index-arc-requires
index-arc-requires c = grind (arith)

pub overflow_cast-arc : goal.overflow_cast-arc
overflow_cast-arc c = grind (arith)

pub overflow_cast-arc-in-loop-index : goal.overflow_cast-arc-in-loop-index
overflow_cast-arc-in-loop-index c = grind (arith)

pub overflow_cast-index : goal.overflow_cast-index
overflow_cast-index c = grind (arith)

pub overflow_cast-index-in-loop-index : goal.overflow_cast-index-in-loop-index
overflow_cast-index-in-loop-index c = grind (arith)

pub returns : goal.returns
returns c = grind (arith)
