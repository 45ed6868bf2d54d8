use Rattle.std.specs.Prelude.{◌≡◌, map, take}
use Rattle.net_expr.specs.RowLists.{row_of}
use Rattle.net_expr.proofs.row_list.of_made.Given as goal

abbrev pub invariant-loop-row : goal.invariant-loop-row
invariant-loop-row l = map (row_of l.dummies.items) l.keys ≡ take l.row-index l.rows
