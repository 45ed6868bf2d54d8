use Rattle.std.specs.Prelude.{◌≡◌, take}
use Rattle.net_expr.specs.Rows.{rows_of}
use Rattle.net_expr.proofs.list.rows_of.Given as goal

abbrev pub invariant-loop-place : goal.invariant-loop-place
invariant-loop-place l = l.all.items ≡ rows_of l.scope (take l.place l.set)
