use Rattle.std.proofs.Common.{◌≡◌, ◌++◌, drop}
use Rattle.net_expr.specs.Rows.{keys_of}
use Rattle.net_report.specs.Displays.{key_rows}
use Rattle.net_report.proofs.display.push_rows.Given as goal

abbrev pub invariant-loop-place : goal.invariant-loop-place
invariant-loop-place l = l.text.items ++ key_rows (drop l.place (keys_of l.rows)) (drop l.place l.numbers) ≡ l.fn.text.items ++ key_rows (keys_of l.rows) l.numbers
