use Rattle.std.specs.Prelude.{◌≡◌, drop, []}
use Rattle.net_expr.specs.Rows.{tuples_in}
use Rattle.net_expr.proofs.list.tuples_in.Given as goal

abbrev pub invariant-loop-value : goal.invariant-loop-value
invariant-loop-value l = tuples_in l.at (drop l.value-index l.values) l.found.items ≡ tuples_in l.fn.at l.fn.values []
