use Rattle.std.specs.Prelude.{◌≡◌, ◌≤◌, drop, length, []}
use Rattle.net_sets.specs.Limits.{tuples_limit}
use Rattle.net_sets.specs.Operations.{union}
use Rattle.net_expr.specs.Rows.{keys_of}
use Rattle.net_expr.proofs.row.key_set.Given as goal

abbrev pub invariant-loop-row : goal.invariant-loop-row
invariant-loop-row l = record {
  goes_on : union l.keys (keys_of (drop l.row-index l.rows)) ≡ union [] (keys_of l.fn.rows);
  few : length l.keys ≤ tuples_limit;
}
