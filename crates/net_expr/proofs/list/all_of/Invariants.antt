use Rattle.std.specs.Prelude.{◌≡◌, drop}
use Rattle.net_expr.specs.Rows.{all_of}
use Rattle.net_expr.proofs.list.all_of.Given as goal

abbrev pub invariant-loop-tuple : goal.invariant-loop-tuple
invariant-loop-tuple l = all_of l.size (drop l.tuple-index l.tuples) ≡ all_of l.fn.size l.fn.tuples
