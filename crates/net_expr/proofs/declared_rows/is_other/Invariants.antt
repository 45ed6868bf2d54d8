use Rattle.std.specs.Prelude.{drop}
use Rattle.net_expr.specs.DeclaredRows.{IsOther}
use Rattle.net_expr.proofs.declared_rows.is_other.Given as goal

abbrev pub invariant-loop-other : goal.invariant-loop-other
invariant-loop-other l = IsOther (drop l.other-index l.names) l.fn.name → IsOther l.fn.names l.fn.name
