use Rattle.std.specs.Prelude.{◌≡◌, [], drop, reverse, take}
use Rattle.net_expr.specs.RowLists.{bound_to}
use Rattle.net_expr.proofs.scope.Scope.binds.Given as goal

abbrev pub invariant-loop-place : goal.invariant-loop-place
invariant-loop-place l = bound_to (drop l.place l.names) (drop l.place l.members) (reverse (take l.place l.bindings)) ≡ bound_to l.names l.members []
