use Rattle.std.specs.Prelude.{◌≡◌, [], drop, reverse}
use Rattle.net_expr.specs.RowLists.{bound_to}
use Rattle.net_expr.proofs.scope.Scope.of_dummies.Given as goal

abbrev pub invariant-loop-place : goal.invariant-loop-place
invariant-loop-place l = bound_to (drop l.place l.names) (drop l.place l.members) (reverse l.bindings.items) ≡ bound_to l.names l.members []
