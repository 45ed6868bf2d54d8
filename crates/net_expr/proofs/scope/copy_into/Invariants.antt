use Rattle.std.specs.Prelude.{◌≡◌, ◌++◌, take}
use Rattle.net_expr.proofs.scope.copy_into.Given as goal

abbrev pub invariant-loop-binding : goal.invariant-loop-binding
invariant-loop-binding l = l.copies.items ≡ l.fn.copies.items ++ take l.binding-index l.bindings
