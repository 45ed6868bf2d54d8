use Rattle.std.specs.Prelude.{◌≡◌, ◌-◌, length, take, reverse}
use Rattle.net_expr.specs.Worlds.{bound}
use Rattle.net_expr.proofs.scope.Scope.get.Given as goal

abbrev pub invariant-loop-newer : goal.invariant-loop-newer
invariant-loop-newer l = bound (reverse (take (length l.bindings - l.newer) l.bindings)) l.fn.name ≡ bound l.fn.self l.fn.name
