use Rattle.std.specs.Prelude.{◌≡◌, drop}
use Rattle.net_tree.specs.View.{tree}
use Rattle.net_bind.specs.Binding.{hold}
use Rattle.net_bind.proofs.check.hold.Given as goal

abbrev pub invariant-loop-place : goal.invariant-loop-place
invariant-loop-place l = hold l.fn.env (tree l.fn.condition) (drop l.place l.fn.rows) ≡ hold l.fn.env (tree l.fn.condition) l.fn.rows
