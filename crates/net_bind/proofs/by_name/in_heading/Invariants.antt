use Rattle.std.specs.Prelude.{◌≡◌, drop, length}
use Rattle.net_bind.specs.DataByName.{headed}
use Rattle.net_bind.proofs.by_name.in_heading.Given as goal

abbrev pub invariant-loop-place : goal.invariant-loop-place
invariant-loop-place l = headed l.fn.names l.fn.leader (length l.fn.columns.names) l.fn.columns.cells l.place (drop l.place l.fn.columns.names) l.all.items
    ≡ headed l.fn.names l.fn.leader (length l.fn.columns.names) l.fn.columns.cells 0 l.fn.columns.names l.fn.all.items
