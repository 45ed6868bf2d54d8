use Rattle.std.specs.Prelude.{◌≡◌, ◌+◌, drop}
use Rattle.net_tree.specs.View.{links_of}
use Rattle.net_expr.specs.Selecting.{selecting_from}
use Rattle.net_expr.proofs.selecting.selecting_after.Given as goal

abbrev pub invariant-loop-place : goal.invariant-loop-place
invariant-loop-place l = selecting_from l.env l.scope (l.place + 1) (links_of (drop l.place l.links)) ≡ selecting_from l.fn.env l.fn.scope 1 (links_of l.fn.links)
