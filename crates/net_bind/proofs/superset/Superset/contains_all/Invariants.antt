use Rattle.std.specs.Prelude.{◌≡◌, drop}
use Rattle.net_sets.specs.Operations.{is_within}
use Rattle.net_bind.proofs.superset.Superset.contains_all.Given as goal

abbrev pub invariant-loop-place : goal.invariant-loop-place
invariant-loop-place l = is_within (drop l.place l.set) l.self ≡ is_within l.fn.set l.fn.self
