use Rattle.std.specs.Prelude.{◌≡◌, take, map}
use Rattle.net_bind.proofs.cell_group.keys_of.Given as goal

abbrev pub invariant-loop-group : goal.invariant-loop-group
invariant-loop-group l = l.all.items ≡ map (take l.fn.keys) (take l.group-index l.fn.groups)
