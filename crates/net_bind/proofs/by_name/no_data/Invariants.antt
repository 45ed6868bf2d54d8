use Rattle.std.specs.Prelude.{◌≡◌, take}
use Rattle.net_bind.specs.DataByName.{no_data}
use Rattle.net_bind.proofs.by_name.no_data.Given as goal

abbrev pub invariant-loop-index : goal.invariant-loop-index
invariant-loop-index l = l.all.items ≡ no_data (take l._index l.fn.names)
