use Rattle.std.proofs.Common.{◌≡◌}
use Rattle.std.specs.Prelude.{take}
use Rattle.net_sets.specs.Forms.{AreShort}
use Rattle.net_sets.proofs.tuple_store.TupleStore.shorts.Given as goal

abbrev pub invariant-loop-position : goal.invariant-loop-position
invariant-loop-position g l = (l.all.keys ≡ take l.position l.self) × AreShort g.row.N (take l.position l.self)
