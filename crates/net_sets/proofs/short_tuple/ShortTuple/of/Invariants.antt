use Rattle.std.specs.Prelude.{◌≡◌, ◌≤◌, length, take}
use Rattle.net_sets.proofs.short_tuple.ShortTuple.of.Given as goal

abbrev pub invariant-loop-member : goal.invariant-loop-member
invariant-loop-member g l = record { taken : l.members.items ≡ take l.member-index l.member-items; fits : length l.member-items ≤ g.row.N }
