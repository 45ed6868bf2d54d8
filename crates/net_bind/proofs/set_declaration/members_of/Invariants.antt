use Rattle.std.specs.Prelude.{◌≡◌, drop, []}
use Rattle.net_base.specs.Outcomes.{each}
use Rattle.net_bind.specs.SetData.{with_member}
use Rattle.net_bind.proofs.set_declaration.members_of.Given as goal

abbrev pub invariant-loop-row : goal.invariant-loop-row
invariant-loop-row l = each (with_member l.fn.word) (drop l.row-index l.fn.rows) l.set ≡ each (with_member l.fn.word) l.fn.rows []
