use Rattle.std.specs.Prelude.{ℕ, length}
use Rattle.net_bind.specs.SetData.{set_rows}
use Rattle.net_bind.proofs.Items.{AreLeft}
use Rattle.net_bind.proofs.data_item.set_rows.Given as goal

abbrev pub invariant-loop-item : goal.invariant-loop-item
invariant-loop-item l = (turns : ℕ) × AreLeft l.fn.dimension turns l.all.rows.items l.all.alone l.all.left.now l.left (set_rows l.fn.dimension l.fn.members)

abbrev pub decreases-loop-item : goal.decreases-loop-item
decreases-loop-item l = length l.left
