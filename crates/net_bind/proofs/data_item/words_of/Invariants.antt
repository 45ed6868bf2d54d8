use Rattle.std.specs.Prelude.{◌≡◌, ◌≤◌, ◌++◌, ℕ, length}
use Rattle.net_bind.specs.SetData.{words, items_from}
use Rattle.net_bind.proofs.Items.{members}
use Rattle.net_bind.proofs.data_item.words_of.Given as goal

abbrev pub invariant-loop-item : goal.invariant-loop-item
invariant-loop-item l = (turns : ℕ) × (l.all.items ++ members (items_from turns l.left) ≡ words l.fn.members) × (length l.left ≤ turns)

abbrev pub decreases-loop-item : goal.decreases-loop-item
decreases-loop-item l = length l.left
