use Rattle.std.specs.Prelude.{◌≡◌, ◌+◌, ◌++◌, length}
use Rattle.net_data.specs.Rows.{groups}
use Rattle.net_bind.specs.SetData.{whole_groups}
use Rattle.net_bind.proofs.cell_group.whole_rows.Given as goal

abbrev pub invariant-loop-left : goal.invariant-loop-left
invariant-loop-left l = record {
  check : whole_groups l.fn.at l.fn.keys (l.fn.keys + l.fn.values) (groups (l.fn.keys + l.fn.values) l.left)
      ≡ whole_groups l.fn.at l.fn.keys (l.fn.keys + l.fn.values) (groups (l.fn.keys + l.fn.values) l.fn.cells);
  rows : l.all.items ++ groups (l.fn.keys + l.fn.values) l.left ≡ groups (l.fn.keys + l.fn.values) l.fn.cells;
}

abbrev pub decreases-loop-left : goal.decreases-loop-left
decreases-loop-left l = length l.left
