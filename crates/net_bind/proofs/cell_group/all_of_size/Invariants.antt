use Rattle.std.specs.Prelude.{◌≡◌, drop}
use Rattle.net_bind.specs.SetData.{all_of_size}
use Rattle.net_bind.proofs.cell_group.all_of_size.Given as goal

abbrev pub invariant-loop-row : goal.invariant-loop-row
invariant-loop-row l = all_of_size l.fn.at l.fn.size (drop l.row-index l.fn.rows) ≡ all_of_size l.fn.at l.fn.size l.fn.rows
