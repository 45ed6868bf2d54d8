use Rattle.std.specs.Prelude.{◌≡◌, ◌≤◌, take, map}
use Rattle.net_bind.specs.Cells.{member_in}
use Rattle.net_bind.proofs.cell.tuple_in.Given as goal

abbrev pub invariant-loop-cell : goal.invariant-loop-cell
invariant-loop-cell l = record {
  taken : l.tuple ≡ map member_in (take l.cell-index l.cells);
  few : l.cell-index ≤ 4;
}
