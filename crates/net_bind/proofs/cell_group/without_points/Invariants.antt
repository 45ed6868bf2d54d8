use Rattle.std.specs.Prelude.{◌≡◌, drop}
use Rattle.net_bind.specs.SetData.{without_points}
use Rattle.net_bind.proofs.cell_group.without_points.Given as goal

abbrev pub invariant-loop-cell : goal.invariant-loop-cell
invariant-loop-cell l = without_points (drop l.cell-index l.fn.key) ≡ without_points l.fn.key
