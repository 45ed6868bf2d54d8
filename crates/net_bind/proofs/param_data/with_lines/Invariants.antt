use Rattle.std.specs.Prelude.{◌≡◌, drop}
use Rattle.net_base.specs.Outcomes.{each}
use Rattle.net_bind.specs.ParameterViews.{named_of}
use Rattle.net_bind.specs.Rows.{with_line}
use Rattle.net_bind.proofs.param_data.with_lines.Given as goal

abbrev pub invariant-loop-line : goal.invariant-loop-line
invariant-loop-line l = each (with_line (named_of l.fn.parameter) l.fn.grid.transposed l.fn.grid.columns) (drop l.line-index l.fn.lines) l.values ≡ each (with_line (named_of l.fn.parameter) l.fn.grid.transposed l.fn.grid.columns) l.fn.lines l.fn.values
