use Rattle.std.specs.Prelude.{◌≡◌, drop}
use Rattle.net_bind.specs.ParameterViews.{named_of}
use Rattle.net_bind.specs.Rows.{across}
use Rattle.net_bind.proofs.param_data.across.Given as goal

abbrev pub invariant-loop-place : goal.invariant-loop-place
invariant-loop-place l = across (named_of l.fn.parameter) l.fn.heading.transposed l.fn.row (drop l.place l.fn.heading.columns.items) (drop l.place l.fn.cells) l.values ≡ across (named_of l.fn.parameter) l.fn.heading.transposed l.fn.row l.fn.heading.columns.items l.fn.cells l.fn.values
