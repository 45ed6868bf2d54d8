use Rattle.std.specs.Prelude.{drop}
use Rattle.std.specs.List.{AllByRecursion}
use Rattle.net_expr.specs.Worlds.{World}
use Rattle.net_bind.specs.FromData.{Fits}
use Rattle.net_bind.specs.ParameterViews.{parameter_of}
use Rattle.net_bind.proofs.from_data.all_fit.Given as goal

abbrev pub invariant-loop-row : goal.invariant-loop-row
invariant-loop-row l =
    (w : World) → AllByRecursion (λ row. Fits w (parameter_of l.fn.parameter) row.1) (drop l.row l.fn.table) → AllByRecursion (λ row. Fits w (parameter_of l.fn.parameter) row.1) l.fn.table
