use Rattle.std.specs.Prelude.{◌≡◌, drop}
use Rattle.net_bind.specs.BoundParameters.{fit_values}
use Rattle.net_bind.specs.ParameterViews.{parameter_of, values_of}
use Rattle.net_bind.proofs.parameter.fit_values.Given as goal

abbrev pub invariant-loop-place : goal.invariant-loop-place
invariant-loop-place l = fit_values l.fn.env (parameter_of l.fn.parameter) (values_of l.fn.values) (drop l.place l.fn.rows) ≡ fit_values l.fn.env (parameter_of l.fn.parameter) (values_of l.fn.values) l.fn.rows
