use Rattle.std.specs.Prelude.{◌≡◌, drop, None}
use Rattle.net_expr.specs.Worlds.{key_count}
use Rattle.net_base.specs.Outcomes.{each}
use Rattle.net_bind.specs.ParameterViews.{parameter_of}
use Rattle.net_bind.specs.Rows.{with_statement}
use Rattle.net_bind.proofs.param_data.data_of.Given as goal

abbrev pub invariant-loop-named : goal.invariant-loop-named
invariant-loop-named l = each (with_statement l.fn.widths (parameter_of l.fn.parameter) (key_count l.fn.parameter.keys) l.fn.is_assigned) (drop l.named-index l.fn.named_data) (l.values, l.default) ≡ each (with_statement l.fn.widths (parameter_of l.fn.parameter) (key_count l.fn.parameter.keys) l.fn.is_assigned) l.fn.named_data (l.fn.values, None)
