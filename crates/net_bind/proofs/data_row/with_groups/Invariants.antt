use Rattle.std.specs.Prelude.{◌≡◌, drop}
use Rattle.net_base.specs.Outcomes.{each}
use Rattle.net_bind.specs.ParameterViews.{named_of}
use Rattle.net_bind.specs.Rows.{with_group}
use Rattle.net_bind.proofs.data_row.with_groups.Given as goal

abbrev pub invariant-loop-group : goal.invariant-loop-group
invariant-loop-group l = each (with_group (named_of l.fn.parameter) l.fn.size l.fn.place) (drop l.group-index l.fn.groups) l.values ≡ each (with_group (named_of l.fn.parameter) l.fn.size l.fn.place) l.fn.groups l.fn.values
