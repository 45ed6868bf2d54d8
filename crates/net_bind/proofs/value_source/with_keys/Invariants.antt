use Rattle.std.specs.Prelude.{◌≡◌, drop, option_map}
use Rattle.std.specs.Option.{option_copied}
use Rattle.net_tree.specs.View.{tree}
use Rattle.net_base.specs.Outcomes.{each}
use Rattle.net_bind.specs.BoundParameters.{with_key}
use Rattle.net_bind.proofs.value_source.with_keys.Given as goal

abbrev pub invariant-loop-place : goal.invariant-loop-place
invariant-loop-place l = each (with_key l.fn.env l.fn.source.declared_at (option_map tree (option_copied l.fn.source.expr), option_copied l.fn.source.word)) (drop l.place l.fn.rows) l.table ≡ each (with_key l.fn.env l.fn.source.declared_at (option_map tree (option_copied l.fn.source.expr), option_copied l.fn.source.word)) l.fn.rows l.fn.table
