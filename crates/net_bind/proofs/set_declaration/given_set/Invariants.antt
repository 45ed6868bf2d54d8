use Rattle.std.specs.Prelude.{◌≡◌, drop}
use Rattle.net_base.specs.Outcomes.{each}
use Rattle.net_bind.specs.SetData.{with_statement, given_set}
use Rattle.net_bind.proofs.set_declaration.given_set.Given as goal

abbrev pub invariant-loop-named : goal.invariant-loop-named
invariant-loop-named l = each (with_statement l.fn.earlier.widths.now l.fn.dimension l.fn.is_assigned) (drop l.named-index l.fn.named_data) l.found ≡ given_set l.fn.earlier.widths.now l.fn.dimension l.fn.is_assigned l.fn.named_data
