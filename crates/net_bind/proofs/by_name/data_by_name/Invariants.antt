use Rattle.std.specs.Prelude.{◌≡◌, drop}
use Rattle.net_base.specs.Outcomes.{each}
use Rattle.net_bind.specs.DataByName.{data_by_name, in_statement}
use Rattle.net_bind.proofs.by_name.data_by_name.Given as goal

abbrev pub invariant-loop-statement : goal.invariant-loop-statement
invariant-loop-statement l = each (in_statement l.fn.names) (drop l.statement-index l.fn.statements) l.all.items ≡ data_by_name l.fn.names l.fn.statements
