use Rattle.std.proofs.Common.{ℕ, ◌<◌}
use Rattle.net_solve.specs.Rows.{IsEntry, entry_at}
use Rattle.net_solve.proofs.row_tests.are_entries.Given as goal

abbrev pub invariant-loop-entry : goal.invariant-loop-entry
invariant-loop-entry l = (place : ℕ) → place < l.entry-index → IsEntry l.problem (entry_at l.entries place)
