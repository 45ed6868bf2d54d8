use Rattle.std.proofs.Common.{ℕ, ◌<◌}
use Rattle.net_solve.specs.Rows.{IsListed}
use Rattle.net_solve.proofs.row_tests.are_listed.Given as goal

abbrev pub invariant-loop-index : goal.invariant-loop-index
invariant-loop-index l = (i : ℕ) → i < l.index → IsListed l.problem l.rows.starts.items l.rows.entries.items i l.forwards
