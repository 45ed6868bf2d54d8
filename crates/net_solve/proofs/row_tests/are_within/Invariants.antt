use Rattle.std.proofs.Common.{ℕ, ◌<◌, ◌≤◌, get_or}
use Rattle.net_solve.proofs.row_tests.are_within.Given as goal

abbrev pub invariant-loop-start : goal.invariant-loop-start
invariant-loop-start l = (v : ℕ) → v < l.start-index → get_or l.starts v 0 ≤ l.entries
