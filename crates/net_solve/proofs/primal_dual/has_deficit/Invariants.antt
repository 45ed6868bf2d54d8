use Rattle.std.proofs.Common.{ℕ, ◌<◌, pos, ◌≤ℤ◌, get_or}
use Rattle.net_solve.proofs.primal_dual.has_deficit.Given as goal

abbrev pub invariant-loop-amount : goal.invariant-loop-amount
invariant-loop-amount l = (v : ℕ) → v < l.amount-index → pos 0 ≤ℤ get_or l.excess v (pos 0)
