use Rattle.std.proofs.Common.{◌≡◌, ℕ, ◌<◌, get_or, pos}
use Rattle.net_solve.proofs.ending.is_balanced.Given as goal

abbrev pub invariant-loop-amount : goal.invariant-loop-amount
invariant-loop-amount l = (v : ℕ) → v < l.amount-index → get_or l.excess v (pos 0) ≡ pos 0
