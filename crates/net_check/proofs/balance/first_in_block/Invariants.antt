use Rattle.std.proofs.Common.{ℕ, ◌<◌}
use Rattle.net_check.specs.FirstFaults.{NodeKeeps}
use Rattle.net_check.proofs.balance.first_in_block.Given as goal

abbrev pub invariant-loop-node : goal.invariant-loop-node
invariant-loop-node g l = (k : ℕ) → k < l.node → NodeKeeps l.problem l.flows k
