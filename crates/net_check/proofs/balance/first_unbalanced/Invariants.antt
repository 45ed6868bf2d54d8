use Rattle.std.proofs.Common.{ℕ, ◌<◌, ◌-◌, vec_len}
use Rattle.net_check.specs.FirstFaults.{NodeKeeps}
use Rattle.net_check.proofs.balance.first_unbalanced.Given as goal

abbrev pub invariant-loop-first : goal.invariant-loop-first
invariant-loop-first l = (k : ℕ) → k < l.first → NodeKeeps l.problem l.flows k

abbrev pub decreases-loop-first : goal.decreases-loop-first
decreases-loop-first l = vec_len l.problem.supplies - l.first
