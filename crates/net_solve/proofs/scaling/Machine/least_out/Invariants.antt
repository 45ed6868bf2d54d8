use Rattle.std.proofs.Common.{ℕ, ◌<◌, ◌≤◌, get_or, pos}
use Rattle.net_solve.specs.Rows.{IsScanned, entry_at}
use Rattle.net_solve.proofs.scaling.Machine.least_out.Given as goal

abbrev pub invariant-loop-place : goal.invariant-loop-place
invariant-loop-place l = (p : ℕ) → l.first ≤ p → p < l.place → IsScanned l.self.carried.flows.items l.self.potentials.items (get_or l.self.potentials.items l.node (pos 0)) l.least (entry_at l.rows.entries.items p)
