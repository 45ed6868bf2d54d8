use Rattle.std.proofs.Common.{◌≡◌, ℕ, ◌<◌, ◌≤◌, get_or, pos}
use Rattle.net_solve.specs.Pseudoflows.{arc_at}
use Rattle.net_solve.specs.Runs.{Saturates, factor, reduced}
use Rattle.net_solve.specs.Machines.{IsCarried}
use Rattle.net_solve.proofs.carried.Carried.saturate_all.Given as goal

abbrev pub invariant-loop-index : goal.invariant-loop-index
invariant-loop-index l =
    record {
      carried : IsCarried l.problem l.self.flows.items l.self.excess.items;
      done : (k : ℕ) → k < l.index → Saturates (reduced (factor l.problem) l.potentials (arc_at l.problem k)) (arc_at l.problem k) (get_or l.fn.self.flows.items k (pos 0)) (get_or l.self.flows.items k (pos 0));
      left : (k : ℕ) → l.index ≤ k → get_or l.self.flows.items k (pos 0) ≡ get_or l.fn.self.flows.items k (pos 0);
    }
