use Rattle.std.proofs.Common.{◌≡◌, ◌≤◌}
use Rattle.net_solve.specs.Pseudoflows.{IsUnderWay, too_much}
use Rattle.net_solve.specs.Forests.{IsWalk}
use Rattle.net_solve.proofs.pseudoflow.Pseudoflow.pull.Given as goal

abbrev pub invariant-up : goal.invariant-up
invariant-up l =
    record {
      under_way : IsUnderWay l.problem l.self.flows.items l.self.potentials.items l.self.excess.items;
      potentials : l.self.potentials.items ≡ l.fn.self.potentials.items;
      walk : IsWalk l.problem l.fn.self.flows.items l.self.flows.items l.fn.self.excess.items l.self.excess.items l.all l.place;
      measure : too_much l.self.excess.items ≤ too_much l.fn.self.excess.items;
    }

abbrev pub decreases-up : goal.decreases-up
decreases-up l = l.place
