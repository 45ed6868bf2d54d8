use Rattle.std.proofs.Common.{◌≡◌}
use Rattle.net_solve.specs.Pseudoflows.{IsUnderWay}
use Rattle.net_solve.specs.Forests.{IsGrown, HasNoDeficit, outside}
use Rattle.net_solve.proofs.pseudoflow.Pseudoflow.grow.Given as goal

abbrev pub invariant-joins : goal.invariant-joins
invariant-joins l =
    record {
      under_way : IsUnderWay l.problem l.self.flows.items l.self.potentials.items l.self.excess.items;
      same_excess : l.self.excess.items ≡ l.fn.self.excess.items;
      grown : IsGrown l.problem l.self.flows.items l.self.potentials.items l.self.excess.items l.forest.flags.items l.forest.joined.items l.forest.places.items;
      no_deficit : HasNoDeficit l.self.excess.items l.forest.flags.items;
    }

abbrev pub decreases-joins : goal.decreases-joins
decreases-joins l = outside l.forest.flags.items
