use Rattle.net_solve.specs.Pseudoflows.{IsUnderWay, too_much}
use Rattle.net_solve.proofs.pseudoflow.Pseudoflow.balance.Given as goal

abbrev pub invariant-growths : goal.invariant-growths
invariant-growths l = IsUnderWay l.problem l.self.flows.items l.self.potentials.items l.self.excess.items

abbrev pub decreases-growths : goal.decreases-growths
decreases-growths l = too_much l.self.excess.items
