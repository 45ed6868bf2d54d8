use Rattle.net_check.proofs.LeastCost.{optimal-least}
use Rattle.net_check.proofs.checker.least_cost.Goals as goal

pub returns : goal.returns
returns c = record { value = optimal-least }
