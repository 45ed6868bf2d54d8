use Rattle.std.proofs.Common.{arith}
use Rattle.std.proofs.lemmas.Grind.{common_steps}
use Rattle.net_solve.proofs.pseudoflow.Pseudoflow.start.Goals as goal

pub first_flows-requires : goal.first_flows-requires
first_flows-requires c = grind (arith, common_steps)

pub excess_of-requires : goal.excess_of-requires
excess_of-requires c = grind (arith, common_steps)

pub returns : goal.returns
returns c = grind (arith, common_steps)
