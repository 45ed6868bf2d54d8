use Rattle.std.proofs.Common.{arith}
use Rattle.std.proofs.lemmas.Grind.{common_steps}
use Rattle.net_dimacs.proofs.claim.claim_of.Goals as goal

pub returns-in-Potential : goal.returns-in-Potential
returns-in-Potential c = grind (arith, common_steps)

pub returns-in-Member : goal.returns-in-Member
returns-in-Member c = grind (arith, common_steps)

pub returns-in-Value : goal.returns-in-Value
returns-in-Value c = grind (arith, common_steps)

pub returns-in-Flow : goal.returns-in-Flow
returns-in-Flow c = grind (arith, common_steps)

pub returns-in-Side : goal.returns-in-Side
returns-in-Side c = grind (arith, common_steps)
