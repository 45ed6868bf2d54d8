use Rattle.std.proofs.Common.{arith}
use Rattle.std.proofs.lemmas.Grind.{common_steps}
use Rattle.net_dimacs.proofs.certificate_draft.first_claim.Goals as goal

pub returns-in_ok-with_capacity-in-Side : goal.returns-in_ok-with_capacity-in-Side
returns-in_ok-with_capacity-in-Side c = grind (arith, common_steps)
