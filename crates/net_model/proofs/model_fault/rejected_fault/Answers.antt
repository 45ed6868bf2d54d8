use Rattle.std.proofs.Common.{arith}
use Rattle.std.proofs.lemmas.Grind.{common_steps}
use Rattle.net_model.proofs.model_fault.rejected_fault.Goals as goal

pub returns-in_ok-detail-in-Some : goal.returns-in_ok-detail-in-Some
returns-in_ok-detail-in-Some c = grind (arith, common_steps)

pub returns-in_err-detail-in-Some : goal.returns-in_err-detail-in-Some
returns-in_err-detail-in-Some c = grind (arith, common_steps)

pub returns-in-None : goal.returns-in-None
returns-in-None c = grind (arith, common_steps)
