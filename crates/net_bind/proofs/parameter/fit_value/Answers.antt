use Rattle.std.proofs.Common.{arith}
use Rattle.std.proofs.lemmas.Grind.{common_steps}
use Rattle.net_bind.proofs.parameter.fit_value.Goals as goal

pub returns-in_ok-fit_kind-in-Some : goal.returns-in_ok-fit_kind-in-Some
returns-in_ok-fit_kind-in-Some c = grind (arith, common_steps)

pub returns-in-None : goal.returns-in-None
returns-in-None c = grind (arith, common_steps)
