use Rattle.std.proofs.Common.{arith}
use Rattle.net_inst.proofs.arc.parts_from.Goals as goal

pub returns-in-Some-Some-default-default : goal.returns-in-Some-Some-default-default
returns-in-Some-Some-default-default c = grind (arith)

pub returns-in_ok-reject_name-in-Some-Some-None-None : goal.returns-in_ok-reject_name-in-Some-Some-None-None
returns-in_ok-reject_name-in-Some-Some-None-None c = grind (arith)
