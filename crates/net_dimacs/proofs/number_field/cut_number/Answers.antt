use Rattle.std.proofs.Common.{arith}
use Rattle.std.proofs.lemmas.Grind.{common_steps}
use Rattle.net_dimacs.proofs.number_field.cut_number.Goals as goal

pub returns-in_err-first : goal.returns-in_err-first
returns-in_err-first c = grind (arith, common_steps)

pub returns-in_ok-size_of-in_default : goal.returns-in_ok-size_of-in_default
returns-in_ok-size_of-in_default c = grind (arith, common_steps)
