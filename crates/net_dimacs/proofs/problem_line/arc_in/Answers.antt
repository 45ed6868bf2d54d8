use Rattle.std.proofs.Common.{arith}
use Rattle.std.proofs.lemmas.Grind.{common_steps}
use Rattle.net_dimacs.proofs.problem_line.arc_in.Goals as goal

pub returns-in_err-dst : goal.returns-in_err-dst
returns-in_err-dst c = grind (arith, common_steps)
