use Rattle.std.proofs.Common.{arith}
use Rattle.std.proofs.lemmas.Grind.{common_steps}
use Rattle.net_dimacs.proofs.problem_line.kind_of.Goals as goal

pub bounds-field-0-2 : goal.bounds-field-0-2
bounds-field-0-2 c = grind (arith, common_steps)

pub bounds-field-0 : goal.bounds-field-0
bounds-field-0 c = grind (arith, common_steps)
