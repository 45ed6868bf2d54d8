use Rattle.std.proofs.Common.{arith}
use Rattle.std.proofs.lemmas.Grind.{common_steps}
use Rattle.net_dimacs.proofs.certificate_writer.push_flow.Goals as goal

pub returns-clause-fits : goal.returns-clause-fits
returns-clause-fits c = grind (arith, common_steps)

pub overflow_add-src : goal.overflow_add-src
overflow_add-src c = grind (arith, common_steps)

pub overflow_add-dst : goal.overflow_add-dst
overflow_add-dst c = grind (arith, common_steps)
