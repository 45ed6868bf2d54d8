use Rattle.std.proofs.Common.{arith}
use Rattle.std.proofs.lemmas.Grind.{common_steps}
use Rattle.net_solve.proofs.solver.with_few_nodes.Goals as goal

pub returns-then-eq-clause-certificate : goal.returns-then-eq-clause-certificate
returns-then-eq-clause-certificate c = grind (arith, common_steps)
