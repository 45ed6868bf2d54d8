use Rattle.std.proofs.Common.{arith}
use Rattle.net_solve.proofs.solver.PlainSolver.answer_from.Goals as goal

pub returns-clause-certificate : goal.returns-clause-certificate
returns-clause-certificate c = grind (arith)
