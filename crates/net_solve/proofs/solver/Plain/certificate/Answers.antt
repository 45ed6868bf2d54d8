use Rattle.std.proofs.Common.{arith}
use Rattle.net_solve.proofs.solver.Plain.certificate.Goals as goal

pub with_few_nodes-requires-clause-bounded : goal.with_few_nodes-requires-clause-bounded
with_few_nodes-requires-clause-bounded c = grind (arith)

pub with_few_nodes-requires-clause-certificate : goal.with_few_nodes-requires-clause-certificate
with_few_nodes-requires-clause-certificate c = grind (arith)
