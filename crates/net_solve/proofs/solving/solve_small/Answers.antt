use Rattle.std.proofs.Common.{rules, arith}
use Rattle.net_solve.proofs.Certified.{certificate-bounds, certificate-leaves}
use Rattle.net_solve.proofs.solving.solve_small.Goals as goal

pub returns-in-Some-clause-optimal : goal.returns-in-Some-clause-optimal
returns-in-Some-clause-optimal c = certificate-bounds c.args.problem.now c.in-Some.certificate (search rules)

pub returns-in-Some-clause-cut : goal.returns-in-Some-clause-cut
returns-in-Some-clause-cut c = certificate-leaves c.args.problem.now c.in-Some.certificate (search rules)

pub returns-in-Some-clause-certificate : goal.returns-in-Some-clause-certificate
returns-in-Some-clause-certificate c = grind (arith)
