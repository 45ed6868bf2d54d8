use Rattle.std.proofs.Common.{subst, inl, inr}
use Rattle.std.proofs.lemmas.Result.{IfOk-weaker}
use Rattle.net_solve.proofs.Certified.{certificate-bounds, certificate-leaves}
use Rattle.net_solve.proofs.solving.solve.Goals as goal

-- the certificate that the solver gave
pub returns-in-Some-clause-optimal : goal.returns-in-Some-clause-optimal
returns-in-Some-clause-optimal g c = certificate-bounds c.args.problem.now c.in-Some.certificate (c.in_ok-certificate.ensures.certificate c.in-Some.certificate c.in-Some.is)

pub returns-in-Some-clause-cut : goal.returns-in-Some-clause-cut
returns-in-Some-clause-cut g c = certificate-leaves c.args.problem.now c.in-Some.certificate (c.in_ok-certificate.ensures.certificate c.in-Some.certificate c.in-Some.is)

pub returns-in-Some-clause-asked : goal.returns-in-Some-clause-asked
returns-in-Some-clause-asked g c = inl (subst (g.S.Solver.may_answer c.args.solver.now c.args.problem.now) c.in-Some.is c.in_ok-certificate.ensures.own)

-- or the plain one's
pub returns-clause-optimal : goal.returns-clause-optimal
returns-clause-optimal g c = IfOk-weaker c.certificate.result _ _ (certificate-bounds c.args.problem.now) c.certificate.ensures.certificate

pub returns-clause-cut : goal.returns-clause-cut
returns-clause-cut g c = IfOk-weaker c.certificate.result _ _ (certificate-leaves c.args.problem.now) c.certificate.ensures.certificate

pub returns-clause-asked : goal.returns-clause-asked
returns-clause-asked g c =
    let own = subst (g.S.Solver.may_answer c.args.solver.now c.args.problem.now) c.in_default.is c.in_ok-certificate.ensures.own in
    IfOk-weaker c.certificate.result _ _ (λ certificate bounded. inr (own, bounded)) c.certificate.ensures.bounded
