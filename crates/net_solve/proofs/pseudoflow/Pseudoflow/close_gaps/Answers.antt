use Rattle.std.proofs.Common.{length, List, ℤ, subst, ap, arith}
use Rattle.std.proofs.lemmas.Grind.{common_steps}
use Rattle.net_solve.specs.Pseudoflows.{AreCloser}
use Rattle.net_solve.proofs.Closing.{closed-under}
use Rattle.net_solve.proofs.pseudoflow.Pseudoflow.close_gaps.Goals as goal

pub returns-clause-under_way : goal.returns-clause-under_way
returns-clause-under_way c =
    let closer = subst (λ (xs : List ℤ). AreCloser c.args.most xs c.in_ok-self.field-0.items) c.deref.ensures.value c.in_ok-self.ensures.closer in
    closed-under c.args.problem.now c.args.most c.args.self.now.flows.items c.args.self.now.potentials.items c.in_ok-self.field-0.items c.args.self.now.excess.items c.requires.costs closer
    (omega (arith, c.in_ok-self.ensures.len, c.in_ok-self.field-0.ok.0, ap length c.deref.ensures.value, c.requires.under_way.potentials_count)) c.requires.under_way

pub returns-clause-potentials : goal.returns-clause-potentials
returns-clause-potentials c = grind (arith, common_steps)
