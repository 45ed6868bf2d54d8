use Rattle.std.proofs.Common.{List, Bool, ℤ, sym, subst, arith}
use Rattle.std.proofs.lemmas.Grind.{common_steps}
use Rattle.net_check.specs.Certificates.{IsCertificate, IsOptimal, IsViolatedCut}
use Rattle.net_check.specs.FirstFaults.{IsFirstFault, IsFirstFaultOfFlow, IsFirstFaultOfCut}
use Rattle.net_check.specs.declared.certificate.Certificate.{Certificate}
use Rattle.net_check.proofs.Verdicts.{certificate-no_fault, yes_otherwise}
use Rattle.net_check.proofs.checker.check.Goals as goal

pub returns-in-Optimal-clause-yes : goal.returns-in-Optimal-clause-yes
returns-in-Optimal-clause-yes c =
    let problem = c.args.problem.now in
    let value = c.in-Optimal.value in
    let potentials = c.in-Optimal.potentials.items in (
      λ e. subst (IsCertificate problem) (sym c.in-Optimal.is)
          (subst (λ (zs : List ℤ). IsOptimal problem value zs potentials) c.deref.ensures.value
          (subst (λ (zs : List ℤ). IsOptimal problem value c.deref.result.now zs) c.deref-in-Optimal.ensures.value (c.check_flow.ensures.yes e))),
      λ h. yes_otherwise c.check_flow.result (λ reason number e.
          certificate-no_fault problem c.args.certificate.now reason number h
          (subst (λ (certificate : Certificate). IsFirstFault problem certificate reason number) (sym c.in-Optimal.is)
          (subst (λ (zs : List ℤ). IsFirstFaultOfFlow problem value zs potentials reason number) c.deref.ensures.value
          (subst (λ (zs : List ℤ). IsFirstFaultOfFlow problem value c.deref.result.now zs reason number) c.deref-in-Optimal.ensures.value (c.check_flow.ensures.no reason number e))))),
    )

pub returns-in-Cut-clause-yes : goal.returns-in-Cut-clause-yes
returns-in-Cut-clause-yes c =
    let problem = c.args.problem.now in
    let side = c.in-Cut.side in (
      λ e. subst (IsCertificate problem) (sym c.in-Cut.is) (subst (λ (bs : List Bool). IsViolatedCut problem bs side) c.deref-in-Cut.ensures.value (c.check_cut.ensures.yes e)),
      λ h. yes_otherwise c.check_cut.result (λ reason number e.
          certificate-no_fault problem c.args.certificate.now reason number h
          (subst (λ (certificate : Certificate). IsFirstFault problem certificate reason number) (sym c.in-Cut.is)
          (subst (λ (bs : List Bool). IsFirstFaultOfCut problem bs side reason number) c.deref-in-Cut.ensures.value (c.check_cut.ensures.no reason number e)))),
    )

pub returns-in-Optimal-clause-no : goal.returns-in-Optimal-clause-no
returns-in-Optimal-clause-no c = grind (arith, common_steps)

pub returns-in-Cut-clause-no : goal.returns-in-Cut-clause-no
returns-in-Cut-clause-no c = grind (arith, common_steps)
