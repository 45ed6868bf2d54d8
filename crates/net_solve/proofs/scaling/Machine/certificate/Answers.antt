use Rattle.std.proofs.Common.{◌≡◌, ℤ, List, FitsSigned, to_z, of_z, rules, ◌∙◌, ap, sym, subst, arith}
use Rattle.std.specs.Int.{w128}
use Rattle.std.specs.List.{AllZip}
use Rattle.std.proofs.lemmas.Int.{to_z-of_z}
use Rattle.net_normal.specs.Flows.{IsWithinCapacity, cost_of}
use Rattle.net_check.specs.Certificates.{IsCertificate}
use Rattle.net_check.specs.declared.certificate.Certificate.TheVariants.{Optimal}
use Rattle.net_solve.specs.Rounding.{IsRounded}
use Rattle.net_solve.proofs.Carrying.{all-within}
use Rattle.net_solve.proofs.Ends.{optimal-end}
use Rattle.net_solve.proofs.scaling.Machine.certificate.Goals as goal

pub cost-value-requires : goal.cost-value-requires
cost-value-requires c = subst (AllZip IsWithinCapacity c.args.problem.now.arcs.items) (sym c.deref-2.ensures.value) (all-within c.args.problem.now _ _ c.requires.running.standing.carried)

pub returns-clause-certificate : goal.returns-clause-certificate
returns-clause-certificate c = λ x e.
    let problem = c.args.problem.now in
    let fits : FitsSigned w128 c.cost-value.result = search rules in
    let value : to_z w128 (of_z w128 c.cost-value.result) ≡ cost_of problem c.args.self.carried.flows.items = to_z-of_z w128 c.cost-value.result fits ∙ c.cost-value.ensures ∙ ap (cost_of problem) c.deref-2.ensures.value in
    let same : Optimal (to_z w128 (of_z w128 c.cost-value.result)) c.args.self.carried.flows c.in-Some.potentials ≡ x = cc in
    let r : IsRounded c.args.self.potentials.items c.in-Some.potentials.items = subst (λ (ps : List ℤ). IsRounded ps c.in-Some.potentials.items) c.deref.ensures.value (search rules) in
    subst (IsCertificate problem) same (optimal-end problem c.args.self c.in-Some.potentials.items _ c.requires r value)

pub returns-clause-from_zero : goal.returns-clause-from_zero
returns-clause-from_zero c = grind (arith)

pub returns-in_default-clause-certificate : goal.returns-in_default-clause-certificate
returns-in_default-clause-certificate c = grind (arith)

pub whole_potentials-requires-clause-deep : goal.whole_potentials-requires-clause-deep
whole_potentials-requires-clause-deep c = grind (arith)
