-- First faults: what breaks complementary slackness is one, and a certificate has none.
use Rattle.std.proofs.Common.{◌≡◌, ℕ, ◌-◌, List, ℤ, Bool, refl, subst, arith}
use Rattle.net_normal.specs.Flows.{IsFeasibleFlow, IsWithinCapacity, cost_of}
use Rattle.net_normal.specs.declared.problem.FlowArc.{FlowArc}
use Rattle.net_normal.specs.declared.problem.Problem.{Problem}
use Rattle.net_check.specs.Certificates.{IsOptimal, IsViolatedCut, IsCertificate, IsComplementary, HasFlowShape}
use Rattle.net_check.specs.FirstFaults.{IsFirstFailing, IsFirstFault, IsFirstFaultOfFlow, IsFirstFaultOfCut, IsSlack, ArcKeeps}
use Rattle.net_check.specs.declared.certificate.Side.{Side}
use Rattle.net_check.specs.declared.certificate.Certificate.{Certificate}
use Rattle.net_check.specs.declared.certificate.Certificate.TheVariants.{Optimal, Cut}
use Rattle.net_check.specs.declared.checker.Reason.{Reason}
use Rattle.net_check.specs.declared.checker.Reason.TheVariants.{Shape, Bounds, Balance, Value, Positive, Negative, NotViolated}
use Rattle.net_check.specs.declared.checker.Verdict.{Verdict}
use Rattle.net_check.specs.declared.checker.Verdict.TheVariants.{Yes, No}
use Rattle.net_check.proofs.Pairs.{zipped-keeps, zipped-lengths}

-- a failing arc is slack in one of the two ways
not_slack : (potentials : List ℤ) (arcs : List FlowArc) (flows : List ℤ) (number : ℕ) (reason : Reason) → ((arc : FlowArc) (flow : ℤ) → IsSlack potentials arc flow reason → ⊥) → IsFirstFailing (ArcKeeps (IsComplementary potentials) arcs flows) number → ArcKeeps (λ arc flow. IsSlack potentials arc flow reason) arcs flows (number - 1) → ⊥
not_slack potentials arcs flows number reason none first holds =
    let at : number - 1 ≡ first.index = omega (arith, first.counted) in
    let here : ArcKeeps (λ arc flow. IsSlack potentials arc flow reason) arcs flows first.index = subst (ArcKeeps (λ arc flow. IsSlack potentials arc flow reason) arcs flows) at holds in
    first.fails (λ arc flow p q. absurd (none arc flow (here arc flow p q)))

pub slack-is_fault : (problem : Problem) (value : ℤ) (flows potentials : List ℤ) (reason : Reason) (number : ℕ) → HasFlowShape problem flows potentials → IsFeasibleFlow problem flows → value ≡ cost_of problem flows → IsFirstFailing (ArcKeeps (IsComplementary potentials) problem.arcs.items flows) number → ArcKeeps (λ arc flow. IsSlack potentials arc flow reason) problem.arcs.items flows (number - 1) → IsFirstFaultOfFlow problem value flows potentials reason number
slack-is_fault problem value flows potentials Shape number shape feasible cost first holds = absurd (not_slack potentials problem.arcs.items flows number Shape (λ arc flow h. h) first holds)
slack-is_fault problem value flows potentials Bounds number shape feasible cost first holds = absurd (not_slack potentials problem.arcs.items flows number Bounds (λ arc flow h. h) first holds)
slack-is_fault problem value flows potentials Balance number shape feasible cost first holds = absurd (not_slack potentials problem.arcs.items flows number Balance (λ arc flow h. h) first holds)
slack-is_fault problem value flows potentials Value number shape feasible cost first holds = absurd (not_slack potentials problem.arcs.items flows number Value (λ arc flow h. h) first holds)
slack-is_fault problem value flows potentials Positive number shape feasible cost first holds = record { shape = shape; feasible = feasible; cost = cost; first = first; reason_holds = holds }
slack-is_fault problem value flows potentials Negative number shape feasible cost first holds = record { shape = shape; feasible = feasible; cost = cost; first = first; reason_holds = holds }
slack-is_fault problem value flows potentials NotViolated number shape feasible cost first holds = absurd (not_slack potentials problem.arcs.items flows number NotViolated (λ arc flow h. h) first holds)

-- a certificate has no fault
optimal-no_fault : (problem : Problem) (value : ℤ) (flows potentials : List ℤ) (reason : Reason) (number : ℕ) → IsOptimal problem value flows potentials → IsFirstFaultOfFlow problem value flows potentials reason number → ⊥
optimal-no_fault problem value flows potentials Shape number h fault =
    fault.0 (record { one_an_arc = omega (arith, zipped-lengths IsWithinCapacity problem.arcs.items flows h.feasible.capacity, problem.arcs.ok.0); one_a_node = h.one_a_node })
optimal-no_fault problem value flows potentials Bounds number h fault = fault.1.fails (zipped-keeps IsWithinCapacity problem.arcs.items flows h.feasible.capacity fault.1.index)
optimal-no_fault problem value flows potentials Balance number h fault = fault.2.fails (h.feasible.balance fault.2.index)
optimal-no_fault problem value flows potentials Value number h fault = fault.2 h.cost
optimal-no_fault problem value flows potentials Positive number h fault = fault.first.fails (zipped-keeps (IsComplementary potentials) problem.arcs.items flows h.slackness fault.first.index)
optimal-no_fault problem value flows potentials Negative number h fault = fault.first.fails (zipped-keeps (IsComplementary potentials) problem.arcs.items flows h.slackness fault.first.index)
optimal-no_fault problem value flows potentials NotViolated number h fault = fault

cut-no_fault : (problem : Problem) (flags : List Bool) (side : Side) (reason : Reason) (number : ℕ) → IsViolatedCut problem flags side → IsFirstFaultOfCut problem flags side reason number → ⊥
cut-no_fault problem flags side Shape number h fault = fault.0 h.one_a_node
cut-no_fault problem flags side Bounds number h fault = fault
cut-no_fault problem flags side Balance number h fault = fault
cut-no_fault problem flags side Value number h fault = fault
cut-no_fault problem flags side Positive number h fault = fault
cut-no_fault problem flags side Negative number h fault = fault
cut-no_fault problem flags side NotViolated number h fault = fault.1 h.violated

pub certificate-no_fault : (problem : Problem) (certificate : Certificate) (reason : Reason) (number : ℕ) → IsCertificate problem certificate → IsFirstFault problem certificate reason number → ⊥
certificate-no_fault problem (Optimal value flows potentials) reason number h fault = optimal-no_fault problem value flows.items potentials.items reason number h fault
certificate-no_fault problem (Cut flags side) reason number h fault = cut-no_fault problem flags.items side reason number h fault

-- a verdict is one of the two
pub yes_otherwise : (verdict : Verdict) → ((reason : Reason) (number : ℕ) → verdict ≡ No reason number → ⊥) → verdict ≡ Yes
yes_otherwise Yes f = refl
yes_otherwise (No reason number) f = absurd (f reason number refl)
