-- Which condition of a certificate fails first. For a flow: Shape, Bounds in arc order, Balance in
-- node order, Value, then Positive or Negative in arc order. For a cut: Shape, then NotViolated.
-- Arcs and nodes are numbered from 1; a condition on neither has number 0.
use Rattle.std.specs.Prelude.{◌≡◌, ◌≢◌, ℕ, ◌+◌, ◌-◌, ◌<◌, Bool, List, length, Some, ℤ, pos, ◌<ℤ◌, vec_len, slice_get}
use Rattle.std.specs.List.{AllZip}
use Rattle.net_normal.specs.Flows.{IsWithinCapacity, IsFeasibleFlow, net_outflow, cost_of}
use Rattle.net_normal.specs.declared.problem.FlowArc.{FlowArc}
use Rattle.net_normal.specs.declared.problem.Problem.{Problem}
use Rattle.net_check.specs.Certificates.{HasFlowShape, IsComplementary, IsViolated, reduced_cost}
use Rattle.net_check.specs.declared.certificate.Side.{Side}
use Rattle.net_check.specs.declared.certificate.Certificate.{Certificate}
use Rattle.net_check.specs.declared.certificate.Certificate.TheVariants.{Optimal, Cut}
use Rattle.net_check.specs.declared.checker.Reason.{Reason}
use Rattle.net_check.specs.declared.checker.Reason.TheVariants.{Shape, Bounds, Balance, Value, Positive, Negative, NotViolated}

-- the first index at which P fails is number - 1
pub record IsFirstFailing (P : ℕ → Type 0) (number : ℕ) : Type 0 where
  pub index : ℕ
  pub counted : number ≡ index + 1
  pub fails : P index → ⊥
  pub before : (k : ℕ) → k < index → P k

-- arc i and its flow satisfy R
abbrev pub ArcKeeps : (FlowArc → ℤ → Type 0) → List FlowArc → List ℤ → ℕ → Type 0
ArcKeeps R arcs flows i = (arc : FlowArc) (flow : ℤ) → slice_get arcs i ≡ Some arc → slice_get flows i ≡ Some flow → R arc flow

-- the net outflow of node v equals its supply
abbrev pub NodeKeeps : Problem → List ℤ → ℕ → Type 0
NodeKeeps problem flows v = (supply : ℤ) → slice_get problem.supplies.items v ≡ Some supply → net_outflow problem.arcs.items flows v ≡ supply

-- in which way a flow violates complementary slackness
abbrev pub IsSlack : List ℤ → FlowArc → ℤ → Reason → Type 0
IsSlack potentials arc flow Positive = (pos 0 <ℤ reduced_cost potentials arc) × (flow ≢ arc.low)
IsSlack potentials arc flow Negative = (reduced_cost potentials arc <ℤ pos 0) × (flow ≢ arc.cap)
IsSlack potentials arc flow Shape = ⊥
IsSlack potentials arc flow Bounds = ⊥
IsSlack potentials arc flow Balance = ⊥
IsSlack potentials arc flow Value = ⊥
IsSlack potentials arc flow NotViolated = ⊥

-- the flow is feasible, the value is its cost, and the arc with this number is the first that
-- violates complementary slackness, in this way
pub record IsFirstSlack (problem : Problem) (value : ℤ) (flows potentials : List ℤ) (reason : Reason) (number : ℕ) : Type 0 where
  pub shape : HasFlowShape problem flows potentials
  pub feasible : IsFeasibleFlow problem flows
  pub cost : value ≡ cost_of problem flows
  pub first : IsFirstFailing (ArcKeeps (IsComplementary potentials) problem.arcs.items flows) number
  pub reason_holds : ArcKeeps (λ arc flow. IsSlack potentials arc flow reason) problem.arcs.items flows (number - 1)

abbrev pub IsFirstFaultOfFlow : Problem → ℤ → List ℤ → List ℤ → Reason → ℕ → Type 0
IsFirstFaultOfFlow problem value flows potentials Shape number = ¬ HasFlowShape problem flows potentials × (number ≡ 0)
IsFirstFaultOfFlow problem value flows potentials Bounds number =
    HasFlowShape problem flows potentials × IsFirstFailing (ArcKeeps IsWithinCapacity problem.arcs.items flows) number
IsFirstFaultOfFlow problem value flows potentials Balance number =
    HasFlowShape problem flows potentials × AllZip IsWithinCapacity problem.arcs.items flows × IsFirstFailing (NodeKeeps problem flows) number
IsFirstFaultOfFlow problem value flows potentials Value number =
    HasFlowShape problem flows potentials × IsFeasibleFlow problem flows × ¬ (value ≡ cost_of problem flows) × (number ≡ 0)
IsFirstFaultOfFlow problem value flows potentials Positive number = IsFirstSlack problem value flows potentials Positive number
IsFirstFaultOfFlow problem value flows potentials Negative number = IsFirstSlack problem value flows potentials Negative number
IsFirstFaultOfFlow problem value flows potentials NotViolated number = ⊥

abbrev pub IsFirstFaultOfCut : Problem → List Bool → Side → Reason → ℕ → Type 0
IsFirstFaultOfCut problem flags side Shape number = ¬ (length flags ≡ vec_len problem.supplies) × (number ≡ 0)
IsFirstFaultOfCut problem flags side NotViolated number = (length flags ≡ vec_len problem.supplies) × ¬ IsViolated problem flags side × (number ≡ 0)
IsFirstFaultOfCut problem flags side Bounds number = ⊥
IsFirstFaultOfCut problem flags side Balance number = ⊥
IsFirstFaultOfCut problem flags side Value number = ⊥
IsFirstFaultOfCut problem flags side Positive number = ⊥
IsFirstFaultOfCut problem flags side Negative number = ⊥

-- this condition fails at this number, and all conditions before it hold
abbrev pub IsFirstFault : Problem → Certificate → Reason → ℕ → Type 0
IsFirstFault problem (Optimal value flows potentials) reason number = IsFirstFaultOfFlow problem value flows.items potentials.items reason number
IsFirstFault problem (Cut flags side) reason number = IsFirstFaultOfCut problem flags.items side reason number
