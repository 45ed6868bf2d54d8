-- The specification of a result and its counts.
use Rattle.std.specs.Prelude.{◌≡◌, ℕ, ◌<◌, ◌≤◌, ◌^◌, Option, Some, None, IfSome, List, ℤ, pos}
use Rattle.std.specs.Option.{ForSome}
use Rattle.net_normal.specs.declared.problem.Problem.{Problem}
use Rattle.net_check.specs.Certificates.{IsCertificate}
use Rattle.net_check.specs.declared.certificate.Certificate.{Certificate}
use Rattle.net_check.specs.declared.certificate.Certificate.TheVariants.{Optimal, Cut}
use Rattle.net_solve.specs.declared.scaling.Machine.{Machine}
use Rattle.net_solve.specs.declared.scaling.ScalingRun.{ScalingRun}
use Rattle.net_solve.specs.Runs.{State, Reaches, HasEnded, IsBalanced, greatest_scaled}
use Rattle.net_solve.specs.Machines.{IsRunning}
use Rattle.net_solve.specs.Rounding.{AreFromZero}

-- the last phase has ended
pub record IsEnded (problem : Problem) (m : Machine) : Type 0 where
  pub running : IsRunning problem m
  pub last : m.epsilon ≡ pos 1
  pub balanced : IsBalanced problem m.carried.flows.items

-- the certificate has these flows
abbrev pub HasFlows : List ℤ → Certificate → Type 0
HasFlows expected (Optimal value flows potentials) = flows.items ≡ expected
HasFlows expected (Cut flags side) = ⊥

-- the counts are those of a run, and the flows of an optimal result are those with which its last
-- phase ended
abbrev pub IsCounted : Problem → ℕ → ℕ → Option Certificate → Type 0
IsCounted problem phases steps (Some (Optimal value flows potentials)) = HasEnded problem phases steps flows.items
IsCounted problem phases steps (Some (Cut flags side)) = (state : State) × Reaches problem phases steps state
IsCounted problem phases steps None = (state : State) × Reaches problem phases steps state

-- the potentials of an optimal result are nonnegative, with minimum 0
abbrev pub IsFromZero : Certificate → Type 0
IsFromZero (Optimal value flows potentials) = AreFromZero potentials.items
IsFromZero (Cut flags side) = Unit {0}

-- a run with this budget
pub record IsScalingRun (problem : Problem) (budget : ℕ) (run : ScalingRun) : Type 0 where
  pub certificate : ForSome run.answer (IsCertificate problem)
  pub counted : IsCounted problem run.phases run.steps run.answer
  pub within : run.steps ≤ budget
  pub from_zero : IfSome run.answer IsFromZero
  pub few : (digits : ℕ) → 1 ≤ digits → greatest_scaled problem < 2 ^ digits → run.phases ≤ digits
