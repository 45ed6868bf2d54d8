-- What it means to solve a problem.
use Rattle.std.specs.Prelude.{◌≡◌, ◌⊎◌, ℕ, ℤ, ◌≤ℤ◌, List, Option, Some, None}
use Rattle.net_normal.specs.Flows.{IsFeasibleFlow, cost_of}
use Rattle.net_normal.specs.declared.problem.Problem.{Problem}
use Rattle.net_solve.specs.Bounds.{HasSmallPotentials}
use Rattle.net_solve.specs.ScalingRuns.{IsScalingRun}
use Rattle.net_solve.specs.declared.scaling.ScalingRun.{ScalingRun}
use Rattle.net_check.specs.declared.certificate.Certificate.{Certificate}
use Rattle.net_check.specs.declared.certificate.Certificate.TheVariants.{Optimal, Cut}

-- no feasible flow costs less than an optimal value
abbrev pub BoundsEachFlow : Problem → Certificate → Type 0
BoundsEachFlow problem (Optimal value flows potentials) = (others : List ℤ) → IsFeasibleFlow problem others → value ≤ℤ cost_of problem others
BoundsEachFlow problem (Cut flags side) = Unit {0}

-- if there is a cut, there is no feasible flow
abbrev pub LeavesNoFlow : Problem → Certificate → Type 0
LeavesNoFlow problem (Optimal value flows potentials) = Unit {0}
LeavesNoFlow problem (Cut flags side) = (flows : List ℤ) → ¬ IsFeasibleFlow problem flows

-- a certificate with small potentials
abbrev pub IsSmallAnswer : Problem → Option Certificate → Type 0
IsSmallAnswer problem None = ⊥
IsSmallAnswer problem (Some certificate) = HasSmallPotentials problem certificate

-- the result of a cost-scaling run with this budget
abbrev pub IsRunAnswer : Problem → ℕ → Option Certificate → Type 0
IsRunAnswer problem budget answer = (run : ScalingRun) × IsScalingRun problem budget run × (run.answer ≡ answer)

-- for a solver with these possible results: the certificate is its result; or it had none, and the
-- potentials are small
abbrev pub IsOwnAnswer : Problem → (Option Certificate → Type 0) → Certificate → Type 0
IsOwnAnswer problem MayAnswer settled = MayAnswer (Some settled) ⊎ (MayAnswer None × HasSmallPotentials problem settled)
