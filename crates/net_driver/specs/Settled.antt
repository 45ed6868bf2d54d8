-- The result for a problem file (First DIMACS Implementation Challenge, minimum-cost flow).
use Rattle.std.specs.Prelude.{◌≡◌, ℕ, List, length}
use Rattle.net_normal.specs.declared.problem.Problem.{Problem}
use Rattle.net_check.specs.Certificates.{IsCertificate}
use Rattle.net_check.specs.declared.certificate.Certificate.{Certificate}
use Rattle.net_check.specs.declared.certificate.Certificate.TheVariants.{Optimal, Cut}
use Rattle.net_dimacs.specs.Certificates.{account_of, IsCertificateText}
use Rattle.net_dimacs.specs.CertificateWritten.{certificate_text}
use Rattle.net_solve.specs.Settling.{BoundsEachFlow, LeavesNoFlow}
use Rattle.net_driver.specs.LineTexts.{IsProblemOf}
use Rattle.net_driver.specs.declared.solve_run.ExitKind.{ExitKind}
use Rattle.net_driver.specs.declared.solve_run.ExitKind.TheVariants.{Done, Refuted}

-- the text of a valid certificate of this problem
abbrev pub IsAnswerText : Problem → Certificate → List ℕ → Type 0
IsAnswerText problem certificate text =
    (text ≡ certificate_text problem.arcs.items (account_of certificate))
    × IsCertificateText text (length problem.supplies.items) problem.arcs.items (account_of certificate)

-- the problem in the file, a certificate that settles it, and the text of the certificate
pub record Settles (problem_text : List ℕ) (settled : Certificate) (text : List ℕ) : Type 0 where
  pub problem : Problem
  pub is_problem : IsProblemOf problem_text problem
  pub certificate : IsCertificate problem settled
  -- no feasible flow costs less than an optimal value, and if there is a cut there is no feasible
  -- flow
  pub optimal : BoundsEachFlow problem settled
  pub cut : LeavesNoFlow problem settled
  pub answer : IsAnswerText problem settled text

abbrev pub settled_exit_kind : Certificate → ExitKind
settled_exit_kind (Optimal value flows potentials) = Done
settled_exit_kind (Cut flags side) = Refuted
