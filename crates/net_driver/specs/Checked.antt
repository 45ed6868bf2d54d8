-- The result of checking a certificate file for a problem file (First DIMACS Implementation
-- Challenge, minimum-cost flow).
use Rattle.std.specs.Prelude.{◌≡◌, ◌↔◌, ℕ, List, [], ◌∷◌, ◌++◌, codes, decimal}
use Rattle.net_normal.specs.declared.problem.Problem.{Problem}
use Rattle.net_check.specs.declared.certificate.Certificate.{Certificate}
use Rattle.net_check.specs.declared.checker.Reason.{Reason}
use Rattle.net_check.specs.declared.checker.Reason.TheVariants.{Shape, Bounds, Balance, Value, Positive, Negative, NotViolated}
use Rattle.net_check.specs.declared.checker.Verdict.{Verdict}
use Rattle.net_check.specs.declared.checker.Verdict.TheVariants.{Yes, No}
use Rattle.net_check.specs.Certificates.{IsCertificate}
use Rattle.net_check.specs.FirstFaults.{IsFirstFault}
use Rattle.net_dimacs.specs.declared.problem_fault.LineFault.{LineFault}
use Rattle.net_dimacs.specs.declared.problem_fault.ProblemFault.{ProblemFault}
use Rattle.net_dimacs.specs.declared.problem_fault.ProblemFault.TheVariants as reading
use Rattle.net_driver.specs.LineTexts.{IsProblemOf, IsCertificateOf, IsProblemFault, IsCertificateFault}
use Rattle.net_driver.specs.declared.solve_run.ExitKind.{ExitKind}
use Rattle.net_driver.specs.declared.solve_run.ExitKind.TheVariants.{Done, Refuted}
use Rattle.net_driver.specs.declared.driver_fault.Fault.{Fault}
use Rattle.net_driver.specs.declared.driver_fault.Fault.TheVariants.{OutOfMemory, Rejected, RejectedLine, Unread, Unwritten}
use Rattle.net_driver.specs.declared.driver_fault.TextName.{TextName}
use Rattle.net_driver.specs.declared.driver_fault.TextName.TheVariants as texts

-- the error of an input with this name
abbrev pub fault_of : TextName → ProblemFault → Fault
fault_of name reading.OutOfMemory = OutOfMemory
fault_of name (reading.Rejected rejection) = RejectedLine (record { text = name; fault = rejection.fault; line = rejection.line })

-- the verdict on the certificate for the problem in these files
pub record Judges (problem_text certificate_text : List ℕ) (verdict : Verdict) : Type 0 where
  pub problem : Problem
  pub is_problem : IsProblemOf problem_text problem
  pub certificate : Certificate
  pub is_certificate : IsCertificateOf problem certificate_text certificate
  pub yes : (verdict ≡ Yes) ↔ IsCertificate problem certificate
  pub no : (reason : Reason) (number : ℕ) → verdict ≡ No reason number → IsFirstFault problem certificate reason number

-- the first error of the problem file, or of the certificate file if the first one is a valid
-- problem
abbrev pub IsFirstLineFault : (problem_text certificate_text : List ℕ) → TextName → LineFault → ℕ → Type 0
IsFirstLineFault problem_text certificate_text texts.Model fault line = ⊥
IsFirstLineFault problem_text certificate_text texts.Data fault line = ⊥
IsFirstLineFault problem_text certificate_text texts.Problem fault line = IsProblemFault problem_text fault line
IsFirstLineFault problem_text certificate_text texts.Certificate fault line =
    (problem : Problem) × IsProblemOf problem_text problem × IsCertificateFault problem certificate_text fault line

abbrev pub IsLineRejection : (problem_text certificate_text : List ℕ) → Fault → Type 0
IsLineRejection problem_text certificate_text OutOfMemory = Unit {0}
IsLineRejection problem_text certificate_text (Rejected r) = ⊥
IsLineRejection problem_text certificate_text (RejectedLine r) = IsFirstLineFault problem_text certificate_text r.text r.fault r.line
IsLineRejection problem_text certificate_text (Unread text) = ⊥
IsLineRejection problem_text certificate_text Unwritten = ⊥

-- the first error of a problem file
abbrev pub IsProblemRejection : List ℕ → Fault → Type 0
IsProblemRejection problem_text OutOfMemory = Unit {0}
IsProblemRejection problem_text (Rejected r) = ⊥
IsProblemRejection problem_text (RejectedLine r) = (r.text ≡ texts.Problem) × IsProblemFault problem_text r.fault r.line
IsProblemRejection problem_text (Unread text) = ⊥
IsProblemRejection problem_text Unwritten = ⊥

-- the first error of a certificate file for this problem
abbrev pub IsCertificateStop : Problem → List ℕ → Fault → Type 0
IsCertificateStop problem text OutOfMemory = Unit {0}
IsCertificateStop problem text (Rejected r) = ⊥
IsCertificateStop problem text (RejectedLine r) = (r.text ≡ texts.Certificate) × IsCertificateFault problem text r.fault r.line
IsCertificateStop problem text (Unread name) = ⊥
IsCertificateStop problem text Unwritten = ⊥

abbrev pub reason_word : Reason → List ℕ
reason_word Shape = codes "shape"
reason_word Bounds = codes "bounds"
reason_word Balance = codes "balance"
reason_word Value = codes "value"
reason_word Positive = codes "positive"
reason_word Negative = codes "negative"
reason_word NotViolated = codes "cut"

abbrev pub verdict_line : Verdict → List ℕ
verdict_line Yes = codes "yes\n"
verdict_line (No reason number) = codes "no " ++ (reason_word reason ++ (32 ∷ (decimal number ++ 10 ∷ [])))

abbrev pub exit_kind_of : Verdict → ExitKind
exit_kind_of Yes = Done
exit_kind_of (No reason number) = Refuted
