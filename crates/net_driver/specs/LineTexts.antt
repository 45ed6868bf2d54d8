-- The problem and the certificate in a file, and the first error of a file without one (First
-- DIMACS Implementation Challenge, minimum-cost flow).
use Rattle.std.specs.Prelude.{◌≡◌, ◌⊎◌, ℕ, ◌+◌, ◌<◌, ◌≤◌, List, length, Err}
use Rattle.std.specs.Str.Lines.{lines}
use Rattle.net_normal.specs.declared.problem.Problem.{Problem}
use Rattle.net_check.specs.declared.certificate.Certificate.{Certificate}
use Rattle.net_dimacs.specs.declared.problem_fault.LineFault.{LineFault}
use Rattle.net_dimacs.specs.Certificates.{account_of, IsCertificateText, IsOnlyCertificate, IsNoCertificateText}
use Rattle.net_dimacs.specs.CertificateReading as certificates
use Rattle.net_dimacs.specs.Problems.{IsProblemText, IsOnlyProblem, IsNoProblemText, BeginsProblem, statements_of}
use Rattle.net_dimacs.specs.Reading as problems
use Rattle.net_dimacs.specs.Limits.{text_limit}

-- the file is within the limit, and contains this problem and no other
pub record IsProblemOf (text : List ℕ) (problem : Problem) : Type 0 where
  pub short : length text ≤ text_limit
  pub is : IsProblemText text problem.supplies.items problem.arcs.items
  pub only : IsOnlyProblem text problem.supplies.items problem.arcs.items

-- a condition for memory to be allocated: the file is within the limit, and its first line, apart
-- from empty lines and comments, is a `p` line with counts within the limits
pub record MayBeProblem (text : List ℕ) : Type 0 where
  pub short : length text ≤ text_limit
  pub begins : BeginsProblem (statements_of text)

-- the file is within the limit, and contains this certificate of the problem and no other
pub record IsCertificateOf (problem : Problem) (text : List ℕ) (certificate : Certificate) : Type 0 where
  pub short : length text ≤ text_limit
  pub is : IsCertificateText text (length problem.supplies.items) problem.arcs.items (account_of certificate)
  pub only : IsOnlyCertificate text (length problem.supplies.items) problem.arcs.items (account_of certificate)

-- the first error of a problem file, which exceeds the limit or contains no problem; the line is
-- one of its lines, or the one after the last
pub record IsProblemFault (text : List ℕ) (fault : LineFault) (line : ℕ) : Type 0 where
  pub first : problems.read_text text ≡ Err (record { fault = fault; line = line })
  pub none : (text_limit < length text) ⊎ IsNoProblemText text
  pub place : (1 ≤ line) × (line ≤ length (lines text) + 1)

-- the first error of a certificate file for this problem
pub record IsCertificateFault (problem : Problem) (text : List ℕ) (fault : LineFault) (line : ℕ) : Type 0 where
  pub first : certificates.read_text (length problem.supplies.items) problem.arcs.items text ≡ Err (record { fault = fault; line = line })
  pub none : (text_limit < length text) ⊎ IsNoCertificateText text (length problem.supplies.items) problem.arcs.items
  pub place : (1 ≤ line) × (line ≤ length (lines text) + 1)
