-- Written files can be read back.
use Rattle.std.specs.Prelude.{◌≡◌, ℤ, List, length, Ok}
use Rattle.net_normal.specs.declared.problem.FlowArc.{FlowArc}
use Rattle.net_normal.specs.Limits.{IsWithinLimits}
use Rattle.net_dimacs.specs.Certificates.{Account, IsOfSize}
use Rattle.net_dimacs.specs.CertificateReading as certificates
use Rattle.net_dimacs.specs.CertificateWritten.{certificate_text, FitsTypes}
use Rattle.net_dimacs.specs.Reading.{read_text}
use Rattle.net_dimacs.specs.Written.{problem_text}

abbrev pub AreProblemsReadBack : Type 0
AreProblemsReadBack = (supplies : List ℤ) (arcs : List FlowArc) → IsWithinLimits supplies arcs → read_text (problem_text supplies arcs) ≡ Ok (supplies, arcs)

-- a certificate for the problem with these supplies and arcs
abbrev pub AreCertificatesReadBack : Type 0
AreCertificatesReadBack = (supplies : List ℤ) (arcs : List FlowArc) (account : Account) → IsWithinLimits supplies arcs → IsOfSize (length supplies) arcs account → FitsTypes account
    → certificates.read_text (length supplies) arcs (certificate_text arcs account) ≡ Ok account
