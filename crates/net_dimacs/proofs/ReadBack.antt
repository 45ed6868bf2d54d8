-- What is written is short enough to be read, and is read back.
use Rattle.std.specs.Prelude.{◌≡◌, ℕ, ◌≤◌, false, length, nat_lt, if◌then◌else◌, Err, Result}
use Rattle.std.proofs.Common.{ap, ◌∙◌, arith}
use Rattle.std.proofs.lemmas.Bool.Decides.{nat_tests}
use Rattle.net_dimacs.specs.declared.problem_fault.Rejection.{Rejection}
use Rattle.net_dimacs.specs.CertificateWritten.{certificate_text}
use Rattle.net_dimacs.specs.Limits.{text_limit}
use Rattle.net_dimacs.specs.ReadBack.{AreProblemsReadBack, AreCertificatesReadBack}
use Rattle.net_dimacs.specs.Written.{problem_text}
use Rattle.net_dimacs.proofs.CertificateComplete as certificate
use Rattle.net_dimacs.proofs.CertificateLines.{written_certificate_is}
use Rattle.net_dimacs.proofs.Complete.{text_is_read}
use Rattle.net_dimacs.proofs.Lengths.{problems_short, certificates_short}
use Rattle.net_dimacs.proofs.WrittenLines.{written_is}

not_past : (limit n : ℕ) → n ≤ limit → nat_lt limit n ≡ false
not_past limit n l = grind (arith, nat_tests)

short_enough : {A : Type 0} (n : ℕ) (x : Rejection) (read : Result A Rejection) → n ≤ text_limit → (if nat_lt text_limit n then Err x else read) ≡ read
short_enough n x read l = ap (λ b. if b then Err x else read) (not_past text_limit n l)

pub problems_back : AreProblemsReadBack
problems_back supplies arcs h =
    short_enough (length (problem_text supplies arcs)) _ _ (problems_short supplies arcs h)
    ∙ text_is_read (problem_text supplies arcs) supplies arcs (written_is supplies arcs h) h

pub certificates_back : AreCertificatesReadBack
certificates_back supplies arcs account h size fits =
    let few = h.few_nodes in
    short_enough (length (certificate_text arcs account)) _ _ (certificates_short (length supplies) arcs account size h.few_nodes h.few_arcs)
    ∙ certificate.text_is_read (certificate_text arcs account) (length supplies) arcs account (written_certificate_is (length supplies) arcs account (omega (arith, few)) h.arcs_fit size fits)
