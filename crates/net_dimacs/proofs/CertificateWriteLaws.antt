-- What a caller of the writer of certificates may rely on.
use Rattle.std.proofs.Common.{◌≡◌, ◌<◌, ℕ, ◌^◌, List, Ok, Err, sym, subst, length, vec_len, arith, All}
use Rattle.std.specs.Prelude.{Result, IfOk}
use Rattle.std.specs.Global.{Vec}
use Rattle.net_normal.specs.Limits.{IsFlowArcOf}
use Rattle.net_normal.specs.declared.problem.Problem.{Problem}
use Rattle.net_check.specs.Certificates.{HasShape}
use Rattle.net_check.specs.declared.certificate.Certificate.{Certificate}
use Rattle.net_dimacs.specs.Certificates.{account_of, IsCertificateText, IsOnlyCertificate}
use Rattle.net_dimacs.specs.CertificateWritten.{certificate_text, FitsTypes}
use Rattle.net_dimacs.proofs.CertificateComplete.{one_certificate}
use Rattle.net_dimacs.proofs.CertificateLines.{written_certificate_is}
use Rattle.net_dimacs.proofs.CertificateReadLaws.{size_from_shape}

few_nodes : (p : Problem) → length p.supplies.items < 2 ^ 32
few_nodes p = omega (arith, p.few_nodes, p.supplies.ok.0)

arcs_fit : (p : Problem) → All (IsFlowArcOf (length p.supplies.items)) p.arcs.items
arcs_fit p = let e : vec_len p.supplies ≡ length p.supplies.items = omega (arith, p.supplies.ok.0) in subst (λ (n : ℕ). All (IsFlowArcOf n) p.arcs.items) e p.arcs_fit

pub written_ok : {E : Type 0} (p : Problem) (c : Certificate) (r : Result (Vec ℕ) E) → HasShape p c → IfOk r (λ t. t.items ≡ certificate_text p.arcs.items (account_of c)) → IfOk r (λ _. FitsTypes (account_of c))
    → IfOk r (λ t. IsCertificateText t.items (length p.supplies.items) p.arcs.items (account_of c))
written_ok p c (Ok t) shape e fits =
    subst (λ (text : List ℕ). IsCertificateText text (length p.supplies.items) p.arcs.items (account_of c)) (sym e)
    (written_certificate_is (length p.supplies.items) p.arcs.items (account_of c) (few_nodes p) (arcs_fit p) (size_from_shape p c shape) fits)
written_ok p c (Err fault) shape e fits = tt

pub written_only : {E : Type 0} (p : Problem) (c : Certificate) (r : Result (Vec ℕ) E) → HasShape p c → IfOk r (λ t. t.items ≡ certificate_text p.arcs.items (account_of c)) → IfOk r (λ _. FitsTypes (account_of c))
    → IfOk r (λ t. IsOnlyCertificate t.items (length p.supplies.items) p.arcs.items (account_of c))
written_only {E} p c (Ok t) shape e fits = λ other text. one_certificate t.items (length p.supplies.items) p.arcs.items (account_of c) other (written_ok {E = E} p c (Ok t) shape e fits) text
written_only p c (Err fault) shape e fits = tt
