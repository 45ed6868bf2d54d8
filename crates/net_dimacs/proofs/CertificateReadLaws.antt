-- What a caller of the reader of certificates may rely on.
use Rattle.std.proofs.Common.{◌≡◌, ◌≤◌, ◌<◌, ℕ, ◌+◌, Bool, true, false, cond, List, [], ◌∷◌, Some, None, Ok, Err, refl, sym, ap, subst, ◌∙◌, length, arith, inl, inr}
use Rattle.std.specs.Prelude.{◌⊎◌, Option, Result, IfOk, nat_lt}
use Rattle.std.specs.Str.Lines.{lines}
use Rattle.std.proofs.lemmas.Bool.Decides.{nat_tests}
use Rattle.net_normal.specs.declared.problem.FlowArc.{FlowArc}
use Rattle.net_normal.specs.declared.problem.Problem.{Problem}
use Rattle.net_check.specs.Certificates.{HasShape}
use Rattle.net_check.specs.declared.certificate.Certificate.{Certificate}
use Rattle.net_check.specs.declared.certificate.Certificate.TheVariants as certificates
use Rattle.net_dimacs.specs.declared.claim.Claim.{Claim}
use Rattle.net_dimacs.specs.declared.problem_fault.LineFault.{LineFault}
use Rattle.net_dimacs.specs.declared.problem_fault.LineFault.TheVariants as line_faults
use Rattle.net_dimacs.specs.declared.problem_fault.Rejection.{Rejection}
use Rattle.net_dimacs.specs.declared.problem_fault.ProblemFault.{ProblemFault}
use Rattle.net_dimacs.specs.declared.problem_fault.ProblemFault.TheVariants as faults
use Rattle.net_dimacs.specs.Limits.{text_limit}
use Rattle.net_dimacs.specs.Claims.{claimed}
use Rattle.net_dimacs.specs.Certificates.{Account, Optimal, Cut, account_of, BeginsCertificate, IsOfSize, IsCertificateText, IsNoCertificateText, IsOnlyCertificate}
use Rattle.net_dimacs.specs.CertificateReading.{first_claim, next_claim, Progress, Start, Open, Rejected, progress_from, with_claim, with_claimed, missing, finished, read_lines, read_text, Fails, Gives, IfRejected}
use Rattle.net_dimacs.specs.CertificateDrafts.{Stops}
use Rattle.net_dimacs.proofs.CertificateSound.{rejected_stays, is_certificate_text}
use Rattle.net_dimacs.proofs.CertificateComplete.{text_is_read, one_certificate}

abbrev too_long : Rejection
too_long = record { fault = line_faults.TooLarge; line = 1 }

read_by : (t : Bool) (rest : Result Account Rejection) (x : Account) → cond t (Err too_long) rest ≡ Ok x → rest ≡ Ok x
read_by true rest x e = absurd cc
read_by false rest x e = e

read_ok : (text : List ℕ) (nodes : ℕ) (arcs : List FlowArc) (x : Account) → read_text nodes arcs text ≡ Ok x → read_lines nodes arcs 1 Start (lines text) ≡ Ok x
read_ok text nodes arcs x e = read_by (nat_lt text_limit (length text)) (read_lines nodes arcs 1 Start (lines text)) x e

pub is_found : (text : List ℕ) (nodes : ℕ) (arcs : List FlowArc) (r : Result Certificate ProblemFault) → Gives (read_text nodes arcs text) r → IfOk r (λ c. IsCertificateText text nodes arcs (account_of c))
is_found text nodes arcs (Ok c) given = is_certificate_text text nodes arcs (account_of c) (read_ok text nodes arcs (account_of c) given)
is_found text nodes arcs (Err e) given = tt

pub is_only : (text : List ℕ) (nodes : ℕ) (arcs : List FlowArc) (r : Result Certificate ProblemFault) → Gives (read_text nodes arcs text) r → IfOk r (λ c. IsOnlyCertificate text nodes arcs (account_of c))
is_only text nodes arcs (Ok c) given = λ other t. one_certificate text nodes arcs (account_of c) other (is_found text nodes arcs (Ok c) given) t
is_only text nodes arcs (Err e) given = tt

shape_from_size : (p : Problem) (c : Certificate) → IsOfSize (length p.supplies.items) p.arcs.items (account_of c) → HasShape p c
shape_from_size p (certificates.Optimal value flows potentials) size = record { one_an_arc = omega (arith, size.0, p.arcs.ok.0); one_a_node = omega (arith, size.1, p.supplies.ok.0) }
shape_from_size p (certificates.Cut flags side) size = omega (arith, size, p.supplies.ok.0)

pub size_from_shape : (p : Problem) (c : Certificate) → HasShape p c → IsOfSize (length p.supplies.items) p.arcs.items (account_of c)
size_from_shape p (certificates.Optimal value flows potentials) shape = let a = shape.one_an_arc in let n = shape.one_a_node in (omega (arith, p.arcs.ok.0), omega (arith, p.supplies.ok.0))
size_from_shape p (certificates.Cut flags side) shape = omega (arith, p.supplies.ok.0)

pub is_shaped : (text : List ℕ) (p : Problem) (r : Result Certificate ProblemFault) → Gives (read_text (length p.supplies.items) p.arcs.items text) r → IfOk r (λ c. HasShape p c)
is_shaped text p (Ok c) given = let t : IsCertificateText text (length p.supplies.items) p.arcs.items (account_of c) = is_found text (length p.supplies.items) p.arcs.items (Ok c) given in shape_from_size p c t.size
is_shaped text p (Err e) given = tt

no_certificate : (text : List ℕ) (nodes : ℕ) (arcs : List FlowArc) (r : Rejection) → read_lines nodes arcs 1 Start (lines text) ≡ Err r → IsNoCertificateText text nodes arcs
no_certificate text nodes arcs r e = λ account t. let read = text_is_read text nodes arcs account t in let h = sym e ∙ read in cc

rejected_by : (text : List ℕ) (nodes : ℕ) (arcs : List FlowArc) (r : Rejection) (t : Bool) → nat_lt text_limit (length text) ≡ t → cond t (Err too_long) (read_lines nodes arcs 1 Start (lines text)) ≡ Err r
    → (text_limit < length text) ⊎ IsNoCertificateText text nodes arcs
rejected_by text nodes arcs r true long e = inl (grind (arith, nat_tests))
rejected_by text nodes arcs r false long e = inr (no_certificate text nodes arcs r e)

pub is_rejected : (text : List ℕ) (nodes : ℕ) (arcs : List FlowArc) (r : Result Certificate ProblemFault) → Gives (read_text nodes arcs text) r → IfRejected r (λ _. (text_limit < length text) ⊎ IsNoCertificateText text nodes arcs)
is_rejected text nodes arcs (Ok c) given = tt
is_rejected text nodes arcs (Err faults.OutOfMemory) given = tt
is_rejected text nodes arcs (Err (faults.Rejected r)) given = rejected_by text nodes arcs r (nat_lt text_limit (length text)) refl given

-- ---- where reading stops

stops_there : (nodes : ℕ) (arcs : List FlowArc) (line : ℕ) (progress : Progress) (ls : List (List ℕ)) (fault : ProblemFault) → Stops progress fault → Fails (read_lines nodes arcs line progress ls) fault
stops_there nodes arcs line progress ls faults.OutOfMemory stops = tt
stops_there nodes arcs line progress ls (faults.Rejected r) stops = ap (λ (p : Progress). read_lines nodes arcs line p ls) stops ∙ rejected_stays nodes arcs line r ls

short_text : (text : List ℕ) (rest : Result Account Rejection) → length text ≤ text_limit → cond (nat_lt text_limit (length text)) (Err too_long) rest ≡ rest
short_text text rest h = let short : nat_lt text_limit (length text) ≡ false = grind (arith, nat_tests) in ap (λ (t : Bool). cond t (Err too_long) rest) short

-- the first line that is not taken
pub is_stopped : (nodes : ℕ) (arcs : List FlowArc) (text : List ℕ) (number : ℕ) (progress : Progress) (ls more : List (List ℕ)) (line : List ℕ) (claim : Claim) (fault : ProblemFault) → length text ≤ text_limit
    → read_lines nodes arcs number progress ls ≡ read_lines nodes arcs 1 Start (lines text) → ls ≡ line ∷ more → claimed line ≡ Some claim → Stops (with_claim nodes arcs number progress claim) fault → Fails (read_text nodes arcs text) fault
is_stopped nodes arcs text number progress ls more line claim fault short same parts says stops =
    let read : read_lines nodes arcs (number + 1) (with_claim nodes arcs number progress claim) more ≡ read_text nodes arcs text =
    ap (λ (x : Option Claim). read_lines nodes arcs (number + 1) (with_claimed nodes arcs number progress x) more) (sym says)
    ∙ ap (λ (xs : List (List ℕ)). read_lines nodes arcs number progress xs) (sym parts)
    ∙ same
    ∙ sym (short_text text (read_lines nodes arcs 1 Start (lines text)) short) in
    subst (λ (x : Result Account Rejection). Fails x fault) read (stops_there nodes arcs (number + 1) (with_claim nodes arcs number progress claim) more fault stops)

-- ---- where memory runs out

-- all claims are still left, or the first of them began a certificate
abbrev pub IsBegun : List Claim → List Claim → Option Certificate → Type 0
IsBegun all left None = all ≡ left
IsBegun all left (Some certificate) = BeginsCertificate all

-- ---- the line of a refusal

record IsAt (from to : ℕ) (r : Rejection) : Type 0 where
  low : from ≤ r.line
  high : r.line ≤ to

abbrev IsPlaced : ℕ → Progress → Type 0
IsPlaced line Start = Unit {0}
IsPlaced line (Open a) = Unit {0}
IsPlaced line (Rejected r) = IsAt 1 line r

kept_placed : (line : ℕ) (read : Result Account LineFault) → 1 ≤ line → IsPlaced (line + 1) (progress_from line read)
kept_placed line (Ok a) some = tt
kept_placed line (Err fault) some = record { low = some; high = omega arith }

claimed_placed : (nodes : ℕ) (arcs : List FlowArc) (line : ℕ) (progress : Progress) (x : Option Claim) → 1 ≤ line → IsPlaced line progress → IsPlaced (line + 1) (with_claimed nodes arcs line progress x)
claimed_placed nodes arcs line Start None some here = tt
claimed_placed nodes arcs line (Open a) None some here = tt
claimed_placed nodes arcs line (Rejected r) None some here = record { low = here.low; high = omega (arith, here.high) }
claimed_placed nodes arcs line Start (Some claim) some here = kept_placed line (first_claim claim) some
claimed_placed nodes arcs line (Open a) (Some claim) some here = kept_placed line (next_claim nodes arcs a claim) some
claimed_placed nodes arcs line (Rejected r) (Some claim) some here = record { low = here.low; high = omega (arith, here.high) }

missing_placed : (line : ℕ) (r : Rejection) → 1 ≤ line → missing line ≡ Err r → IsAt 1 line r
missing_placed line r some e = let same : (record { fault = line_faults.Certificate; line = line }) ≡ r = cc in subst (IsAt 1 line) same (record { low = some; high = omega arith })

end_by : (t : Bool) (line : ℕ) (x : Account) (r : Rejection) → 1 ≤ line → cond t (Ok x) (missing line) ≡ Err r → IsAt 1 line r
end_by true line x r some e = absurd cc
end_by false line x r some e = missing_placed line r some e

end_placed : (nodes : ℕ) (arcs : List FlowArc) (line : ℕ) (progress : Progress) (r : Rejection) → 1 ≤ line → IsPlaced line progress → finished nodes arcs line progress ≡ Err r → IsAt 1 line r
end_placed nodes arcs line Start r some here e = missing_placed line r some e
end_placed nodes arcs line (Open (Optimal value flows potentials)) r some here e = end_by _ line (Optimal value flows potentials) r some e
end_placed nodes arcs line (Open (Cut flags side)) r some here e = absurd cc
end_placed nodes arcs line (Rejected x) r some here e = let same : x ≡ r = cc in subst (IsAt 1 line) same here

lines_placed : (nodes : ℕ) (arcs : List FlowArc) (line : ℕ) (progress : Progress) (ls : List (List ℕ)) (r : Rejection) → 1 ≤ line → IsPlaced line progress → read_lines nodes arcs line progress ls ≡ Err r → IsAt 1 (line + length ls) r
lines_placed nodes arcs line progress [] r some here e = let at = end_placed nodes arcs line progress r some here e in record { low = at.low; high = omega (arith, at.high) }
lines_placed nodes arcs line progress (l ∷ ls) r some here e =
    let at = lines_placed nodes arcs (line + 1) (with_claimed nodes arcs line progress (claimed l)) ls r (omega arith) (claimed_placed nodes arcs line progress (claimed l) some here) e in
    record { low = at.low; high = omega (arith, at.high) }

placed_by : (text : List ℕ) (nodes : ℕ) (arcs : List FlowArc) (r : Rejection) (t : Bool) → cond t (Err too_long) (read_lines nodes arcs 1 Start (lines text)) ≡ Err r → (1 ≤ r.line) × (r.line ≤ length (lines text) + 1)
placed_by text nodes arcs r true e = let same : too_long ≡ r = cc in subst (λ (x : Rejection). (1 ≤ x.line) × (x.line ≤ length (lines text) + 1)) same (omega arith, omega arith)
placed_by text nodes arcs r false e = let at = lines_placed nodes arcs 1 Start (lines text) r (omega arith) tt e in (at.low, omega (arith, at.high))

pub is_placed : (text : List ℕ) (nodes : ℕ) (arcs : List FlowArc) (r : Result Certificate ProblemFault) → Gives (read_text nodes arcs text) r → IfRejected r (λ x. (1 ≤ x.line) × (x.line ≤ length (lines text) + 1))
is_placed text nodes arcs (Ok c) given = tt
is_placed text nodes arcs (Err faults.OutOfMemory) given = tt
is_placed text nodes arcs (Err (faults.Rejected r)) given = placed_by text nodes arcs r (nat_lt text_limit (length text)) given
