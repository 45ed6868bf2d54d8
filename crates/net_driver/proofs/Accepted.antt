-- What settles a problem's text is a certificate, whichever call reads the two texts.
use Rattle.std.proofs.Common.{◌≡◌, ℕ, ◌≤◌, ◌<◌, List, length, Some, vec_len, ℤ, All, refl, sym, ◌∙◌, subst, arith, inl, inr}
use Rattle.std.specs.Prelude.{Bool, ◌<ℤ◌, slice_get}
use Rattle.std.specs.List.{AllZip}
use Rattle.net_normal.specs.Flows.{net_outflow, IsWithinCapacity}
use Rattle.net_normal.specs.Limits.{IsFlowArcOf, IsWithinLimits}
use Rattle.net_normal.specs.Sums.{price_of}
use Rattle.net_normal.specs.declared.problem.FlowArc.{FlowArc}
use Rattle.net_normal.specs.declared.problem.Problem.{Problem}
use Rattle.net_check.specs.Certificates.{IsCertificate, IsComplementary, most_out, least_out, supply_in}
use Rattle.net_check.specs.declared.certificate.Certificate.{Certificate}
use Rattle.net_check.specs.declared.certificate.Certificate.TheVariants as certificates
use Rattle.net_check.specs.declared.certificate.Side.{Side}
use Rattle.net_check.specs.declared.certificate.Side.TheVariants.{Over, Under}
use Rattle.net_check.specs.declared.checker.Verdict.{Verdict}
use Rattle.net_dimacs.specs.Certificates.{Account, Optimal, Cut, account_of, IsCertificateText}
use Rattle.net_dimacs.specs.Limits.{text_limit}
use Rattle.net_dimacs.specs.declared.problem_fault.LineFault.{LineFault}
use Rattle.net_dimacs.proofs.Lengths.{certificates_short}
use Rattle.net_driver.specs.Accepted.{AreAnswersAccepted, AreCompilationsReadBack}
use Rattle.net_driver.specs.Checked.{Judges, IsFirstLineFault, IsLineRejection, IsProblemRejection}
use Rattle.net_driver.specs.LineTexts.{IsProblemOf}
use Rattle.net_driver.specs.Settled.{Settles}
use Rattle.net_driver.specs.declared.driver_fault.Fault.{Fault}
use Rattle.net_driver.specs.declared.driver_fault.Fault.TheVariants.{OutOfMemory, Rejected, RejectedLine, Unread, Unwritten}
use Rattle.net_driver.specs.declared.driver_fault.TextName.{TextName}
use Rattle.net_driver.specs.declared.driver_fault.TextName.TheVariants as texts

-- ---- a certificate by the numbers alone

abbrev IsPast : List ℤ → List FlowArc → List Bool → Side → Type 0
IsPast supplies arcs flags Over = most_out arcs flags <ℤ supply_in supplies flags
IsPast supplies arcs flags Under = supply_in supplies flags <ℤ least_out arcs flags

record IsLeast (supplies : List ℤ) (arcs : List FlowArc) (value : ℤ) (flows potentials : List ℤ) : Type 0 where
  pub one_a_node : length potentials ≡ length supplies
  pub capacity : AllZip IsWithinCapacity arcs flows
  pub balance : (v : ℕ) (supply : ℤ) → slice_get supplies v ≡ Some supply → net_outflow arcs flows v ≡ supply
  pub cost : value ≡ price_of (λ arc. arc.cost) arcs flows
  pub slackness : AllZip (IsComplementary potentials) arcs flows

record IsCutOf (supplies : List ℤ) (arcs : List FlowArc) (flags : List Bool) (side : Side) : Type 0 where
  pub one_a_node : length flags ≡ length supplies
  pub violated : IsPast supplies arcs flags side

abbrev IsBy : List ℤ → List FlowArc → Account → Type 0
IsBy supplies arcs (Optimal value flows potentials) = IsLeast supplies arcs value flows potentials
IsBy supplies arcs (Cut flags side) = IsCutOf supplies arcs flags side

node_count : (p : Problem) → vec_len p.supplies ≡ length p.supplies.items
node_count p = omega (arith, p.supplies.ok.0)

limits_of : (p : Problem) → IsWithinLimits p.supplies.items p.arcs.items
limits_of p = record {
  some_node = omega (arith, p.some_node, p.supplies.ok.0);
  few_nodes = omega (arith, p.few_nodes, p.supplies.ok.0);
  few_arcs = omega (arith, p.few_arcs, p.arcs.ok.0);
  supplies_fit = p.supplies_fit;
  arcs_fit = subst (λ (n : ℕ). All (IsFlowArcOf n) p.arcs.items) (node_count p) p.arcs_fit;
}

by_numbers : (p : Problem) (settled : Certificate) → IsCertificate p settled → IsBy p.supplies.items p.arcs.items (account_of settled)
by_numbers p (certificates.Optimal value flows potentials) h =
    record { one_a_node = h.one_a_node ∙ node_count p; capacity = h.feasible.capacity; balance = h.feasible.balance; cost = h.cost; slackness = h.slackness }
by_numbers p (certificates.Cut flags Over) h = record { one_a_node = h.one_a_node ∙ node_count p; violated = h.violated }
by_numbers p (certificates.Cut flags Under) h = record { one_a_node = h.one_a_node ∙ node_count p; violated = h.violated }

from_numbers : (p : Problem) (c : Certificate) → IsBy p.supplies.items p.arcs.items (account_of c) → IsCertificate p c
from_numbers p (certificates.Optimal value flows potentials) h =
    record { one_a_node = h.one_a_node ∙ sym (node_count p); feasible = record { capacity = h.capacity; balance = h.balance }; cost = h.cost; slackness = h.slackness }
from_numbers p (certificates.Cut flags Over) h = record { one_a_node = h.one_a_node ∙ sym (node_count p); violated = h.violated }
from_numbers p (certificates.Cut flags Under) h = record { one_a_node = h.one_a_node ∙ sym (node_count p); violated = h.violated }

-- ---- the problem of a text is one

same_problem : (text : List ℕ) (p q : Problem) → IsProblemOf text p → IsProblemOf text q → (q.supplies.items ≡ p.supplies.items) × (q.arcs.items ≡ p.arcs.items)
same_problem text p q h k = h.only q.supplies.items q.arcs.items k.is

-- the answer is that certificate's text for whichever problem the text is read as
text_for : (text answer : List ℕ) (settled : Certificate) (s : Settles text settled answer) (q : Problem) → IsProblemOf text q → IsCertificateText answer (length q.supplies.items) q.arcs.items (account_of settled)
text_for text answer settled s q k =
    let same = same_problem text s.problem q s.is_problem k in
    subst (λ arcs. IsCertificateText answer (length q.supplies.items) arcs (account_of settled)) (sym same.1)
    (subst (λ (supplies : List ℤ). IsCertificateText answer (length supplies) s.problem.arcs.items (account_of settled)) (sym same.0) s.answer.1)

certifies : (text answer : List ℕ) (settled : Certificate) → Settles text settled answer → (verdict : Verdict) (j : Judges text answer verdict) → IsCertificate j.problem j.certificate
certifies text answer settled s verdict j =
    let same = same_problem text s.problem j.problem s.is_problem j.is_problem in
    let one = j.is_certificate.only (account_of settled) (text_for text answer settled s j.problem j.is_problem) in
    from_numbers j.problem j.certificate
    (subst (IsBy j.problem.supplies.items j.problem.arcs.items) one
    (subst (λ arcs. IsBy j.problem.supplies.items arcs (account_of settled)) (sym same.1)
    (subst (λ supplies. IsBy supplies s.problem.arcs.items (account_of settled)) (sym same.0)
    (by_numbers s.problem settled s.certificate))))

-- ---- neither text is refused

past : (n : ℕ) → n ≤ text_limit → text_limit < n → ⊥
past n l k = absurd (omega (arith, l, k))

answer_short : (text answer : List ℕ) (settled : Certificate) → Settles text settled answer → length answer ≤ text_limit
answer_short text answer settled s =
    let p = s.problem in
    let limits = limits_of p in
    subst (λ (t : List ℕ). length t ≤ text_limit) (sym s.answer.0)
    (certificates_short (length p.supplies.items) p.arcs.items (account_of settled) s.answer.1.size limits.few_nodes limits.few_arcs)

no_fault : (text answer : List ℕ) (settled : Certificate) → Settles text settled answer → (name : TextName) (fault : LineFault) (line : ℕ) → IsFirstLineFault text answer name fault line → ⊥
no_fault text answer settled s texts.Model fault line h = h
no_fault text answer settled s texts.Data fault line h = h
no_fault text answer settled s texts.Problem fault line h = elim h.none [
  | inl long ↦ past (length text) s.is_problem.short long
  | inr none ↦ none s.problem.supplies.items s.problem.arcs.items (limits_of s.problem) s.is_problem.is
]
no_fault text answer settled s texts.Certificate fault line (q, k, h) = elim h.none [
  | inl long ↦ past (length answer) (answer_short text answer settled s) long
  | inr none ↦ none (account_of settled) (text_for text answer settled s q k)
]

not_rejected : (text answer : List ℕ) (settled : Certificate) → Settles text settled answer → (fault : Fault) → IsLineRejection text answer fault → fault ≡ OutOfMemory
not_rejected text answer settled s OutOfMemory h = refl
not_rejected text answer settled s (Rejected r) h = absurd h
not_rejected text answer settled s (RejectedLine r) h = absurd (no_fault text answer settled s r.text r.fault r.line h)
not_rejected text answer settled s (Unread name) h = absurd h
not_rejected text answer settled s Unwritten h = absurd h

pub accepted : AreAnswersAccepted
accepted text answer settled s = record {
  yes = λ verdict j. j.yes.1 (certifies text answer settled s verdict j);
  taken = not_rejected text answer settled s;
}

-- ---- compiled texts

kept : (text answer : List ℕ) (settled : Certificate) (p : Problem) → IsProblemOf text p → Settles text settled answer → IsCertificate p settled
kept text answer settled p h s =
    let same = same_problem text p s.problem h s.is_problem in
    from_numbers p settled
    (subst (λ arcs. IsBy p.supplies.items arcs (account_of settled)) same.1
    (subst (λ supplies. IsBy supplies s.problem.arcs.items (account_of settled)) same.0
    (by_numbers s.problem settled s.certificate)))

not_refused : (text : List ℕ) (p : Problem) → IsProblemOf text p → (fault : Fault) → IsProblemRejection text fault → fault ≡ OutOfMemory
not_refused text p h OutOfMemory k = refl
not_refused text p h (Rejected r) k = absurd k
not_refused text p h (RejectedLine r) k = absurd (elim k.1.none [
  | inl long ↦ past (length text) h.short long
  | inr none ↦ none p.supplies.items p.arcs.items (limits_of p) h.is
])
not_refused text p h (Unread name) k = absurd k
not_refused text p h Unwritten k = absurd k

pub read_back : AreCompilationsReadBack
read_back requested m d c h short =
    let is : IsProblemOf c.text.items c.problem = record { short = short; is = h.written.problem; only = h.written.only } in
    record { is_problem = is; certified = λ settled answer. kept c.text.items answer settled c.problem is; taken = not_refused c.text.items c.problem is }
