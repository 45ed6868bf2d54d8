-- A certificate that a text is, is read.
use Rattle.std.proofs.Common.{◌≡◌, ◌≤◌, ◌<◌, ℕ, zero, suc, ◌+◌, ◌-◌, ◌==◌, Bool, true, false, cond, ◌&&◌, List, [], ◌∷◌, ◌++◌, ℤ, Some, None, Ok, Err, refl, sym, ap, subst, ◌∙◌, length, replicate, arith, append-nil, append_assoc, length-append}
use Rattle.std.specs.Prelude.{Option, Result, filter_map, nat_le, nat_lt, slice_get}
use Rattle.std.specs.List.{cons_option}
use Rattle.std.specs.Str.Lines.{lines}
use Rattle.std.proofs.lemmas.Bool.Decides.{nat_tests}
use Rattle.std.proofs.lemmas.List.{length-replicate, replicate_more}
use Rattle.net_normal.specs.declared.problem.FlowArc.{FlowArc}
use Rattle.net_check.specs.declared.certificate.Side.{Side}
use Rattle.net_dimacs.specs.declared.claim.Claim.{Claim}
use Rattle.net_dimacs.specs.declared.claim.Claim.TheVariants as claims
use Rattle.net_dimacs.specs.declared.problem_fault.LineFault.{LineFault}
use Rattle.net_dimacs.specs.declared.problem_fault.LineFault.TheVariants as line_faults
use Rattle.net_dimacs.specs.declared.problem_fault.Rejection.{Rejection}
use Rattle.net_dimacs.specs.Claims.{claimed}
use Rattle.net_dimacs.specs.Certificates.{Account, Optimal, Cut, flow_claim, flow_claims, potential_claims, member_claims, claims_in, IsOfSize, IsCertificateText}
use Rattle.net_dimacs.specs.CertificateReading.{with_number, is_node, are_ends, first_claim, in_account, next_claim, Start, Open, progress_from, with_claimed, missing, completed, read_lines}

-- ---- claims one after the other

-- a certificate is whole, whatever the line
abbrev Whole : ℕ → List FlowArc → Account → Account → Type 0
Whole nodes arcs a account = (line : ℕ) → completed nodes arcs line a ≡ Ok account

-- these claims lead to this certificate
abbrev Leads : ℕ → List FlowArc → Account → List Claim → Account → Type 0
Leads nodes arcs a [] account = Whole nodes arcs a account
Leads nodes arcs a (claim ∷ more) account = (b : Account) × (next_claim nodes arcs a claim ≡ Ok b) × Leads nodes arcs b more account

same_head : {A : Type 0} (x y : A) (xs ys : List A) → x ∷ xs ≡ y ∷ ys → (x ≡ y) × (xs ≡ ys)
same_head x y xs ys e = (cc, cc)

abbrev LinesLead : ℕ → List FlowArc → List (List ℕ) → Account → Type 0
LinesLead nodes arcs ls account = (line : ℕ) (a : Account) (says : List Claim) → filter_map claimed ls ≡ says → Leads nodes arcs a says account → read_lines nodes arcs line (Open a) ls ≡ Ok account

line_leads : (nodes : ℕ) (arcs : List FlowArc) (line : ℕ) (a : Account) (x : Option Claim) (ls : List (List ℕ)) (says : List Claim) (account : Account) → LinesLead nodes arcs ls account
    → cons_option x (filter_map claimed ls) ≡ says → Leads nodes arcs a says account → read_lines nodes arcs (line + 1) (with_claimed nodes arcs line (Open a) x) ls ≡ Ok account
line_leads nodes arcs line a None ls says account more e leads = more (line + 1) a says e leads
line_leads nodes arcs line a (Some claim) ls [] account more e leads = absurd cc
line_leads nodes arcs line a (Some claim) ls (c ∷ says) account more e leads =
    let both = same_head claim c (filter_map claimed ls) says e in
    ap (λ (x : Claim). read_lines nodes arcs (line + 1) (progress_from line (next_claim nodes arcs a x)) ls) both.0
    ∙ ap (λ (r : Result Account LineFault). read_lines nodes arcs (line + 1) (progress_from line r) ls) leads.1
    ∙ more (line + 1) leads.0 says both.1 leads.2

lines_lead : (nodes : ℕ) (arcs : List FlowArc) (ls : List (List ℕ)) (account : Account) → LinesLead nodes arcs ls account
lines_lead nodes arcs [] account line a [] e leads = leads line
lines_lead nodes arcs [] account line a (c ∷ says) e leads = absurd cc
lines_lead nodes arcs (l ∷ ls) account line a says e leads = line_leads nodes arcs line a (claimed l) ls says account (lines_lead nodes arcs ls account) e leads

head_leads : (nodes : ℕ) (arcs : List FlowArc) (line : ℕ) (x : Option Claim) (ls : List (List ℕ)) (c : Claim) (says : List Claim) (a account : Account) → first_claim c ≡ Ok a → Leads nodes arcs a says account
    → (filter_map claimed ls ≡ c ∷ says → read_lines nodes arcs (line + 1) Start ls ≡ Ok account)
    → cons_option x (filter_map claimed ls) ≡ c ∷ says → read_lines nodes arcs (line + 1) (with_claimed nodes arcs line Start x) ls ≡ Ok account
head_leads nodes arcs line None ls c says a account first leads more e = more e
head_leads nodes arcs line (Some claim) ls c says a account first leads more e =
    let both = same_head claim c (filter_map claimed ls) says e in
    ap (λ (x : Claim). read_lines nodes arcs (line + 1) (progress_from line (first_claim x)) ls) both.0
    ∙ ap (λ (r : Result Account LineFault). read_lines nodes arcs (line + 1) (progress_from line r) ls) first
    ∙ lines_lead nodes arcs ls account (line + 1) a says both.1 leads

start_leads : (nodes : ℕ) (arcs : List FlowArc) (line : ℕ) (ls : List (List ℕ)) (c : Claim) (says : List Claim) (a account : Account) → first_claim c ≡ Ok a → Leads nodes arcs a says account
    → filter_map claimed ls ≡ c ∷ says → read_lines nodes arcs line Start ls ≡ Ok account
start_leads nodes arcs line [] c says a account first leads e = absurd cc
start_leads nodes arcs line (l ∷ ls) c says a account first leads e = head_leads nodes arcs line (claimed l) ls c says a account first leads (start_leads nodes arcs (line + 1) ls c says a account first leads) e

-- ---- tests that pass

equal : (n m : ℕ) → n ≡ m → (n == m) ≡ true
equal n m e = grind (arith, nat_tests)

below : (n m : ℕ) → n < m → nat_lt n m ≡ true
below n m h = grind (arith, nat_tests)

at_most : (n m : ℕ) → n ≤ m → nat_le n m ≡ true
at_most n m h = grind (arith, nat_tests)

both : (s t : Bool) → s ≡ true → t ≡ true → (s && t) ≡ true
both true t p q = q
both false t p q = absurd cc

-- ---- flows

get_middle : (xs ys : List FlowArc) (arc : FlowArc) (k : ℕ) → k ≡ length xs → slice_get (xs ++ arc ∷ ys) k ≡ Some arc
get_middle [] ys arc zero e = refl
get_middle [] ys arc (suc k) e = absurd (omega arith)
get_middle (x ∷ xs) ys arc zero e = absurd (omega arith)
get_middle (x ∷ xs) ys arc (suc k) e = get_middle xs ys arc k (omega arith)

flow_leads : (nodes : ℕ) (arcs : List FlowArc) (value : ℤ) (flows : List ℤ) (arc : FlowArc) (z : ℤ) → slice_get arcs (length flows) ≡ Some arc
    → next_claim nodes arcs (Optimal value flows []) (flow_claim arc z) ≡ Ok (Optimal value (flows ++ z ∷ []) [])
flow_leads nodes arcs value flows arc z e =
    let ends : are_ends (slice_get arcs (length flows)) (Some arc.src) (Some arc.dst) ≡ true =
    ap (λ (o : Option FlowArc). are_ends o (Some arc.src) (Some arc.dst)) e ∙ both (arc.src == arc.src) (arc.dst == arc.dst) (equal arc.src arc.src refl) (equal arc.dst arc.dst refl) in
    ap (λ (t : Bool). in_account (λ zs. Optimal value zs []) (cond t (with_number flows (Some z)) (Err line_faults.Certificate))) ends

flows_lead : (nodes : ℕ) (arcs done left : List FlowArc) (value : ℤ) (flows rest : List ℤ) (more : List Claim) (account : Account) → arcs ≡ done ++ left → length flows ≡ length done → length rest ≡ length left
    → Leads nodes arcs (Optimal value (flows ++ rest) []) more account → Leads nodes arcs (Optimal value flows []) (flow_claims left rest ++ more) account
flows_lead nodes arcs done [] value flows [] more account e f g leads = subst (λ (zs : List ℤ). Leads nodes arcs (Optimal value zs []) more account) (append-nil flows) leads
flows_lead nodes arcs done [] value flows (z ∷ rest) more account e f g leads = absurd (omega arith)
flows_lead nodes arcs done (arc ∷ left) value flows [] more account e f g leads = absurd (omega arith)
flows_lead nodes arcs done (arc ∷ left) value flows (z ∷ rest) more account e f g leads =
    let at : slice_get arcs (length flows) ≡ Some arc = ap (λ (xs : List FlowArc). slice_get xs (length flows)) e ∙ get_middle done left arc (length flows) f in (
      Optimal value (flows ++ z ∷ []) [],
      flow_leads nodes arcs value flows arc z at,
      flows_lead nodes arcs (done ++ arc ∷ []) left value (flows ++ z ∷ []) rest more account
          (e ∙ sym (append_assoc done (arc ∷ []) left))
          (omega (arith, length-append flows (z ∷ []), length-append done (arc ∷ [])))
          (omega arith)
          (subst (λ (zs : List ℤ). Leads nodes arcs (Optimal value zs []) more account) (sym (append_assoc flows (z ∷ []) rest)) leads),
    )

-- ---- potentials

potential_leads : (nodes : ℕ) (arcs : List FlowArc) (value : ℤ) (flows potentials : List ℤ) (v : ℕ) (z : ℤ) → length flows ≡ length arcs → v ≡ length potentials → v < nodes
    → next_claim nodes arcs (Optimal value flows potentials) (claims.Potential (Some v) (Some z)) ≡ Ok (Optimal value flows (potentials ++ z ∷ []))
potential_leads nodes arcs value flows potentials v z whole at within =
    let passes : (length flows == length arcs && (nat_lt (length potentials) nodes && is_node (Some v) (length potentials))) ≡ true =
    both (length flows == length arcs) (nat_lt (length potentials) nodes && is_node (Some v) (length potentials)) (equal (length flows) (length arcs) whole)
    (both (nat_lt (length potentials) nodes) (v == length potentials) (below (length potentials) nodes (omega arith)) (equal v (length potentials) at)) in
    ap (λ (t : Bool). in_account (λ zs. Optimal value flows zs) (cond t (with_number potentials (Some z)) (Err line_faults.Certificate))) passes

whole_optimal : (nodes : ℕ) (arcs : List FlowArc) (value : ℤ) (flows potentials : List ℤ) → length flows ≡ length arcs → length potentials ≡ nodes → Whole nodes arcs (Optimal value flows potentials) (Optimal value flows potentials)
whole_optimal nodes arcs value flows potentials e f line =
    ap (λ (t : Bool). cond {A = Result Account Rejection} t (Ok (Optimal value flows potentials)) (missing line))
    (both (length flows == length arcs) (length potentials == nodes) (equal (length flows) (length arcs) e) (equal (length potentials) nodes f))

potentials_lead : (nodes : ℕ) (arcs : List FlowArc) (value : ℤ) (flows potentials rest : List ℤ) (v : ℕ) → length flows ≡ length arcs → v ≡ length potentials → length potentials + length rest ≡ nodes
    → Leads nodes arcs (Optimal value flows potentials) (potential_claims v rest) (Optimal value flows (potentials ++ rest))
potentials_lead nodes arcs value flows potentials [] v e at size =
    subst (λ (zs : List ℤ). Whole nodes arcs (Optimal value flows potentials) (Optimal value flows zs)) (sym (append-nil potentials)) (whole_optimal nodes arcs value flows potentials e (omega arith))
potentials_lead nodes arcs value flows potentials (z ∷ rest) v e at size = (
  Optimal value flows (potentials ++ z ∷ []),
  potential_leads nodes arcs value flows potentials v z e at (omega arith),
  subst (λ (zs : List ℤ). Leads nodes arcs (Optimal value flows (potentials ++ z ∷ [])) (potential_claims (v + 1) rest) (Optimal value flows zs)) (append_assoc potentials (z ∷ []) rest)
      (potentials_lead nodes arcs value flows (potentials ++ z ∷ []) rest (v + 1) e (omega (arith, length-append potentials (z ∷ []))) (omega (arith, length-append potentials (z ∷ [])))),
)

-- ---- the nodes of a set

member_leads : (nodes : ℕ) (arcs : List FlowArc) (flags : List Bool) (side : Side) (v k : ℕ) → v ≡ length flags + k → v < nodes
    → next_claim nodes arcs (Cut flags side) (claims.Member (Some v)) ≡ Ok (Cut (flags ++ (replicate k false ++ true ∷ [])) side)
member_leads nodes arcs flags side v k at within =
    let passes : (nat_le (length flags) v && nat_lt v nodes) ≡ true = both (nat_le (length flags) v) (nat_lt v nodes) (at_most (length flags) v (omega arith)) (below v nodes within) in
    let gap : v - length flags ≡ k = omega arith in
    ap (λ (t : Bool). in_account (λ bs. Cut bs side) (cond {A = Result (List Bool) LineFault} t (Ok (flags ++ (replicate (v - length flags) false ++ true ∷ []))) (Err line_faults.Certificate))) passes
    ∙ ap (λ (n : ℕ). Ok (Cut (flags ++ (replicate n false ++ true ∷ [])) side)) gap

members_lead : (nodes : ℕ) (arcs : List FlowArc) (flags : List Bool) (side : Side) (rest : List Bool) (v k : ℕ) → v ≡ length flags + k → v + length rest ≡ nodes
    → Leads nodes arcs (Cut flags side) (member_claims v rest) (Cut (flags ++ (replicate k false ++ rest)) side)
members_lead nodes arcs flags side [] v k at size = λ line.
    ap (λ (n : ℕ). Ok (Cut (flags ++ replicate n false) side)) (let gap : nodes - length flags ≡ k = omega arith in gap)
    ∙ ap (λ (bs : List Bool). Ok (Cut (flags ++ bs) side)) (sym (append-nil (replicate k false)))
members_lead nodes arcs flags side (true ∷ rest) v k at size =
    let more : List Bool = flags ++ (replicate k false ++ true ∷ []) in
    let long : length more ≡ v + 1 = omega (arith, length-append flags (replicate k false ++ true ∷ []), length-append (replicate k false) (true ∷ []), length-replicate k false) in
    let same : more ++ rest ≡ flags ++ (replicate k false ++ true ∷ rest) =
    append_assoc flags (replicate k false ++ true ∷ []) rest ∙ ap (λ (bs : List Bool). flags ++ bs) (append_assoc (replicate k false) (true ∷ []) rest) in (
      Cut more side,
      member_leads nodes arcs flags side v k at (omega arith),
      subst (λ (bs : List Bool). Leads nodes arcs (Cut more side) (member_claims (v + 1) rest) (Cut bs side)) same
          (members_lead nodes arcs more side rest (v + 1) 0 (omega (arith, long)) (omega arith)),
    )
members_lead nodes arcs flags side (false ∷ rest) v k at size =
    let same : replicate (k + 1) false ++ rest ≡ replicate k false ++ false ∷ rest =
    ap (λ (bs : List Bool). bs ++ rest) (sym (replicate_more k false)) ∙ append_assoc (replicate k false) (false ∷ []) rest in
    subst (λ (bs : List Bool). Leads nodes arcs (Cut flags side) (member_claims (v + 1) rest) (Cut (flags ++ bs) side)) same
    (members_lead nodes arcs flags side rest (v + 1) (k + 1) (omega arith) (omega arith))

-- ---- the whole text

account_read : (ls : List (List ℕ)) (nodes : ℕ) (arcs : List FlowArc) (account : Account) → IsOfSize nodes arcs account → filter_map claimed ls ≡ claims_in arcs account → read_lines nodes arcs 1 Start ls ≡ Ok account
account_read ls nodes arcs (Optimal value flows potentials) size says =
    start_leads nodes arcs 1 ls (claims.Value (Some value)) (flow_claims arcs flows ++ potential_claims 0 potentials) (Optimal value [] []) (Optimal value flows potentials) refl
    (flows_lead nodes arcs [] arcs value [] flows (potential_claims 0 potentials) (Optimal value flows potentials) refl refl size.0
    (potentials_lead nodes arcs value flows [] potentials 0 size.0 refl (let e : length {A = ℤ} [] + length potentials ≡ nodes = omega (arith, size.1) in e)))
    says
account_read ls nodes arcs (Cut flags side) size says =
    start_leads nodes arcs 1 ls (claims.Side side) (member_claims 0 flags) (Cut [] side) (Cut flags side) refl
    (members_lead nodes arcs [] side flags 0 0 refl (omega (arith, size))) says

pub text_is_read : (text : List ℕ) (nodes : ℕ) (arcs : List FlowArc) (account : Account) → IsCertificateText text nodes arcs account → read_lines nodes arcs 1 Start (lines text) ≡ Ok account
text_is_read text nodes arcs account t = account_read (lines text) nodes arcs account t.size t.says

pub one_certificate : (text : List ℕ) (nodes : ℕ) (arcs : List FlowArc) (account other : Account) → IsCertificateText text nodes arcs account → IsCertificateText text nodes arcs other → other ≡ account
one_certificate text nodes arcs account other t u = let p = text_is_read text nodes arcs account t in let q = text_is_read text nodes arcs other u in cc
