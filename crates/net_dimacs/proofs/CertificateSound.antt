-- A certificate that is read is what the text claims.
use Rattle.std.proofs.Common.{◌≡◌, ◌≤◌, ◌<◌, ℕ, zero, suc, ◌+◌, ◌-◌, ◌==◌, Bool, true, false, cond, ◌&&◌, List, [], ◌∷◌, ◌++◌, ℤ, Some, None, Ok, Err, refl, sym, ap, subst, ◌∙◌, length, replicate, arith, append-nil, append_assoc, length-append, inl, inr}
use Rattle.std.specs.Prelude.{Option, Result, ◌⊎◌, filter_map, nat_le, nat_lt, slice_get}
use Rattle.std.specs.List.{cons_option}
use Rattle.std.specs.Str.Lines.{lines}
use Rattle.std.proofs.lemmas.Bool.{eqb-true}
use Rattle.std.proofs.lemmas.Bool.Decides.{nat_tests}
use Rattle.std.proofs.lemmas.Option.{slice_get_within}
use Rattle.std.proofs.lemmas.List.{length-replicate}
use Rattle.net_normal.specs.declared.problem.FlowArc.{FlowArc}
use Rattle.net_check.specs.declared.certificate.Side.{Side}
use Rattle.net_dimacs.specs.declared.claim.Claim.{Claim}
use Rattle.net_dimacs.specs.declared.claim.Claim.TheVariants as claims
use Rattle.net_dimacs.specs.declared.problem_fault.LineFault.{LineFault}
use Rattle.net_dimacs.specs.declared.problem_fault.LineFault.TheVariants as line_faults
use Rattle.net_dimacs.specs.declared.problem_fault.Rejection.{Rejection}
use Rattle.net_dimacs.specs.Claims.{claimed}
use Rattle.net_dimacs.specs.Certificates.{Account, Optimal, Cut, flow_claim, flow_claims, potential_claims, member_claims, claims_in, IsOfSize, IsCertificateText}
use Rattle.net_dimacs.specs.CertificateReading.{with_number, is_node, are_ends, with_flow, with_potential, with_member, first_claim, in_account, next_claim, Progress, Start, Open, Rejected, progress_from, with_claimed, missing, completed, read_lines}

-- ---- a refusal stays

rejected_with : (nodes : ℕ) (arcs : List FlowArc) (line : ℕ) (r : Rejection) (x : Option Claim) → with_claimed nodes arcs line (Rejected r) x ≡ Rejected r
rejected_with nodes arcs line r None = refl
rejected_with nodes arcs line r (Some claim) = refl

pub rejected_stays : (nodes : ℕ) (arcs : List FlowArc) (line : ℕ) (r : Rejection) (ls : List (List ℕ)) → read_lines nodes arcs line (Rejected r) ls ≡ Err r
rejected_stays nodes arcs line r [] = refl
rejected_stays nodes arcs line r (l ∷ ls) = ap (λ (p : Progress). read_lines nodes arcs (line + 1) p ls) (rejected_with nodes arcs line r (claimed l)) ∙ rejected_stays nodes arcs (line + 1) r ls

-- ---- one claim more

no_flows : (arcs : List FlowArc) → flow_claims arcs [] ≡ []
no_flows [] = refl
no_flows (arc ∷ arcs) = refl

flow_more : (arcs : List FlowArc) (flows : List ℤ) (arc : FlowArc) (z : ℤ) → slice_get arcs (length flows) ≡ Some arc → flow_claims arcs (flows ++ z ∷ []) ≡ flow_claims arcs flows ++ flow_claim arc z ∷ []
flow_more [] flows arc z e = absurd cc
flow_more (a ∷ arcs) [] arc z e = let same : a ≡ arc = cc in ap (λ (x : FlowArc). flow_claim x z ∷ flow_claims arcs []) same ∙ ap (λ (cs : List Claim). flow_claim arc z ∷ cs) (no_flows arcs)
flow_more (a ∷ arcs) (y ∷ flows) arc z e = ap (λ (cs : List Claim). flow_claim a y ∷ cs) (flow_more arcs flows arc z e)

potential_more : (v : ℕ) (potentials : List ℤ) (z : ℤ) → potential_claims v (potentials ++ z ∷ []) ≡ potential_claims v potentials ++ claims.Potential (Some (v + length potentials)) (Some z) ∷ []
potential_more v [] z = ap (λ (w : ℕ). claims.Potential (Some w) (Some z) ∷ []) (omega arith)
potential_more v (y ∷ potentials) z =
    ap (λ (cs : List Claim). claims.Potential (Some v) (Some y) ∷ cs)
    (potential_more (v + 1) potentials z ∙ ap (λ (w : ℕ). potential_claims (v + 1) potentials ++ claims.Potential (Some w) (Some z) ∷ []) (omega arith))

members_append : (v : ℕ) (xs ys : List Bool) → member_claims v (xs ++ ys) ≡ member_claims v xs ++ member_claims (v + length xs) ys
members_append v [] ys = ap (λ (w : ℕ). member_claims w ys) (omega arith)
members_append v (true ∷ xs) ys =
    ap (λ (cs : List Claim). claims.Member (Some v) ∷ cs) (members_append (v + 1) xs ys ∙ ap (λ (w : ℕ). member_claims (v + 1) xs ++ member_claims w ys) (omega arith))
members_append v (false ∷ xs) ys = members_append (v + 1) xs ys ∙ ap (λ (w : ℕ). member_claims (v + 1) xs ++ member_claims w ys) (omega arith)

no_members : (v n : ℕ) → member_claims v (replicate n false) ≡ []
no_members v zero = refl
no_members v (suc n) = no_members (v + 1) n

member_more : (flags : List Bool) (v : ℕ) → length flags ≤ v → member_claims 0 (flags ++ (replicate (v - length flags) false ++ true ∷ [])) ≡ member_claims 0 flags ++ claims.Member (Some v) ∷ []
member_more flags v h =
    let n = v - length flags in
    let at : 0 + length flags + length (replicate n false) ≡ v = omega (arith, length-replicate n false) in
    members_append 0 flags (replicate n false ++ true ∷ [])
    ∙ ap (λ (cs : List Claim). member_claims 0 flags ++ cs)
    (members_append (0 + length flags) (replicate n false) (true ∷ [])
    ∙ ap (λ (cs : List Claim). cs ++ member_claims (0 + length flags + length (replicate n false)) (true ∷ [])) (no_members (0 + length flags) n)
    ∙ ap (λ (w : ℕ). claims.Member (Some w) ∷ []) at)

-- ---- what a step says

-- a front of a certificate: potentials only behind all flows
abbrev IsFront : ℕ → List FlowArc → Account → Type 0
IsFront nodes arcs (Optimal value flows potentials) = length flows < length arcs → potentials ≡ []
IsFront nodes arcs (Cut flags side) = length flags ≤ nodes

record Extends (nodes : ℕ) (arcs : List FlowArc) (account : Account) (claim : Claim) (more : Account) : Type 0 where
  says : claims_in arcs more ≡ claims_in arcs account ++ claim ∷ []
  front : IsFront nodes arcs more

both_true : (s t : Bool) → (s && t) ≡ true → (s ≡ true) × (t ≡ true)
both_true true true e = (refl, refl)
both_true true false e = absurd cc
both_true false t e = absurd cc

node_is : (place : Option ℕ) (v : ℕ) → is_node place v ≡ true → place ≡ Some v
node_is None v e = absurd cc
node_is (Some w) v e = ap Some (eqb-true w v e)

ends_are : (arc : Option FlowArc) (src dst : Option ℕ) → are_ends arc src dst ≡ true → (a : FlowArc) × (arc ≡ Some a) × (src ≡ Some a.src) × (dst ≡ Some a.dst)
ends_are None src dst e = absurd cc
ends_are (Some a) src dst e =
    let p = both_true (is_node src a.src) (is_node dst a.dst) e in
    (a, refl, node_is src a.src p.0, node_is dst a.dst p.1)

chosen : {A : Type 0} (t : Bool) (x y z : A) → cond t x y ≡ z → ((t ≡ true) × (x ≡ z)) ⊎ ((t ≡ false) × (y ≡ z))
chosen true x y z e = inl (refl, e)
chosen false x y z e = inr (refl, e)

-- a number was in its type, and stands behind the others
number_taken : (zs more : List ℤ) (x : Option ℤ) → with_number zs x ≡ Ok more → (z : ℤ) × (x ≡ Some z) × (more ≡ zs ++ z ∷ [])
number_taken zs more None e = absurd cc
number_taken zs more (Some z) e = (z, refl, cc)

from_ok : {A : Type 0} (next : A → Account) (r : Result A LineFault) (more : Account) → in_account next r ≡ Ok more → (x : A) × (r ≡ Ok x) × (next x ≡ more)
from_ok next (Ok x) more e = (x, refl, cc)
from_ok next (Err fault) more e = absurd cc

flow_taken : (nodes : ℕ) (arcs : List FlowArc) (value : ℤ) (flows potentials : List ℤ) (src dst : Option ℕ) (flow : Option ℤ) (more : Account) → (length flows < length arcs → potentials ≡ [])
    → (zs : List ℤ) → ((a : FlowArc) × (slice_get arcs (length flows) ≡ Some a) × (src ≡ Some a.src) × (dst ≡ Some a.dst)) → ((z : ℤ) × (flow ≡ Some z) × (zs ≡ flows ++ z ∷ []))
    → Optimal value zs potentials ≡ more → Extends nodes arcs (Optimal value flows potentials) (claims.Flow src dst flow) more
flow_taken nodes arcs value flows potentials src dst flow more front zs ends number made =
    let a = ends.0 in
    let z = number.0 in
    let within : length flows < length arcs = slice_get_within arcs (length flows) a ends.1 in
    let none : potentials ≡ [] = front within in
    let same : more ≡ Optimal value (flows ++ z ∷ []) [] = sym made ∙ ap (λ (x : List ℤ). Optimal value x potentials) number.2 ∙ ap (λ (x : List ℤ). Optimal value (flows ++ z ∷ []) x) none in
    let claim : flow_claim a z ≡ claims.Flow src dst flow = cc (ends.2, ends.3, number.1) in
    record {
      says = ap (claims_in arcs) same
          ∙ ap (λ (cs : List Claim). claims.Value (Some value) ∷ cs)
          (append-nil (flow_claims arcs (flows ++ z ∷ []))
          ∙ flow_more arcs flows a z ends.1
          ∙ ap (λ (cs : List Claim). cs ++ flow_claim a z ∷ []) (sym (append-nil (flow_claims arcs flows)))
          ∙ ap (λ (ps : List ℤ). (flow_claims arcs flows ++ potential_claims 0 ps) ++ flow_claim a z ∷ []) (sym none)
          ∙ ap (λ (c : Claim). (flow_claims arcs flows ++ potential_claims 0 potentials) ++ c ∷ []) claim);
      front = subst (IsFront nodes arcs) (sym same) (λ _. refl);
    }

flow_step : (nodes : ℕ) (arcs : List FlowArc) (value : ℤ) (flows potentials : List ℤ) (src dst : Option ℕ) (flow : Option ℤ) (more : Account) → IsFront nodes arcs (Optimal value flows potentials)
    → in_account (λ zs. Optimal value zs potentials) (with_flow arcs flows src dst flow) ≡ Ok more → Extends nodes arcs (Optimal value flows potentials) (claims.Flow src dst flow) more
flow_step nodes arcs value flows potentials src dst flow more front e =
    let next : List ℤ → Account = λ zs. Optimal value zs potentials in
    let p = from_ok next (with_flow arcs flows src dst flow) more e in
    elim (chosen (are_ends (slice_get arcs (length flows)) src dst) (with_number flows flow) (Err line_faults.Certificate) (Ok p.0) p.1) [
      | inl h ↦ flow_taken nodes arcs value flows potentials src dst flow more front p.0 (ends_are (slice_get arcs (length flows)) src dst h.0) (number_taken flows p.0 flow h.1) p.2
      | inr h ↦ absurd (let k = h.1 in cc)
    ]

potential_taken : (nodes : ℕ) (arcs : List FlowArc) (value : ℤ) (flows potentials : List ℤ) (node : Option ℕ) (potential : Option ℤ) (more : Account) (zs : List ℤ)
    → length flows ≡ length arcs → node ≡ Some (length potentials) → ((z : ℤ) × (potential ≡ Some z) × (zs ≡ potentials ++ z ∷ []))
    → Optimal value flows zs ≡ more → Extends nodes arcs (Optimal value flows potentials) (claims.Potential node potential) more
potential_taken nodes arcs value flows potentials node potential more zs whole at number made =
    let z = number.0 in
    let same : more ≡ Optimal value flows (potentials ++ z ∷ []) = sym made ∙ ap (λ (x : List ℤ). Optimal value flows x) number.2 in
    let claim : claims.Potential (Some (0 + length potentials)) (Some z) ≡ claims.Potential node potential =
    ap (λ (w : ℕ). claims.Potential (Some w) (Some z)) (let e : 0 + length potentials ≡ length potentials = omega arith in e) ∙ cc (at, number.1) in
    record {
      says = ap (claims_in arcs) same
          ∙ ap (λ (cs : List Claim). claims.Value (Some value) ∷ cs)
          (ap (λ (cs : List Claim). flow_claims arcs flows ++ cs) (potential_more 0 potentials z)
          ∙ sym (append_assoc (flow_claims arcs flows) (potential_claims 0 potentials) (claims.Potential (Some (0 + length potentials)) (Some z) ∷ []))
          ∙ ap (λ (c : Claim). (flow_claims arcs flows ++ potential_claims 0 potentials) ++ c ∷ []) claim);
      front = subst (IsFront nodes arcs) (sym same) (λ h. absurd (omega arith));
    }

potential_step : (nodes : ℕ) (arcs : List FlowArc) (value : ℤ) (flows potentials : List ℤ) (node : Option ℕ) (potential : Option ℤ) (more : Account)
    → in_account (λ zs. Optimal value flows zs) (with_potential nodes (length flows == length arcs) potentials node potential) ≡ Ok more → Extends nodes arcs (Optimal value flows potentials) (claims.Potential node potential) more
potential_step nodes arcs value flows potentials node potential more e =
    let next : List ℤ → Account = λ zs. Optimal value flows zs in
    let p = from_ok next (with_potential nodes (length flows == length arcs) potentials node potential) more e in
    elim (chosen (length flows == length arcs && (nat_lt (length potentials) nodes && is_node node (length potentials))) (with_number potentials potential) (Err line_faults.Certificate) (Ok p.0) p.1) [
      | inl h ↦
          let all = both_true (length flows == length arcs) (nat_lt (length potentials) nodes && is_node node (length potentials)) h.0 in
          let at = both_true (nat_lt (length potentials) nodes) (is_node node (length potentials)) all.1 in
          potential_taken nodes arcs value flows potentials node potential more p.0 (eqb-true (length flows) (length arcs) all.0) (node_is node (length potentials) at.1) (number_taken potentials p.0 potential h.1) p.2
      | inr h ↦ absurd (let k = h.1 in cc)
    ]

member_step : (nodes : ℕ) (arcs : List FlowArc) (flags : List Bool) (side : Side) (node : Option ℕ) (more : Account)
    → in_account (λ bs. Cut bs side) (with_member nodes flags node) ≡ Ok more → Extends nodes arcs (Cut flags side) (claims.Member node) more
member_step nodes arcs flags side None more e = absurd cc
member_step nodes arcs flags side (Some v) more e =
    let next : List Bool → Account = λ bs. Cut bs side in
    let all : List Bool = flags ++ (replicate (v - length flags) false ++ true ∷ []) in
    let p = from_ok next (with_member nodes flags (Some v)) more e in
    elim (chosen (nat_le (length flags) v && nat_lt v nodes) (Ok all) (Err line_faults.Certificate) (Ok p.0) p.1) [
      | inl h ↦
          let t = both_true (nat_le (length flags) v) (nat_lt v nodes) h.0 in
          let low : length flags ≤ v = grind (arith, nat_tests, t.0) in
          let high : v < nodes = grind (arith, nat_tests, t.1) in
          let same : more ≡ Cut all side = let k = h.1 in let m = p.2 in cc in
          let size : length all ≤ nodes = omega (arith, length-append flags (replicate (v - length flags) false ++ true ∷ []), length-append (replicate (v - length flags) false) (true ∷ []), length-replicate (v - length flags) false) in
          record {
            says = ap (claims_in arcs) same ∙ ap (λ (cs : List Claim). claims.Side side ∷ cs) (member_more flags v low);
            front = subst (IsFront nodes arcs) (sym same) size;
          }
      | inr h ↦ absurd (let k = h.1 in cc)
    ]

step : (nodes : ℕ) (arcs : List FlowArc) (account : Account) (claim : Claim) (more : Account) → IsFront nodes arcs account → next_claim nodes arcs account claim ≡ Ok more → Extends nodes arcs account claim more
step nodes arcs (Optimal value flows potentials) (claims.Value x) more front e = absurd cc
step nodes arcs (Optimal value flows potentials) (claims.Flow src dst flow) more front e = flow_step nodes arcs value flows potentials src dst flow more front e
step nodes arcs (Optimal value flows potentials) (claims.Potential v potential) more front e = potential_step nodes arcs value flows potentials v potential more e
step nodes arcs (Optimal value flows potentials) (claims.Side side) more front e = absurd cc
step nodes arcs (Optimal value flows potentials) (claims.Member v) more front e = absurd cc
step nodes arcs (Optimal value flows potentials) claims.Other more front e = absurd cc
step nodes arcs (Cut flags side) (claims.Value x) more front e = absurd cc
step nodes arcs (Cut flags side) (claims.Flow src dst flow) more front e = absurd cc
step nodes arcs (Cut flags side) (claims.Potential v potential) more front e = absurd cc
step nodes arcs (Cut flags side) (claims.Side other) more front e = absurd cc
step nodes arcs (Cut flags side) (claims.Member v) more front e = member_step nodes arcs flags side v more e
step nodes arcs (Cut flags side) claims.Other more front e = absurd cc

-- ---- the end

record Reports (nodes : ℕ) (arcs : List FlowArc) (says : List Claim) (account : Account) : Type 0 where
  size : IsOfSize nodes arcs account
  claims : claims_in arcs account ≡ says

end_reports : (nodes : ℕ) (arcs : List FlowArc) (line : ℕ) (a account : Account) → IsFront nodes arcs a → completed nodes arcs line a ≡ Ok account → Reports nodes arcs (claims_in arcs a ++ []) account
end_reports nodes arcs line (Optimal value flows potentials) account front e =
    elim (chosen (length flows == length arcs && length potentials == nodes) (Ok (Optimal value flows potentials)) (missing line) (Ok account) e) [
      | inl h ↦
          let t = both_true (length flows == length arcs) (length potentials == nodes) h.0 in
          let same : Optimal value flows potentials ≡ account = let k = h.1 in cc in
          record {
            size = subst (IsOfSize nodes arcs) same (eqb-true (length flows) (length arcs) t.0, eqb-true (length potentials) nodes t.1);
            claims = ap (claims_in arcs) (sym same) ∙ sym (append-nil (claims_in arcs (Optimal value flows potentials)));
          }
      | inr h ↦ absurd (let k = h.1 in cc)
    ]
end_reports nodes arcs line (Cut flags side) account front e =
    let n = nodes - length flags in
    let same : Cut (flags ++ replicate n false) side ≡ account = cc in
    record {
      size = subst (IsOfSize nodes arcs) same (let s : length (flags ++ replicate n false) ≡ nodes = omega (arith, length-append flags (replicate n false), length-replicate n false) in s);
      claims = ap (claims_in arcs) (sym same)
          ∙ ap (λ (cs : List Claim). claims.Side side ∷ cs) (members_append 0 flags (replicate n false) ∙ ap (λ (cs : List Claim). member_claims 0 flags ++ cs) (no_members (0 + length flags) n));
    }

-- ---- all lines

abbrev Reads : ℕ → List FlowArc → ℕ → Account → List (List ℕ) → Account → Type 0
Reads nodes arcs line a ls account = read_lines nodes arcs line (Open a) ls ≡ Ok account

next_reports : (nodes : ℕ) (arcs : List FlowArc) (line : ℕ) (a : Account) (claim : Claim) (ls : List (List ℕ)) (account : Account) (r : Result Account LineFault) → next_claim nodes arcs a claim ≡ r → IsFront nodes arcs a
    → ((b : Account) → IsFront nodes arcs b → Reads nodes arcs (line + 1) b ls account → Reports nodes arcs (claims_in arcs b ++ filter_map claimed ls) account)
    → read_lines nodes arcs (line + 1) (progress_from line r) ls ≡ Ok account → Reports nodes arcs (claims_in arcs a ++ (claim ∷ filter_map claimed ls)) account
next_reports nodes arcs line a claim ls account (Err fault) w front more e = absurd (let stays = rejected_stays nodes arcs (line + 1) (record { fault = fault; line = line }) ls in cc)
next_reports nodes arcs line a claim ls account (Ok b) w front more e =
    let s = step nodes arcs a claim b front w in
    let t = more b s.front e in
    record { size = t.size; claims = t.claims ∙ ap (λ (cs : List Claim). cs ++ filter_map claimed ls) s.says ∙ append_assoc (claims_in arcs a) (claim ∷ []) (filter_map claimed ls) }

line_reports : (nodes : ℕ) (arcs : List FlowArc) (line : ℕ) (a : Account) (x : Option Claim) (ls : List (List ℕ)) (account : Account) → IsFront nodes arcs a
    → ((b : Account) → IsFront nodes arcs b → Reads nodes arcs (line + 1) b ls account → Reports nodes arcs (claims_in arcs b ++ filter_map claimed ls) account)
    → read_lines nodes arcs (line + 1) (with_claimed nodes arcs line (Open a) x) ls ≡ Ok account → Reports nodes arcs (claims_in arcs a ++ cons_option x (filter_map claimed ls)) account
line_reports nodes arcs line a None ls account front more e = more a front e
line_reports nodes arcs line a (Some claim) ls account front more e = next_reports nodes arcs line a claim ls account (next_claim nodes arcs a claim) refl front more e

open_reports : (nodes : ℕ) (arcs : List FlowArc) (line : ℕ) (a : Account) (ls : List (List ℕ)) (account : Account) → IsFront nodes arcs a → Reads nodes arcs line a ls account → Reports nodes arcs (claims_in arcs a ++ filter_map claimed ls) account
open_reports nodes arcs line a [] account front e = end_reports nodes arcs line a account front e
open_reports nodes arcs line a (l ∷ ls) account front e =
    line_reports nodes arcs line a (claimed l) ls account front (λ b front' e'. open_reports nodes arcs (line + 1) b ls account front' e') e

-- a first claim
record IsFirst (nodes : ℕ) (arcs : List FlowArc) (claim : Claim) (a : Account) : Type 0 where
  says : claims_in arcs a ≡ claim ∷ []
  front : IsFront nodes arcs a

first_step : (nodes : ℕ) (arcs : List FlowArc) (claim : Claim) (a : Account) → first_claim claim ≡ Ok a → IsFirst nodes arcs claim a
first_step nodes arcs (claims.Value None) a e = absurd cc
first_step nodes arcs (claims.Value (Some value)) a e =
    let same : Optimal value [] [] ≡ a = cc in
    subst (IsFirst nodes arcs (claims.Value (Some value))) same
    (record { says = ap (λ (cs : List Claim). claims.Value (Some value) ∷ (cs ++ [])) (no_flows arcs); front = λ _. refl })
first_step nodes arcs (claims.Flow src dst flow) a e = absurd cc
first_step nodes arcs (claims.Potential v potential) a e = absurd cc
first_step nodes arcs (claims.Side side) a e =
    let same : Cut [] side ≡ a = cc in
    subst (IsFirst nodes arcs (claims.Side side)) same (record { says = refl; front = omega arith })
first_step nodes arcs (claims.Member v) a e = absurd cc
first_step nodes arcs claims.Other a e = absurd cc

head_reports : (nodes : ℕ) (arcs : List FlowArc) (line : ℕ) (claim : Claim) (ls : List (List ℕ)) (account : Account) (r : Result Account LineFault) → first_claim claim ≡ r
    → read_lines nodes arcs (line + 1) (progress_from line r) ls ≡ Ok account → Reports nodes arcs (claim ∷ filter_map claimed ls) account
head_reports nodes arcs line claim ls account (Err fault) w e = absurd (let stays = rejected_stays nodes arcs (line + 1) (record { fault = fault; line = line }) ls in cc)
head_reports nodes arcs line claim ls account (Ok a) w e =
    let s = first_step nodes arcs claim a w in
    let t = open_reports nodes arcs (line + 1) a ls account s.front e in
    record { size = t.size; claims = t.claims ∙ ap (λ (cs : List Claim). cs ++ filter_map claimed ls) s.says }

start_line : (nodes : ℕ) (arcs : List FlowArc) (line : ℕ) (x : Option Claim) (ls : List (List ℕ)) (account : Account)
    → (read_lines nodes arcs (line + 1) Start ls ≡ Ok account → Reports nodes arcs (filter_map claimed ls) account)
    → read_lines nodes arcs (line + 1) (with_claimed nodes arcs line Start x) ls ≡ Ok account → Reports nodes arcs (cons_option x (filter_map claimed ls)) account
start_line nodes arcs line None ls account more e = more e
start_line nodes arcs line (Some claim) ls account more e = head_reports nodes arcs line claim ls account (first_claim claim) refl e

start_reports : (nodes : ℕ) (arcs : List FlowArc) (line : ℕ) (ls : List (List ℕ)) (account : Account) → read_lines nodes arcs line Start ls ≡ Ok account → Reports nodes arcs (filter_map claimed ls) account
start_reports nodes arcs line [] account e = absurd cc
start_reports nodes arcs line (l ∷ ls) account e = start_line nodes arcs line (claimed l) ls account (start_reports nodes arcs (line + 1) ls account) e

pub is_certificate_text : (text : List ℕ) (nodes : ℕ) (arcs : List FlowArc) (account : Account) → read_lines nodes arcs 1 Start (lines text) ≡ Ok account → IsCertificateText text nodes arcs account
is_certificate_text text nodes arcs account e =
    let t = start_reports nodes arcs 1 (lines text) account e in
    record { size = t.size; says = sym t.claims }
