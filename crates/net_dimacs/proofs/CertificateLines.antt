-- A certificate text that was written is its certificate's.
use Rattle.std.proofs.Common.{◌≡◌, ◌<◌, ℕ, zero, suc, ◌+◌, ◌-◌, ◌^◌, Bool, true, false, cond, ◌&&◌, List, [], ◌∷◌, ◌++◌, ℤ, pos, negsuc, neg_ℤ, Some, None, refl, sym, ap, ◌∙◌, length, map, codes, arith, append_assoc, All}
use Rattle.std.specs.Prelude.{Option, filter, filter_map, int_le, int_lt}
use Rattle.std.specs.List.{AllByRecursion, cons_option}
use Rattle.std.specs.Fmt.{signed_decimal}
use Rattle.std.proofs.lemmas.Bool.Decides.{nat_tests}
use Rattle.std.proofs.lemmas.List.Elements.{recursion_from_All}
use Rattle.net_normal.specs.Limits.{IsFlowArcOf}
use Rattle.net_normal.specs.declared.problem.FlowArc.{FlowArc}
use Rattle.net_check.specs.declared.certificate.Side.{Side}
use Rattle.net_check.specs.declared.certificate.Side.TheVariants.{Over, Under}
use Rattle.net_dimacs.specs.declared.integer.Integer.TheVariants as integers
use Rattle.net_dimacs.specs.declared.claim.Claim.{Claim}
use Rattle.net_dimacs.specs.declared.claim.Claim.TheVariants as claims
use Rattle.net_dimacs.specs.Lines.{has_byte, fields_of, number_of}
use Rattle.net_dimacs.specs.Claims.{is_within, integer_of, value_of, amount_of, place_of, numbers_in, claimed_by, claimed, value_claim, flow_claim as claim_of_flow, potential_claim, member_claim}
use Rattle.net_dimacs.specs.Certificates.{Account, Optimal, Cut, flow_claim, flow_claims, potential_claims, member_claims, claims_in, claims_of, IsOfSize, IsCertificateText}
use Rattle.net_dimacs.specs.Written.{row, line, node_number}
use Rattle.net_dimacs.specs.CertificateWritten.{value_line, flow_line, flow_lines, potential_line, potential_lines, side_line, member_line, member_lines, certificate_text, IsValue, IsAmount, AreAmounts, FitsTypes}
use Rattle.net_dimacs.proofs.Decimals.{IsPrintable, number_decimal}
use Rattle.net_dimacs.proofs.Lists.{all_map, all_append}
use Rattle.net_dimacs.proofs.WrittenLines.{Printable, Solid, Plain, solid_byte, split_row, kept_field, kept_row, plain_row, plain_byte, lines_then}

-- ---- a line with one field and numbers

fields_row : (field : List ℕ) (zs : List ℤ) → Solid field → has_byte field ≡ true → Printable zs → fields_of (field ++ row zs) ≡ field ∷ map signed_decimal zs
fields_row field zs solid some fit =
    ap (filter has_byte) (split_row field zs solid fit)
    ∙ kept_field field (map signed_decimal zs) some
    ∙ ap (λ (fs : List (List ℕ)). field ∷ fs) (kept_row zs fit)

numbers_row : (zs : List ℤ) → Printable zs → map number_of (map signed_decimal zs) ≡ map (λ z. Some z) zs
numbers_row [] fit = refl
numbers_row (z ∷ zs) fit =
    ap (λ (o : Option ℤ). o ∷ map number_of (map signed_decimal zs)) (number_decimal z fit.0) ∙ ap (λ (os : List (Option ℤ)). Some z ∷ os) (numbers_row zs fit.1)

-- one line more, and what it claims
claim_then : (kind : List ℕ) (zs : List ℤ) (rest : List ℕ) (claim : Claim) → Plain kind → Printable zs → claimed (kind ++ row zs) ≡ Some claim → claims_of (line kind zs ++ rest) ≡ claim ∷ claims_of rest
claim_then kind zs rest claim plain fit says =
    let body = kind ++ row zs in
    let grouped : line kind zs ++ rest ≡ body ++ 10 ∷ rest = ap (λ (x : List ℕ). x ++ rest) (sym (append_assoc kind (row zs) (10 ∷ []))) ∙ append_assoc body (10 ∷ []) rest in
    ap claims_of grouped
    ∙ ap (filter_map claimed) (lines_then body rest (all_append _ kind (row zs) plain (plain_row zs fit)))
    ∙ ap (λ (o : Option Claim). cons_option o (claims_of rest)) says

-- ---- numbers in their types

both_true : (s t : Bool) → (s && t) ≡ true → (s ≡ true) × (t ≡ true)
both_true true true e = (refl, refl)
both_true true false e = absurd cc
both_true false t e = absurd cc

within_by : (limit : ℕ) (z : ℤ) → is_within limit z ≡ true → (int_le (neg_ℤ (pos limit)) z ≡ true) × (int_lt z (pos limit) ≡ true)
within_by limit z e = both_true (int_le (neg_ℤ (pos limit)) z) (int_lt z (pos limit)) e

printable_value : (z : ℤ) → IsValue z → IsPrintable z
printable_value (pos n) e = let p = within_by (2 ^ 127) (pos n) e in let high = p.1 in grind (arith, nat_tests)
printable_value (negsuc n) e = let p = within_by (2 ^ 127) (negsuc n) e in let low = p.0 in grind (arith, nat_tests)

value_from_amount : (z : ℤ) → IsAmount z → IsValue z
value_from_amount (pos n) e = let p = within_by (2 ^ 63) (pos n) e in let high = p.1 in grind (arith, nat_tests)
value_from_amount (negsuc n) e = let p = within_by (2 ^ 63) (negsuc n) e in let low = p.0 in grind (arith, nat_tests)

integer_is : (z : ℤ) → IsValue z → integer_of z ≡ integers.Of z
integer_is z e = ap (λ (t : Bool). cond t (integers.Of z) integers.TooLarge) e

value_is : (z : ℤ) → IsValue z → value_of (integer_of z) ≡ Some z
value_is z e = ap value_of (integer_is z e)

amount_is : (z : ℤ) → IsAmount z → amount_of (integer_of z) ≡ Some z
amount_is z e = ap amount_of (integer_is z (value_from_amount z e)) ∙ ap (λ (t : Bool). cond t (Some z) None) e

node_amount : (v : ℕ) → v < 2 ^ 32 → IsAmount (node_number v)
node_amount v h = grind (arith, nat_tests)

place_by : (s t : Bool) (n v : ℕ) → s ≡ true → t ≡ true → n ≡ v → cond (s && t) (Some n) None ≡ Some v
place_by true true n v p q e = ap Some e
place_by true false n v p q e = absurd cc
place_by false t n v p q e = absurd cc

place_is : (v : ℕ) → v < 2 ^ 32 → place_of (integer_of (node_number v)) ≡ Some v
place_is v h =
    ap place_of (integer_is (node_number v) (value_from_amount (node_number v) (node_amount v h)))
    ∙ place_by (int_le (pos 1) (pos (v + 1))) (int_le (pos (v + 1)) (pos (2 ^ 32))) (v + 1 - 1) v (grind (arith, nat_tests)) (grind (arith, nat_tests)) (omega arith)

printable_amount : (z : ℤ) → IsAmount z → IsPrintable z
printable_amount z e = printable_value z (value_from_amount z e)

printable_node : (v : ℕ) → v < 2 ^ 32 → IsPrintable (node_number v)
printable_node v h = omega arith

-- ---- the kinds of line

value_then : (value : ℤ) (rest : List ℕ) → IsValue value → claims_of (value_line value ++ rest) ≡ claims.Value (Some value) ∷ claims_of rest
value_then value rest fit =
    let zs = value ∷ [] in
    let fits : Printable zs = (printable_value value fit, tt) in
    claim_then (codes "s") zs rest (claims.Value (Some value)) (plain_byte 115 refl refl, tt) fits
    (ap claimed_by (fields_row (codes "s") zs (solid_byte 115 refl refl refl, tt) refl fits)
    ∙ ap (λ (os : List (Option ℤ)). Some (value_claim (numbers_in os))) (numbers_row zs fits)
    ∙ ap (λ (o : Option ℤ). Some (claims.Value o)) (value_is value fit))

-- an arc whose ends have numbers of 32 bits
record IsWritableArc (arc : FlowArc) : Type 0 where
  src : arc.src < 2 ^ 32
  dst : arc.dst < 2 ^ 32

flow_then : (arc : FlowArc) (flow : ℤ) (rest : List ℕ) → IsWritableArc arc → IsAmount flow → claims_of (flow_line arc flow ++ rest) ≡ flow_claim arc flow ∷ claims_of rest
flow_then arc flow rest small fit =
    let zs = node_number arc.src ∷ node_number arc.dst ∷ flow ∷ [] in
    let fits : Printable zs = (printable_node arc.src small.src, (printable_node arc.dst small.dst, (printable_amount flow fit, tt))) in
    claim_then (codes "f") zs rest (flow_claim arc flow) (plain_byte 102 refl refl, tt) fits
    (ap claimed_by (fields_row (codes "f") zs (solid_byte 102 refl refl refl, tt) refl fits)
    ∙ ap (λ (os : List (Option ℤ)). Some (claim_of_flow (numbers_in os))) (numbers_row zs fits)
    ∙ ap (λ (o : Option ℕ). Some (claims.Flow o (place_of (integer_of (node_number arc.dst))) (amount_of (integer_of flow)))) (place_is arc.src small.src)
    ∙ ap (λ (o : Option ℕ). Some (claims.Flow (Some arc.src) o (amount_of (integer_of flow)))) (place_is arc.dst small.dst)
    ∙ ap (λ (o : Option ℤ). Some (claims.Flow (Some arc.src) (Some arc.dst) o)) (amount_is flow fit))

potential_then : (v : ℕ) (potential : ℤ) (rest : List ℕ) → v < 2 ^ 32 → IsAmount potential → claims_of (potential_line v potential ++ rest) ≡ claims.Potential (Some v) (Some potential) ∷ claims_of rest
potential_then v potential rest small fit =
    let zs = node_number v ∷ potential ∷ [] in
    let fits : Printable zs = (printable_node v small, (printable_amount potential fit, tt)) in
    claim_then (codes "v") zs rest (claims.Potential (Some v) (Some potential)) (plain_byte 118 refl refl, tt) fits
    (ap claimed_by (fields_row (codes "v") zs (solid_byte 118 refl refl refl, tt) refl fits)
    ∙ ap (λ (os : List (Option ℤ)). Some (potential_claim (numbers_in os))) (numbers_row zs fits)
    ∙ ap (λ (o : Option ℕ). Some (claims.Potential o (amount_of (integer_of potential)))) (place_is v small)
    ∙ ap (λ (o : Option ℤ). Some (claims.Potential (Some v) o)) (amount_is potential fit))

member_then : (v : ℕ) (rest : List ℕ) → v < 2 ^ 32 → claims_of (member_line v ++ rest) ≡ claims.Member (Some v) ∷ claims_of rest
member_then v rest small =
    let zs = node_number v ∷ [] in
    let fits : Printable zs = (printable_node v small, tt) in
    claim_then (codes "m") zs rest (claims.Member (Some v)) (plain_byte 109 refl refl, tt) fits
    (ap claimed_by (fields_row (codes "m") zs (solid_byte 109 refl refl refl, tt) refl fits)
    ∙ ap (λ (os : List (Option ℤ)). Some (member_claim (numbers_in os))) (numbers_row zs fits)
    ∙ ap (λ (o : Option ℕ). Some (claims.Member o)) (place_is v small))

plain_over : Plain (codes "x over")
plain_over = (plain_byte 120 refl refl, (plain_byte 32 refl refl, (plain_byte 111 refl refl, (plain_byte 118 refl refl, (plain_byte 101 refl refl, (plain_byte 114 refl refl, tt))))))

plain_under : Plain (codes "x under")
plain_under = (plain_byte 120 refl refl, (plain_byte 32 refl refl, (plain_byte 117 refl refl, (plain_byte 110 refl refl, (plain_byte 100 refl refl, (plain_byte 101 refl refl, (plain_byte 114 refl refl, tt)))))))

side_then : (side : Side) (rest : List ℕ) → claims_of (side_line side ++ rest) ≡ claims.Side side ∷ claims_of rest
side_then Over rest = claim_then (codes "x over") [] rest (claims.Side Over) plain_over tt refl
side_then Under rest = claim_then (codes "x under") [] rest (claims.Side Under) plain_under tt refl

-- ---- all lines

flows_then : (arcs : List FlowArc) (flows : List ℤ) (rest : List ℕ) → AllByRecursion IsWritableArc arcs → AllByRecursion IsAmount flows → claims_of (flow_lines arcs flows ++ rest) ≡ flow_claims arcs flows ++ claims_of rest
flows_then [] flows rest small fit = refl
flows_then (arc ∷ arcs) [] rest small fit = refl
flows_then (arc ∷ arcs) (flow ∷ flows) rest small fit =
    ap claims_of (append_assoc (flow_line arc flow) (flow_lines arcs flows) rest)
    ∙ flow_then arc flow (flow_lines arcs flows ++ rest) small.0 fit.0
    ∙ ap (λ (cs : List Claim). flow_claim arc flow ∷ cs) (flows_then arcs flows rest small.1 fit.1)

potentials_then : (v : ℕ) (potentials : List ℤ) → v + length potentials < 2 ^ 32 → AllByRecursion IsAmount potentials → claims_of (potential_lines v potentials) ≡ potential_claims v potentials
potentials_then v [] small fit = refl
potentials_then v (potential ∷ potentials) small fit =
    potential_then v potential (potential_lines (v + 1) potentials) (omega arith) fit.0
    ∙ ap (λ (cs : List Claim). claims.Potential (Some v) (Some potential) ∷ cs) (potentials_then (v + 1) potentials (omega arith) fit.1)

members_then : (v : ℕ) (flags : List Bool) → v + length flags < 2 ^ 32 → claims_of (member_lines v flags) ≡ member_claims v flags
members_then v [] small = refl
members_then v (true ∷ flags) small =
    member_then v (member_lines (v + 1) flags) (omega arith) ∙ ap (λ (cs : List Claim). claims.Member (Some v) ∷ cs) (members_then (v + 1) flags (omega arith))
members_then v (false ∷ flags) small = members_then (v + 1) flags (omega arith)

-- ---- the whole text

amounts : (zs : List ℤ) → AreAmounts zs → AllByRecursion IsAmount zs
amounts [] all = tt
amounts (z ∷ zs) all = (all zero (omega arith), amounts zs (λ k h. all (suc k) (omega arith)))

says_claims : (nodes : ℕ) (arcs : List FlowArc) (account : Account) → nodes < 2 ^ 32 → AllByRecursion IsWritableArc arcs → IsOfSize nodes arcs account → FitsTypes account → claims_of (certificate_text arcs account) ≡ claims_in arcs account
says_claims nodes arcs (Optimal value flows potentials) few small size fit =
    value_then value (flow_lines arcs flows ++ potential_lines 0 potentials) fit.0
    ∙ ap (λ (cs : List Claim). claims.Value (Some value) ∷ cs)
    (flows_then arcs flows (potential_lines 0 potentials) small (amounts flows fit.1)
    ∙ ap (λ (cs : List Claim). flow_claims arcs flows ++ cs) (potentials_then 0 potentials (let e = size.1 in omega arith) (amounts potentials fit.2)))
says_claims nodes arcs (Cut flags side) few small size fit =
    side_then side (member_lines 0 flags) ∙ ap (λ (cs : List Claim). claims.Side side ∷ cs) (members_then 0 flags (omega (arith, size)))

writable_arc : (n : ℕ) (arc : FlowArc) → n < 2 ^ 32 → IsFlowArcOf n arc → IsWritableArc arc
writable_arc n arc few fit = record { src = omega (arith, fit.src); dst = omega (arith, fit.dst) }

pub written_certificate_is : (nodes : ℕ) (arcs : List FlowArc) (account : Account) → nodes < 2 ^ 32 → All (IsFlowArcOf nodes) arcs → IsOfSize nodes arcs account → FitsTypes account
    → IsCertificateText (certificate_text arcs account) nodes arcs account
written_certificate_is nodes arcs account few arcs_fit size fit = record {
  size = size;
  says = says_claims nodes arcs account few (all_map (IsFlowArcOf nodes) IsWritableArc arcs (λ arc h. writable_arc nodes arc few h) (recursion_from_All (IsFlowArcOf nodes) arcs arcs_fit)) size fit;
}
