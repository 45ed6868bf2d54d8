-- How long the texts are that are written.
use Rattle.std.specs.Prelude.{ℕ, zero, suc, ◌+◌, ◌*◌, ◌/◌, ◌%◌, ◌==◌, ◌≤◌, ◌<◌, Bool, true, false, if◌then◌else◌, ℤ, pos, negsuc, List, [], ◌∷◌, ◌++◌, length, All}
use Rattle.std.specs.Fmt.{signed_decimal, decimal, digits, digits_onto, digit_glyph}
use Rattle.std.specs.List.{flat_map}
use Rattle.std.proofs.Common.{arith, length-append}
use Rattle.std.proofs.lemmas.Fmt.{length-decimal-le}
use Rattle.net_normal.specs.declared.problem.FlowArc.{FlowArc}
use Rattle.net_normal.specs.Limits.{IsFlowArcOf, IsWithinLimits}
use Rattle.net_check.specs.declared.certificate.Side.{Side}
use Rattle.net_check.specs.declared.certificate.Side.TheVariants.{Over, Under}
use Rattle.net_dimacs.specs.Certificates.{Account, Optimal, Cut, IsOfSize}
use Rattle.net_dimacs.specs.CertificateWritten.{value_line, flow_line, flow_lines, potential_line, potential_lines, side_line, member_line, member_lines, certificate_text}
use Rattle.net_dimacs.specs.Limits.{text_limit}
use Rattle.net_dimacs.specs.Written.{row, line, node_number, head_line, node_line, node_lines, arc_line, problem_text}

-- ---- numbers

onto_short : (k base : ℕ) (upper : Bool) (n : ℕ) (acc : List ℕ) → length (digits_onto k base upper n acc) ≤ k + length acc
onto_short zero base upper n acc = omega arith
onto_short (suc k) base upper n acc = go (n / base == 0) (onto_short k base upper (n / base) (digit_glyph upper (n % base) ∷ acc))
  where
    rest : List ℕ
    rest = digits_onto k base upper (n / base) (digit_glyph upper (n % base) ∷ acc)

    go : (b : Bool) → length rest ≤ k + suc (length acc) → length (if b then digit_glyph upper (n % base) ∷ acc else rest) ≤ suc k + length acc
    go true more = omega arith
    go false more = omega (arith, more)

decimal_short : (n : ℕ) → length (decimal n) ≤ 64
unfolding digits
decimal_short n = let short = onto_short 64 10 false n [] in omega (arith, short)

number_short : (z : ℤ) → length (signed_decimal z) ≤ 65
number_short (pos n) = let short = decimal_short n in omega (arith, short)
number_short (negsuc n) = let short = decimal_short (suc n) in omega (arith, short)

-- ---- lines

row_short : (zs : List ℤ) → length (row zs) ≤ 66 * length zs
row_short [] = omega arith
row_short (z ∷ zs) =
    let first = number_short z in
    let more = row_short zs in
    omega (arith, first, more, length-append (signed_decimal z) (row zs))

line_short : (kind : List ℕ) (zs : List ℤ) → length (line kind zs) ≤ length kind + 66 * length zs + 1
line_short kind zs =
    let short = row_short zs in
    omega (arith, short, length-append kind (row zs ++ 10 ∷ []), length-append (row zs) (10 ∷ []))

-- ---- certificates

flows_short : (arcs : List FlowArc) (flows : List ℤ) → length (flow_lines arcs flows) ≤ 200 * length arcs
flows_short [] flows = omega arith
flows_short (arc ∷ arcs) [] = omega arith
flows_short (arc ∷ arcs) (flow ∷ flows) =
    let first : length (flow_line arc flow) ≤ 200 = omega (arith, line_short (102 ∷ []) (node_number arc.src ∷ node_number arc.dst ∷ flow ∷ [])) in
    let more = flows_short arcs flows in
    omega (arith, first, more, length-append (flow_line arc flow) (flow_lines arcs flows))

potentials_short : (v : ℕ) (potentials : List ℤ) → length (potential_lines v potentials) ≤ 134 * length potentials
potentials_short v [] = omega arith
potentials_short v (p ∷ ps) =
    let first : length (potential_line v p) ≤ 134 = omega (arith, line_short (118 ∷ []) (node_number v ∷ p ∷ [])) in
    let more = potentials_short (v + 1) ps in
    omega (arith, first, more, length-append (potential_line v p) (potential_lines (v + 1) ps))

members_short : (v : ℕ) (flags : List Bool) → length (member_lines v flags) ≤ 68 * length flags
members_short v [] = omega arith
members_short v (true ∷ flags) =
    let first : length (member_line v) ≤ 68 = omega (arith, line_short (109 ∷ []) (node_number v ∷ [])) in
    let more = members_short (v + 1) flags in
    omega (arith, first, more, length-append (member_line v) (member_lines (v + 1) flags))
members_short v (false ∷ flags) = let more = members_short (v + 1) flags in omega (arith, more)

side_short : (side : Side) → length (side_line side) ≤ 8
side_short Over = omega arith
side_short Under = omega arith

pub certificates_short : (nodes : ℕ) (arcs : List FlowArc) (account : Account) → IsOfSize nodes arcs account → nodes ≤ 20000 → length arcs ≤ 200000 → length (certificate_text arcs account) ≤ text_limit
certificates_short nodes arcs (Optimal value flows potentials) size few many =
    let first : length (value_line value) ≤ 68 = omega (arith, line_short (115 ∷ []) (value ∷ [])) in
    let of_arcs = flows_short arcs flows in
    let of_nodes = potentials_short 0 potentials in
    let each_node = size.1 in
    omega (arith, first, of_arcs, of_nodes, each_node, few, many, length-append (value_line value) (flow_lines arcs flows ++ potential_lines 0 potentials), length-append (flow_lines arcs flows) (potential_lines 0 potentials))
certificates_short nodes arcs (Cut flags side) size few many =
    let first = side_short side in
    let of_nodes = members_short 0 flags in
    omega (arith, first, of_nodes, size, few, length-append (side_line side) (member_lines 0 flags))

-- ---- problems

-- a node has one of few numbers
small_short : (v nodes : ℕ) → v < nodes → nodes ≤ 20000 → length (signed_decimal (node_number v)) ≤ 20
small_short v nodes l few = length-decimal-le 20 (v + 1) (omega arith) (omega (arith, l, few)) (omega (arith, l, few))

arc_short : (nodes : ℕ) (arc : FlowArc) → nodes ≤ 20000 → IsFlowArcOf nodes arc → length (arc_line arc) ≤ 242
arc_short nodes arc few h =
    let src = small_short arc.src nodes h.src few in
    let dst = small_short arc.dst nodes h.dst few in
    let more = row_short (arc.low ∷ arc.cap ∷ arc.cost ∷ []) in
    omega (
      arith,
      src,
      dst,
      more,
      length-append (signed_decimal (node_number arc.src)) (row (node_number arc.dst ∷ arc.low ∷ arc.cap ∷ arc.cost ∷ [])),
      length-append (signed_decimal (node_number arc.dst)) (row (arc.low ∷ arc.cap ∷ arc.cost ∷ [])),
      length-append (row (node_number arc.src ∷ node_number arc.dst ∷ arc.low ∷ arc.cap ∷ arc.cost ∷ [])) (10 ∷ []),
    )

arcs_short : (nodes : ℕ) (arcs : List FlowArc) → nodes ≤ 20000 → All (IsFlowArcOf nodes) arcs → length (flat_map arc_line arcs) ≤ 242 * length arcs
arcs_short nodes [] few h = omega arith
arcs_short nodes (arc ∷ arcs) few h =
    let first = arc_short nodes arc few (h 0 arc (omega arith)) in
    let more = arcs_short nodes arcs few (λ k d l. h (suc k) d (omega (arith, l))) in
    omega (arith, first, more, length-append (arc_line arc) (flat_map arc_line arcs))

node_short : (v : ℕ) (z : ℤ) → length (node_line v z) ≤ 134
node_short v (pos zero) = omega arith
node_short v (pos (suc n)) = omega (arith, line_short (110 ∷ []) (node_number v ∷ pos (suc n) ∷ []))
node_short v (negsuc n) = omega (arith, line_short (110 ∷ []) (node_number v ∷ negsuc n ∷ []))

nodes_short : (v : ℕ) (supplies : List ℤ) → length (node_lines v supplies) ≤ 134 * length supplies
nodes_short v [] = omega arith
nodes_short v (z ∷ zs) =
    let first = node_short v z in
    let more = nodes_short (v + 1) zs in
    omega (arith, first, more, length-append (node_line v z) (node_lines (v + 1) zs))

head_short : (supplies : List ℤ) (arcs : List FlowArc) → length (head_line supplies arcs) ≤ 138
head_short supplies arcs = omega (arith, line_short (112 ∷ 32 ∷ 109 ∷ 105 ∷ 110 ∷ []) (pos (length supplies) ∷ pos (length arcs) ∷ []))

pub problems_short : (supplies : List ℤ) (arcs : List FlowArc) → IsWithinLimits supplies arcs → length (problem_text supplies arcs) ≤ text_limit
problems_short supplies arcs h =
    let first = head_short supplies arcs in
    let of_nodes = nodes_short 0 supplies in
    let of_arcs = arcs_short (length supplies) arcs h.few_nodes h.arcs_fit in
    let few = h.few_nodes in
    let many = h.few_arcs in
    omega (arith, first, of_nodes, of_arcs, few, many, length-append (head_line supplies arcs) (node_lines 0 supplies ++ flat_map arc_line arcs), length-append (node_lines 0 supplies) (flat_map arc_line arcs))
