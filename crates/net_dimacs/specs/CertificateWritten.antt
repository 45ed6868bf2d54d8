-- The text written for a certificate: plain decimals, one space between fields, no comments.
use Rattle.std.specs.Prelude.{◌≡◌, ◌^◌, ℕ, ◌+◌, Bool, true, pos, slice_index_or, EachIndex, if◌then◌else◌, ℤ, List, [], ◌∷◌, ◌++◌, codes}
use Rattle.net_normal.specs.declared.problem.FlowArc.{FlowArc}
use Rattle.net_check.specs.declared.certificate.Side.{Side}
use Rattle.net_check.specs.declared.certificate.Side.TheVariants.{Over, Under}
use Rattle.net_dimacs.specs.Written.{line, node_number}
use Rattle.net_dimacs.specs.Claims.{is_within}
use Rattle.net_dimacs.specs.Certificates.{Account, Optimal, Cut}

abbrev pub value_line : ℤ → List ℕ
value_line value = line (codes "s") (value ∷ [])

abbrev pub flow_line : FlowArc → ℤ → List ℕ
flow_line arc flow = line (codes "f") (node_number arc.src ∷ node_number arc.dst ∷ flow ∷ [])

-- a line for each arc with its flow
abbrev pub flow_lines : List FlowArc → List ℤ → List ℕ
flow_lines [] flows = []
flow_lines (arc ∷ arcs) [] = []
flow_lines (arc ∷ arcs) (flow ∷ flows) = flow_line arc flow ++ flow_lines arcs flows

abbrev pub potential_line : ℕ → ℤ → List ℕ
potential_line v potential = line (codes "v") (node_number v ∷ potential ∷ [])

-- the nodes from v on, a line each with its potential
abbrev pub potential_lines : ℕ → List ℤ → List ℕ
potential_lines v [] = []
potential_lines v (potential ∷ potentials) = potential_line v potential ++ potential_lines (v + 1) potentials

abbrev pub side_line : Side → List ℕ
side_line Over = line (codes "x over") []
side_line Under = line (codes "x under") []

abbrev pub member_line : ℕ → List ℕ
member_line v = line (codes "m") (node_number v ∷ [])

-- the nodes from v on that are in the set, a line each
abbrev pub member_lines : ℕ → List Bool → List ℕ
member_lines v [] = []
member_lines v (is_in ∷ flags) = if is_in then member_line v ++ member_lines (v + 1) flags else member_lines (v + 1) flags

abbrev pub certificate_text : List FlowArc → Account → List ℕ
certificate_text arcs (Optimal value flows potentials) = value_line value ++ (flow_lines arcs flows ++ potential_lines 0 potentials)
certificate_text arcs (Cut flags side) = side_line side ++ member_lines 0 flags

-- ---- ranges of the number types

abbrev pub IsValue : ℤ → Type 0
IsValue z = is_within (2 ^ 127) z ≡ true

abbrev pub IsAmount : ℤ → Type 0
IsAmount z = is_within (2 ^ 63) z ≡ true

abbrev pub AreAmounts : List ℤ → Type 0
AreAmounts zs = EachIndex zs (λ k. IsAmount (slice_index_or zs k (pos 0)))

abbrev pub FitsTypes : Account → Type 0
FitsTypes (Optimal value flows potentials) = IsValue value × AreAmounts flows × AreAmounts potentials
FitsTypes (Cut flags side) = Unit {0}
