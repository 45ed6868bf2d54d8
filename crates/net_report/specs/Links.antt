-- The comment lines at the top of a compiled problem, which map its numbers back to the model
-- (DIMACS readers skip lines that begin with `c`).
use Rattle.std.specs.Prelude.{ℕ, ◌+◌, if◌then◌else◌, ℤ, List, [], ◌∷◌, ◌++◌, map, codes, decimal}
use Rattle.std.specs.Fmt.{signed_decimal}
use Rattle.net_lex.specs.LineEnds.{ends_line}
use Rattle.net_normal.specs.declared.instance.Sense.{Sense}
use Rattle.net_normal.specs.declared.instance.Sense.TheVariants.{Minimise, Maximise}
use Rattle.net_normal.specs.declared.problem.Link.{Link}
use Rattle.net_inst.specs.declared.network_names.Names.{Names}
use Rattle.net_report.specs.References.{names_in}

-- the objective value of a flow with cost 0
abbrev pub constant_line : ℤ → List ℕ
constant_line constant = codes "c constant " ++ (signed_decimal constant ++ 10 ∷ [])

-- the sign of the cost in the objective value
abbrev pub sign_line : Sense → List ℕ
sign_line Minimise = codes "c sign 1\n"
sign_line Maximise = codes "c sign -1\n"

-- a byte as written within a line: a line ending becomes a space
abbrev pub within_line : ℕ → ℕ
within_line byte = if ends_line byte then 32 else byte

-- a name as written within a line; no token contains a line ending, so names of a model are
-- unchanged (`names_stay_within_lines`)
abbrev pub in_line : List ℕ → List ℕ
in_line name = map within_line name

abbrev pub node_line : ℕ → List ℕ → List ℕ
node_line number name = codes "c node " ++ (decimal number ++ (32 ∷ (in_line name ++ 10 ∷ [])))

-- a line for each node after the first n, numbered from n + 1
abbrev pub node_lines : ℕ → List (List ℕ) → List ℕ
node_lines n [] = []
node_lines n (name ∷ names) = node_line (n + 1) name ++ node_lines (n + 1) names

abbrev pub arc_line : ℕ → ℤ → List ℕ → List ℕ
arc_line number offset name = codes "c arc " ++ (decimal number ++ (32 ∷ (signed_decimal offset ++ (32 ∷ (in_line name ++ 10 ∷ [])))))

-- a line for each arc: its number, offset and name
abbrev pub arc_lines : (numbers : List ℕ) (offsets : List ℤ) (names : List (List ℕ)) → List ℕ
arc_lines numbers offsets [] = []
arc_lines [] offsets (name ∷ names) = []
arc_lines (number ∷ numbers) [] (name ∷ names) = []
arc_lines (number ∷ numbers) (offset ∷ offsets) (name ∷ names) = arc_line number offset name ++ arc_lines numbers offsets names

abbrev pub link_lines : Link → (nodes arcs : List (List ℕ)) → List ℕ
link_lines link nodes arcs =
    constant_line link.constant ++ (sign_line link.sense ++ (node_lines 0 nodes ++ arc_lines link.numbers.items link.offsets.items arcs))

abbrev pub link_text : Names → Link → List ℕ
link_text names link = link_lines link (names_in names.nodes) (names_in names.arcs)
