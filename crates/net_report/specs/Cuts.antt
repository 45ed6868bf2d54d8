-- Why there is no plan: a set of nodes that supplies more than its arcs can carry out of it, or
-- less than they must.
use Rattle.std.specs.Prelude.{ℕ, ◌-◌, Bool, true, false, ℤ, List, [], ◌∷◌, ◌++◌, vec_len, if◌then◌else◌, codes}
use Rattle.std.specs.Fmt.{signed_decimal}
use Rattle.net_normal.specs.declared.problem.Problem.{Problem}
use Rattle.net_check.specs.Certificates.{is_in, supply_in, most_out, least_out}
use Rattle.net_check.specs.declared.certificate.Side.{Side}
use Rattle.net_check.specs.declared.certificate.Side.TheVariants.{Over, Under}
use Rattle.net_inst.specs.declared.network_names.Names.{Names}
use Rattle.net_report.specs.References.{names_in}

-- the supply of the set
abbrev pub need : Problem → List Bool → ℤ
need problem flags = supply_in problem.supplies.items flags

-- what the set's arcs allow: the most that they can carry out of it, or the least that they must
abbrev pub room : Problem → List Bool → Side → ℤ
room problem flags Over = most_out problem.arcs.items flags
room problem flags Under = least_out problem.arcs.items flags

abbrev pub side_word : Side → List ℕ
side_word Over = codes "over "
side_word Under = codes "under "

abbrev pub sums_line : Side → (need room : ℤ) → List ℕ
sums_line side need room = side_word side ++ (signed_decimal need ++ (32 ∷ (signed_decimal room ++ 10 ∷ [])))

abbrev pub node_line : List ℕ → List ℕ
node_line name = codes "node " ++ (name ++ 10 ∷ [])

-- the names of the nodes in the set, one line each
abbrev pub node_lines : List Bool → (names : List (List ℕ)) → List ℕ
node_lines flags [] = []
node_lines [] (name ∷ names) = []
node_lines (is_in ∷ flags) (name ∷ names) = (if is_in then node_line name else []) ++ node_lines flags names

-- the index of the outside node: the problem's last node, which has no name
abbrev pub outside : Problem → ℕ
outside problem = vec_len problem.supplies - 1

abbrev pub outside_line : Bool → List ℕ
outside_line true = codes "outside\n"
outside_line false = []

abbrev pub cut_text : Names → Problem → List Bool → Side → List ℕ
cut_text names problem flags side =
    codes "infeasible\n" ++ (sums_line side (need problem flags) (room problem flags side)
    ++ (node_lines flags (names_in names.nodes) ++ outside_line (is_in flags (outside problem))))
