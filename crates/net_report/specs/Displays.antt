-- The printed plan: the objective's value, and the value of each arc under its declared name.
use Rattle.std.specs.Prelude.{ℕ, suc, Bool, ℤ, List, [], ◌∷◌, ◌++◌, drop, nat_eq, if◌then◌else◌, codes}
use Rattle.std.specs.Fmt.{signed_decimal}
use Rattle.std.specs.List.{zip, flat_map, filter, take_while, prefix_len}
use Rattle.net_sets.specs.Sets.{Tuple}
use Rattle.net_expr.specs.References.{member_text}
use Rattle.net_inst.specs.declared.network_names.Declared.{Declared}
use Rattle.net_expr.specs.Rows.{keys_of}
use Rattle.net_inst.specs.Lists.{Key}
use Rattle.net_inst.specs.declared.network_names.DeclaredRows.{DeclaredRows}
use Rattle.net_inst.specs.declared.network_names.Names.{Names}

-- an arc's key and its value in the assignment
abbrev pub Assigned : Type 0
Assigned = Key × ℤ

-- NAME = NUMBER
abbrev pub value_line : List ℕ → ℤ → List ℕ
value_line name number = name ++ (codes " = " ++ (signed_decimal number ++ 10 ∷ []))

-- the members of a key, each followed by a space
abbrev pub fields : Tuple → List ℕ
fields [] = []
fields (m ∷ ms) = member_text m ++ (32 ∷ fields ms)

-- the members of a key, and a value
abbrev pub key_row : Tuple → ℤ → List ℕ
key_row key number = fields key ++ (signed_decimal number ++ 10 ∷ [])

-- an arc's members and its value
abbrev pub row : Assigned → List ℕ
row a = key_row a.0.tuple a.1

-- a declaration with its arcs: if indexed, a row for each arc below the name; otherwise the value
-- after the name
abbrev pub block : Declared → List Assigned → List ℕ
block d arcs =
    if d.indexed then d.name ++ (codes " :=\n" ++ (flat_map row arcs ++ codes ";\n")) else flat_map (λ a. value_line d.name a.1) arcs

-- the rows of keys with their values
abbrev pub key_rows : List Tuple → List ℤ → List ℕ
key_rows keys numbers = flat_map (λ a. key_row a.0 a.1) (zip keys numbers)

-- a declaration with the values of its arcs
abbrev pub declared_block : DeclaredRows → List ℤ → List ℕ
declared_block x numbers =
    if x.declared.indexed then x.declared.name ++ (codes " :=\n" ++ (key_rows (keys_of x.rows) numbers ++ codes ";\n")) else flat_map (value_line x.declared.name) numbers

-- whether the arc belongs to the declaration with this index, counted from 0
abbrev pub is_of : ℕ → Assigned → Bool
is_of d a = nat_eq a.0.declaration d

-- the declarations from index d on, each with the run of its arcs at the head of the list
abbrev pub blocks : ℕ → List Declared → List Assigned → List ℕ
blocks d [] arcs = []
blocks d (x ∷ xs) arcs = block x (take_while (is_of d) arcs) ++ blocks (suc d) xs (drop (prefix_len (is_of d) arcs) arcs)

-- the declarations from index d on, each with all of its arcs
abbrev pub blocks_of_all : ℕ → List Declared → List Assigned → List ℕ
blocks_of_all d [] arcs = []
blocks_of_all d (x ∷ xs) arcs = block x (filter (is_of d) arcs) ++ blocks_of_all (suc d) xs arcs

abbrev pub display_text : Names → (assignment : List ℤ) (value : ℤ) → List ℕ
display_text names assignment value = value_line names.objective value ++ blocks 0 names.arcs.declarations (zip names.arcs.keys assignment)

-- the printed plan by all arcs of each declaration; it is the same text if the arcs are in
-- declaration order
abbrev pub display_of_all : Names → (assignment : List ℤ) (value : ℤ) → List ℕ
display_of_all names assignment value = value_line names.objective value ++ blocks_of_all 0 names.arcs.declarations (zip names.arcs.keys assignment)
