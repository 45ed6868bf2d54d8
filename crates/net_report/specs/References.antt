-- The printed names of nodes and arcs:  Move    Ship['PITT','NE']
use Rattle.std.specs.Prelude.{ℕ, List, [], map, Option, None, Some, slice_get}
use Rattle.net_sets.specs.Sets.{Tuple}
use Rattle.net_expr.specs.References.{reference_text}
use Rattle.net_inst.specs.Lists.{Listed, Key}
use Rattle.net_inst.specs.declared.network_names.Declared.{Declared}
use Rattle.net_inst.specs.declared.network_names.DeclaredRows.{DeclaredRows}

-- a declared name, followed by its key in brackets if it is indexed; empty if there is no
-- declaration
abbrev pub declared_name : Option Declared → Tuple → List ℕ
declared_name None key = []
declared_name (Some d) key = reference_text d.name d.indexed key

-- the name of a node or an arc, from its declaration and its key
abbrev pub name_in : List Declared → Key → List ℕ
name_in declarations k = declared_name (slice_get declarations k.declaration) k.tuple

-- the names of all nodes, or of all arcs, in order
abbrev pub names_in : Listed → List (List ℕ)
names_in l = map (name_in l.declarations) l.keys

-- the names of the nodes or arcs of a declaration, in order
abbrev pub names_of : DeclaredRows → List (List ℕ)
names_of x = map (λ row. declared_name (Some x.declared) row.key) x.rows
