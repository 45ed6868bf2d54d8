-- Declared nodes, or arcs: their names for output, and their numbers for references.
use Rattle.std.specs.Prelude.{ℕ, Bool, true, false, [], ◌∷◌, ◌++◌}
use Rattle.net_sets.specs.Operations.{union}
use Rattle.net_expr.specs.Worlds.{Name}
use Rattle.net_linear.specs.Arcs as numbers
use Rattle.net_inst.specs.declared.node_name.Group.{Group}
use Rattle.net_expr.specs.declared.indexing.Indexing.{Indexing}
use Rattle.net_expr.specs.Rows.{keys_of}
use Rattle.net_inst.specs.Lists.{no_names, listed_with}

-- the target of a name with subscripts: for each declared name, the number of its first node or
-- arc, and its keys
abbrev pub Numbers : Type 0
Numbers = numbers.Arcs

abbrev pub unless_known : Bool → Numbers → Numbers → Numbers
unless_known true a b = a
unless_known false a b = b

-- adds a declared name, unless it is already there
abbrev pub numbers_with : Numbers → Name → ℕ → Indexing → Numbers
numbers_with a name first i = unless_known (numbers.is_arc a name) a (a ++ (name, record { count = i.count; first = first; keys = union [] (keys_of i.rows) }) ∷ [])

abbrev pub no_group : Group
no_group = record { list = no_names; numbers = [] }

abbrev pub group_with : Group → Name → ℕ → Indexing → Group
group_with g name first i = record { list = listed_with g.list name i.count i.rows; numbers = numbers_with g.numbers name first i }
