-- Rows that are made from their keys.
use Rattle.std.specs.Prelude.{List, [], ◌∷◌, map}
use Rattle.net_sets.specs.Sets.{Tuple}
use Rattle.net_expr.specs.declared.row.Row.{Row}
use Rattle.net_expr.specs.declared.row_list.RowStore.{RowStore}
use Rattle.net_expr.specs.declared.row_list.RowStore.TheVariants.{Kept, Made}
use Rattle.net_expr.specs.declared.row_list.RowHolder.{RowHolder}
use Rattle.net_expr.specs.declared.row_list.RowHolder.TheVariants.{Owned, Borrowed}
use Rattle.net_expr.specs.Worlds.{Name, Scope, with_dummy}

-- dummies with these names, bound to members in turn
abbrev pub bound_to : List Name → Tuple → Scope → Scope
bound_to [] ms s = s
bound_to (n ∷ ns) [] s = s
bound_to (n ∷ ns) (m ∷ ms) s = bound_to ns ms (with_dummy n m s)

-- the row of a key whose members are those of the dummies
abbrev pub row_of : List Name → Tuple → Row
row_of names key = record { key = key; scope = bound_to names key [] }

abbrev pub rows_in : RowStore → List Row
rows_in (Kept rows) = rows
rows_in (Made keys names) = map (row_of names) keys

abbrev pub row_held : RowHolder → Row
row_held (Owned row) = row
row_held (Borrowed row) = row.now
