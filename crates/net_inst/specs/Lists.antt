-- The declared names of nodes or of arcs, and their keys.
use Rattle.std.specs.Prelude.{ℕ, suc, ◌≤◌, List, [], ◌∷◌, ◌++◌, length, map, Option, is_some}
use Rattle.net_sets.specs.Sets.{Tuple}
use Rattle.net_expr.specs.declared.row.Row.{Row}
use Rattle.net_expr.specs.Worlds.{Name}
use Rattle.net_inst.specs.declared.network_names.Declared.{Declared}
use Rattle.net_inst.specs.declared.network_names.DeclaredRows.{DeclaredRows}

-- a node or an arc: the index of its declaration, counted from 0, and its key, which is empty
-- without indexing
pub record Key : Type 0 where
  pub declaration : ℕ
  pub tuple : Tuple

-- the declarations in order, and for each node or arc in order the index of its declaration,
-- counted from 0, and its key
pub record Listed : Type 0 where
  pub declarations : List Declared
  pub keys : List Key

abbrev pub no_names : Listed
no_names = record { declarations = []; keys = [] }

abbrev pub keyed : ℕ → Row → Key
keyed d row = record { declaration = d; tuple = row.key }

-- adds a declaration; the number of its subscripts is None without indexing
abbrev pub listed_with : Listed → Name → Option ℕ → List Row → Listed
listed_with l name count rows = record {
  declarations = l.declarations ++ (record { name = name; indexed = is_some count }) ∷ [];
  keys = l.keys ++ map (keyed (length l.declarations)) rows;
}

-- the nodes or arcs of declarations with their rows; the first declaration has index d
abbrev pub keyed_rows : (d : ℕ) → List DeclaredRows → List Key
keyed_rows d [] = []
keyed_rows d (x ∷ xs) = map (keyed d) x.rows ++ keyed_rows (suc d) xs

abbrev pub listed_rows : List DeclaredRows → Listed
listed_rows xs = record { declarations = map (λ x. x.declared) xs; keys = keyed_rows 0 xs }

-- the nodes or arcs are in the order of their declarations
abbrev pub AreInOrder : (least : ℕ) → List Key → Type 0
AreInOrder least [] = Unit {0}
AreInOrder least (k ∷ ks) = (least ≤ k.declaration) × AreInOrder k.declaration ks
