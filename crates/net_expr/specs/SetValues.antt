-- Values that are sets, and distinctness of the keys of indexing expressions.
use Rattle.std.specs.Prelude.{◌≡◌, ℕ, List, [], length, Option, None, Some, Ok}
use Rattle.std.specs.List.{AllByRecursion, IsDistinct}
use Rattle.net_sets.specs.Sets.{Tuple, same_tuple}
use Rattle.net_tree.specs.Tree.{Tree, Braces}
use Rattle.net_expr.specs.declared.row.Keys.{Keys}
use Rattle.net_expr.specs.declared.value.Value.TheVariants.{Many}
use Rattle.net_expr.specs.Rows.{keys_of}
use Rattle.net_expr.specs.Values.{value, index}
use Rattle.net_expr.specs.declared.world.Entry.TheVariants.{Set}
use Rattle.net_expr.specs.Worlds.{Name, World, Scope, entry_of}

-- no tuple occurs twice, and each has as many members as the dimension; `{}` has none
abbrev pub IsSetOf : Option ℕ → List Tuple → Type 0
IsSetOf None ts = ts ≡ []
IsSetOf (Some d) ts = IsDistinct same_tuple ts × AllByRecursion (λ t. length t ≡ d) ts

-- the tuples of a set-valued expression are distinct and have its dimension
abbrev pub GivesSets : World → Type 0
GivesSets w = (s : Scope) (t : Tree) (d : Option ℕ) (ts : List Tuple) → value w s t ≡ Ok (Many d ts) → IsSetOf d ts

-- no key of an indexing expression occurs twice
abbrev pub HaveDistinctKeys : Type 0
HaveDistinctKeys = (w : World) (s : Scope) (b : Braces) (k : Keys) → GivesSets w → index w s b ≡ Ok k → IsDistinct same_tuple (keys_of k.rows)

-- the declared sets are sets
abbrev pub HasSets : World → Type 0
HasSets w = (name : Name) (d : ℕ) (ts : List Tuple) → entry_of w name ≡ Some (Set d ts) → IsSetOf (Some d) ts

-- values preserve this
abbrev pub KeepsSets : Type 0
KeepsSets = (w : World) → HasSets w → GivesSets w
