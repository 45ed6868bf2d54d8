-- Parameters have values only at keys of their index sets, at most one at each; and which source
-- determines the value at a key.
use Rattle.std.specs.Prelude.{◌≡◌, ℕ, ◌+◌, true, Bool, List, [], ◌∷◌, length, map, take, slice_get, Option, None, Some, Ok}
use Rattle.std.specs.List.{AllByRecursion, IsDistinct, flat_map, zip}
use Rattle.net_lex.specs.declared.token.Token.{Token}
use Rattle.net_data.specs.Rows.{DataRow, row_of}
use Rattle.net_sets.specs.declared.member.Member.{Member}
use Rattle.net_sets.specs.Sets.{Tuple, same_tuple, has, at_key}
use Rattle.net_tree.specs.Tree.{Braces, Phrase}
use Rattle.net_expr.specs.declared.row.Row.{Row}
use Rattle.net_expr.specs.declared.indexing.Indexing.{Indexing}
use Rattle.net_expr.specs.Indexings.{indexing_in}
use Rattle.net_expr.specs.declared.world.Entry.{Entry}
use Rattle.net_expr.specs.declared.world.Entry.TheVariants.{Parameter}
use Rattle.net_expr.specs.SetValues.{HasSets}
use Rattle.net_expr.specs.Worlds.{Name, World, entry_of, key_count}
use Rattle.net_tree.specs.Phrases.{is_becomes, is_default}
use Rattle.net_tree.specs.PhraseValues.{phrase_value}
use Rattle.net_bind.specs.declared.given.DataContent.{DataContent}
use Rattle.net_bind.specs.declared.given.DataContent.TheVariants as given
use Rattle.net_bind.specs.declared.given.NamedData.{NamedData}
use Rattle.net_bind.specs.BoundParameters.{keys_with, Source, source, from_source, bound_parameter}
use Rattle.net_bind.specs.Cells.{member_in, tuple_in}
use Rattle.net_base.specs.Outcomes.{Outcome}
use Rattle.net_bind.specs.Rows.{Table, either, pair_of}
use Rattle.net_bind.specs.SetData.{cut}

-- the index set has no repeated keys, each value has one of its keys, and no two values have the
-- same key
pub record IsParameterOf (index : List Tuple) (t : Table) : Type 0 where
  pub keys : IsDistinct same_tuple index
  pub inside : AllByRecursion (λ (e : Tuple × Member). has index e.0 ≡ true) t
  pub once : IsDistinct same_tuple (keys_with t)

-- the declared parameters satisfy this
abbrev pub HasParameters : World → Type 0
HasParameters w = (name : Name) (n : Option ℕ) (index : List Tuple) (t : Table) → entry_of w name ≡ Some (Parameter n index t) → IsParameterOf index t

-- ---- the source of the value at a key

-- the cells of a row in a table: for each column, the row's member, the column's member, and the
-- cell
abbrev pub rows_across : Bool → List Token → List Token → List DataRow
rows_across turned columns [] = []
rows_across turned columns (row ∷ cells) = flat_map (λ pair. row_of (pair_of turned row pair.0) (Some pair.1)) (zip columns cells)

-- the rows in the data of a statement, for a number of keys; a missing-value dot gives none
abbrev pub rows_given : ℕ → DataContent → List DataRow
rows_given size (given.Members ts) = []
rows_given size (given.Groups g) = flat_map (λ group. row_of (take size group) (slice_get group (size + g.place))) (cut (size + g.values) g.cells)
rows_given size (given.Grid g) = flat_map (rows_across g.transposed g.columns) (cut (1 + length g.columns) g.cells)

-- the key of a row with its value
abbrev pub row_value : DataRow → Tuple × Member
row_value r = (tuple_in r.keys, member_in r.value)

-- the values in all statements of a parameter, row by row
abbrev pub values_given : ℕ → List NamedData → Table
values_given size ms = map row_value (flat_map (λ (m : NamedData). rows_given size m.given) ms)

-- the first default in the data
abbrev pub default_given : List NamedData → Option Token
default_given [] = None
default_given (m ∷ ms) = either m.default (default_given ms)

-- the source for a key without a row: the expression of `:=`, else the data's default, else the
-- expression of `default`, else nothing
abbrev pub source_of : List Phrase → List NamedData → Source
source_of ps ms = source (phrase_value is_becomes ps) (default_given ms) (phrase_value is_default ps)

-- the value is that of the data's row, or else that of the source
abbrev pub IsValue : Option Member → Outcome (Option Member) → Option Member → Type 0
IsValue (Some m) later found = found ≡ Some m
IsValue None later found = later ≡ Ok found

abbrev pub IsValueAt : World → List Phrase → Table → List NamedData → Table → Row → Type 0
IsValueAt w ps said ms t r = IsValue (at_key said r.key) (from_source w r.scope (source_of ps ms)) (at_key t r.key)

-- The value of an evaluated parameter at each of its keys: that of the data's row with this key;
-- without such a row, the value of `:=`, the data's default or the value of `default`; without any
-- of these, none.
pub record IsValued (w : World) (b : Option Braces) (ps : List Phrase) (ms : List NamedData) (e : Entry) : Type 0 where
  pub indexing : Indexing
  pub indexed : indexing_in w b ≡ Ok indexing
  pub index : List Tuple
  pub table : Table
  pub is : e ≡ Parameter indexing.count index table
  pub at : AllByRecursion (IsValueAt w ps (values_given (key_count indexing.count) ms) ms table) indexing.rows

abbrev pub AreValued : Type 0
AreValued = (w : World) (widths : List ℕ) (name : Token) (b : Option Braces) (ps : List Phrase) (ms : List NamedData) (e : Entry) → HasSets w → bound_parameter w widths name b ps ms ≡ Ok e → IsValued w b ps ms e
