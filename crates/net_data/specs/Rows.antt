-- The rows of a statement for a number of keys: each has its keys and its value. A missing-value
-- dot gives no row.
use Rattle.std.specs.Prelude.{ℕ, zero, suc, ◌+◌, Bool, true, false, not, List, [], ◌∷◌, length, take, drop, map, slice_get, if◌then◌else◌, unwrap_or, Option, Some, None, codes}
use Rattle.std.specs.List.{flat_map, zip, prefix_len}
use Rattle.net_lex.specs.declared.token.Kind.{Kind}
use Rattle.net_lex.specs.declared.token.Kind.TheVariants.{Dot}
use Rattle.net_lex.specs.declared.token.Token.{Token}
use Rattle.net_data.specs.declared.statement.Given.{Given}
use Rattle.net_data.specs.declared.statement.Transposed.{Transposed}
use Rattle.net_data.specs.declared.statement.TableStatement.{TableStatement}
use Rattle.net_data.specs.declared.statement.Statement.{Statement}
use Rattle.net_data.specs.declared.statement.Statement.TheVariants.{Set, List as Listed, Table, Columns}
use Rattle.net_data.specs.Tests.{is_mark}
use Rattle.net_data.specs.Commas.{uncommaed}

pub record DataRow : Type 0 where
  pub keys : List Token
  pub value : Token

abbrev pub points : Kind → Bool
points Dot = true
points _ = false

-- a row with this value; none for a dot, or for a group that is too short to have one
abbrev pub row_of : List Token → Option Token → List DataRow
row_of keys None = []
row_of keys (Some value) = if points value.kind then [] else record { keys = keys; value = value } ∷ []

abbrev pub groups_from : ℕ → ℕ → List Token → List (List Token)
groups_from size zero tokens = []
groups_from size (suc turns) [] = []
groups_from size (suc turns) (token ∷ tokens) = take size (token ∷ tokens) ∷ groups_from size turns (drop size (token ∷ tokens))

-- groups of a nonzero size; the last one can be shorter
abbrev pub groups : ℕ → List Token → List (List Token)
groups size tokens = groups_from size (length tokens) tokens

-- rows of keys followed by values, of which the value with index `place` is used
abbrev pub list_rows : (keys values place : ℕ) → List Token → List DataRow
list_rows keys values place cells = flat_map (λ group. row_of (take keys group) (slice_get group (keys + place))) (groups (keys + values) cells)

-- the row's member and the column's member; swapped by `(tr)`
abbrev pub table_keys : Option Transposed → Token → Token → List Token
table_keys None row column = row ∷ column ∷ []
table_keys (Some transposed) row column = column ∷ row ∷ []

abbrev pub row_across : Option Transposed → List Token → List Token → List DataRow
row_across transposed columns [] = []
row_across transposed columns (row ∷ values) = flat_map (λ pair. row_of (table_keys transposed row pair.0) (Some pair.1)) (zip columns values)

abbrev pub table_rows : TableStatement → List DataRow
table_rows table = flat_map (row_across table.transposed table.columns) (groups (length table.columns + 1) table.cells)

abbrev pub given_rows : ℕ → Option Given → List DataRow
given_rows keys None = []
given_rows keys (Some given) = list_rows keys 1 0 given.cells

-- the rows of a statement with this number of keys, for the parameter with this index in its
-- heading, counted from 0
abbrev pub rows : (keys place : ℕ) → Statement → List DataRow
rows keys place (Set set) = []
rows keys place (Listed list) = given_rows keys list.given
rows keys place (Table table) = table_rows table
rows keys place (Columns columns) = list_rows keys (length columns.names) place columns.cells

-- the keys of a statement with several parameters, which are also the members of its set
abbrev pub key_rows : ℕ → Statement → List (List Token)
key_rows keys (Set set) = []
key_rows keys (Listed list) = []
key_rows keys (Table table) = []
key_rows keys (Columns columns) = map (λ group. take keys group) (groups (keys + length columns.names) columns.cells)

-- the number of tokens of a tuple before its `)`
abbrev pub inside_len : List Token → ℕ
inside_len tokens = prefix_len (λ token. not (is_mark (codes ")") token)) tokens

-- the members of the first item of a set: those of a tuple, or a single member
abbrev pub first_item : List Token → Option (List Token)
first_item [] = None
first_item (token ∷ tokens) = if is_mark (codes "(") token then Some (uncommaed (take (inside_len tokens) tokens)) else Some (token ∷ [])

-- whether the first item is a tuple
abbrev pub begins_tuple : List Token → Bool
begins_tuple [] = false
begins_tuple (token ∷ tokens) = is_mark (codes "(") token

-- the items after the first one; a semicolon ends them
abbrev pub more_items : List Token → List Token
more_items [] = []
more_items (token ∷ tokens) =
    if is_mark (codes "(") token then drop (suc (inside_len tokens)) tokens
    else if is_mark (codes ";") token then []
    else tokens

-- the number of single members before the next tuple
abbrev pub alone_len : List Token → ℕ
alone_len tokens = prefix_len (λ token. not (is_mark (codes "(") token)) tokens

-- the first row of a set of this dimension: a tuple, or as many single members as the dimension, or
-- fewer before the next tuple
abbrev pub first_row : ℕ → List Token → List Token
first_row dimension tokens = if begins_tuple tokens then unwrap_or (first_item tokens) [] else take dimension (take (alone_len tokens) tokens)

abbrev pub more_rows : ℕ → List Token → List Token
more_rows dimension tokens = if begins_tuple tokens then more_items tokens else drop (length (take dimension (take (alone_len tokens) tokens))) tokens

abbrev pub set_rows_from : ℕ → ℕ → List Token → List (List Token)
set_rows_from dimension zero tokens = []
set_rows_from dimension (suc turns) [] = []
set_rows_from dimension (suc turns) (token ∷ tokens) = first_row dimension (token ∷ tokens) ∷ set_rows_from dimension turns (more_rows dimension (token ∷ tokens))

-- the rows of a set of a nonzero dimension; a row of another length is not a member of the set
abbrev pub set_rows : ℕ → List Token → List (List Token)
set_rows dimension tokens = set_rows_from dimension (length tokens) tokens
