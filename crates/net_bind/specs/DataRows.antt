-- The rows that statements give: those of the data statements, for the number of keys or the
-- dimension.
use Rattle.std.specs.Prelude.{◌≡◌, ℕ, ◌+◌, ◌<◌, false, List, length, map, take, is_some, codes}
use Rattle.std.specs.List.{AllByRecursion}
use Rattle.net_lex.specs.declared.token.Token.{Token}
use Rattle.net_data.specs.declared.statement.ListStatement.{ListStatement}
use Rattle.net_data.specs.declared.statement.TableStatement.{TableStatement}
use Rattle.net_data.specs.declared.statement.ColumnsStatement.{ColumnsStatement}
use Rattle.net_data.specs.declared.statement.Statement.TheVariants.{List as Listed, Table as Tabled, Columns}
use Rattle.net_data.specs.Rows as stated
use Rattle.net_data.specs.Rows.{DataRow, rows, key_rows}
use Rattle.net_data.specs.Tests.{is_mark}
use Rattle.net_bind.specs.DataByName.{grouped, gridded, given_cells}
use Rattle.net_base.specs.Outcomes.{Outcome, each}
use Rattle.net_bind.specs.Rows.{NamedParameter, Taken, with_row, with_rows}
use Rattle.net_bind.specs.SetData.{set_rows, cut}

-- adds the rows in order
abbrev pub taken_rows : NamedParameter → List DataRow → Taken → Outcome Taken
taken_rows p all t = each (λ (r : DataRow). with_row p r.keys r.value) all t

-- a parameter alone in its statement
abbrev pub TakesLists : Type 0
TakesLists = (p : NamedParameter) (size leader : ℕ) (s : ListStatement) (t : Taken)
    → with_rows p size (grouped leader 1 0 (given_cells s.given)) t ≡ taken_rows p (rows size 0 (Listed s)) t

-- a table
abbrev pub TakesTables : Type 0
TakesTables = (p : NamedParameter) (size : ℕ) (s : TableStatement) (t : Taken)
    → with_rows p size (gridded (is_some s.transposed) s.columns s.cells) t ≡ taken_rows p (rows size 0 (Tabled s)) t

-- the parameter with an index in a heading
abbrev pub TakesColumns : Type 0
TakesColumns = (p : NamedParameter) (size leader place : ℕ) (s : ColumnsStatement) (t : Taken) → place < length s.names
    → with_rows p size (grouped leader (length s.names) place s.cells) t ≡ taken_rows p (rows size place (Columns s)) t

-- a set; its items end before the semicolon
abbrev pub TakesMembers : Type 0
TakesMembers = (dimension : ℕ) (ts : List Token) → 0 < dimension → AllByRecursion (λ (t : Token). is_mark (codes ";") t ≡ false) ts → set_rows dimension ts ≡ stated.set_rows dimension ts

-- the set of a heading: the keys of its parameters
abbrev pub TakesKeys : Type 0
TakesKeys = (dimension : ℕ) (s : ColumnsStatement) → 0 < length s.names → map (take dimension) (cut (dimension + length s.names) s.cells) ≡ key_rows dimension (Columns s)
