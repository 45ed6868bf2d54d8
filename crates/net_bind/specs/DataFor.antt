-- The data that the statements give a name, statement by statement.
use Rattle.std.specs.Prelude.{ℕ, ◌+◌, List, [], ◌∷◌, ◌++◌, length, is_some, Option, None, Some, if◌then◌else◌, Ok, Err}
use Rattle.std.specs.List.{flat_map}
use Rattle.std.specs.Str.{bytes_eq}
use Rattle.net_lex.specs.declared.token.Token.{Token}
use Rattle.net_data.specs.declared.statement.ColumnsStatement.{ColumnsStatement}
use Rattle.net_data.specs.declared.statement.NamedSet.{NamedSet}
use Rattle.net_data.specs.declared.statement.Statement.{Statement}
use Rattle.net_data.specs.declared.statement.Statement.TheVariants.{Set, List as Listed, Table, Columns}
use Rattle.net_expr.specs.Worlds.{Name}
use Rattle.net_base.specs.Outcomes.{Outcome, and_then}
use Rattle.net_bind.specs.declared.given.DataContent.TheVariants as given
use Rattle.net_bind.specs.declared.given.NamedData.{NamedData}
use Rattle.net_bind.specs.DataByName.{default_word, given_cells, grouped, gridded, named, set_first, first_of, or_zero}
use Rattle.net_bind.specs.Names.{Declared}

-- an index, or 0 if there is none
abbrev pub leader_in : Outcome (Option ℕ) → ℕ
leader_in (Ok f) = or_zero f
leader_in (Err e) = 0

-- the index of the parameter or set of a heading that is declared first
abbrev pub leader : Declared → ColumnsStatement → ℕ
leader ds c = leader_in (and_then (set_first ds c.set) (first_of ds c.names))

-- the parts of a heading for the name n; `place` counts the parameters before it
abbrev pub headed_for : ℕ → ℕ → List Token → ℕ → Name → List Token → List NamedData
headed_for leader values cells place n [] = []
headed_for leader values cells place n (t ∷ ts) =
    (if bytes_eq t.text n then named t None (grouped leader values place cells) ∷ [] else []) ++ headed_for leader values cells (place + 1) n ts

-- the part of a heading for the set n
abbrev pub set_for : ℕ → ℕ → List Token → Name → Option NamedSet → List NamedData
set_for leader values cells n None = []
set_for leader values cells n (Some s) = if bytes_eq s.name.text n then named s.name None (grouped leader values 0 cells) ∷ [] else []

-- a statement's data for the name n, which is declared with index i
abbrev pub data_in : Declared → ℕ → Name → Statement → List NamedData
data_in ds i n (Set s) = if bytes_eq s.name.text n then named s.name None (given.Members s.items) ∷ [] else []
data_in ds i n (Listed l) = if bytes_eq l.name.text n then named l.name (default_word l.default) (grouped i 1 0 (given_cells l.given)) ∷ [] else []
data_in ds i n (Table t) =
    if bytes_eq t.name.text n then named t.name (default_word t.default) (gridded (is_some t.transposed) t.columns t.cells) ∷ [] else []
data_in ds i n (Columns c) =
    set_for (leader ds c) (length c.names) c.cells n c.set ++ headed_for (leader ds c) (length c.names) c.cells 0 n c.names

abbrev pub data_for : Declared → ℕ → Name → List Statement → List NamedData
data_for ds i n ss = flat_map (data_in ds i n) ss
