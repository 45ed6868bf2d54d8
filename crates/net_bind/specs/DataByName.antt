-- The content of the data statements, by declared name. The names of all statements are looked up
-- first, statement by statement from left to right.
use Rattle.std.specs.Prelude.{ℕ, ◌+◌, min, Bool, true, false, List, [], ◌∷◌, ◌++◌, length, map, is_some, slice_index_or, slice_set, Option, None, Some, Ok}
use Rattle.net_lex.specs.declared.token.Token.{Token}
use Rattle.net_data.specs.declared.statement.DefaultValue.{DefaultValue}
use Rattle.net_data.specs.declared.statement.Given.{Given as Cells}
use Rattle.net_data.specs.declared.statement.NamedSet.{NamedSet}
use Rattle.net_data.specs.declared.statement.Statement.{Statement}
use Rattle.net_data.specs.declared.statement.Statement.TheVariants.{Set, List as Listed, Table, Columns}
use Rattle.net_bind.specs.declared.given.DataContent.{DataContent}
use Rattle.net_bind.specs.declared.given.DataContent.TheVariants as given
use Rattle.net_bind.specs.declared.given.NamedData.{NamedData}
use Rattle.net_base.specs.Outcomes.{Outcome, and_then, each}
use Rattle.net_bind.specs.Names.{Declared, target}

-- for each declared name, in order, its data
abbrev pub Sorted : Type 0
Sorted = List (List NamedData)

-- no data for any name
abbrev pub no_data : Declared → Sorted
no_data ds = map (λ d. []) ds

-- adds a statement's data for the name with index i
abbrev pub with_named_data : ℕ → NamedData → Sorted → Sorted
with_named_data i m all = slice_set all i (slice_index_or all i [] ++ m ∷ [])

abbrev pub default_word : Option DefaultValue → Option Token
default_word None = None
default_word (Some d) = Some d.value

abbrev pub given_cells : Option Cells → List Token
given_cells None = []
given_cells (Some g) = g.cells

-- groups of a key and values; the value with index `place` is used
abbrev pub grouped : (leader values place : ℕ) → List Token → DataContent
grouped leader values place cells = given.Groups (record { leader = leader; values = values; place = place; cells = cells })

abbrev pub gridded : Bool → List Token → List Token → DataContent
gridded transposed columns cells = given.Grid (record { transposed = transposed; columns = columns; cells = cells })

abbrev pub named : Token → Option Token → DataContent → NamedData
named word default g = record { word = word; default = default; given = g }

-- adds the content of a statement for the name in a token
abbrev pub with_named : Declared → Bool → Token → (ℕ → NamedData) → Sorted → Outcome Sorted
with_named ds is_set word m all = and_then (target ds is_set word) (λ i. Ok (with_named_data i (m i) all))

abbrev pub lesser : Option ℕ → ℕ → ℕ
lesser None j = j
lesser (Some i) j = min i j

-- the index of the set in a heading
abbrev pub set_first : Declared → Option NamedSet → Outcome (Option ℕ)
set_first ds None = Ok None
set_first ds (Some s) = and_then (target ds true s.name) (λ i. Ok (Some i))

abbrev pub first_of : Declared → List Token → Option ℕ → Outcome (Option ℕ)
first_of ds [] first = Ok first
first_of ds (t ∷ ts) first = and_then (target ds false t) (λ i. first_of ds ts (Some (lesser first i)))

abbrev pub or_zero : Option ℕ → ℕ
or_zero None = 0
or_zero (Some i) = i

-- the parameters of a heading, from index `place` on
abbrev pub headed : Declared → ℕ → ℕ → List Token → ℕ → List Token → Sorted → Outcome Sorted
headed ds leader values cells place [] all = Ok all
headed ds leader values cells place (t ∷ ts) all =
    and_then (with_named ds false t (λ i. named t None (grouped leader values place cells)) all) (headed ds leader values cells (place + 1) ts)

abbrev pub set_headed : Declared → ℕ → ℕ → List Token → Option NamedSet → Sorted → Outcome Sorted
set_headed ds leader values cells None all = Ok all
set_headed ds leader values cells (Some s) all = with_named ds true s.name (λ i. named s.name None (grouped leader values 0 cells)) all

-- a statement for several names; the one declared first determines the number of keys
abbrev pub in_columns : Declared → Option NamedSet → List Token → List Token → Sorted → Outcome Sorted
in_columns ds s names cells all =
    and_then (and_then (set_first ds s) (first_of ds names)) (λ first.
    and_then (set_headed ds (or_zero first) (length names) cells s all) (headed ds (or_zero first) (length names) cells 0 names))

abbrev pub in_statement : Declared → Statement → Sorted → Outcome Sorted
in_statement ds (Set s) all = with_named ds true s.name (λ i. named s.name None (given.Members s.items)) all
in_statement ds (Listed l) all = with_named ds false l.name (λ i. named l.name (default_word l.default) (grouped i 1 0 (given_cells l.given))) all
in_statement ds (Table t) all =
    with_named ds false t.name (λ i. named t.name (default_word t.default) (gridded (is_some t.transposed) t.columns t.cells)) all
in_statement ds (Columns c) all = in_columns ds c.set c.names c.cells all

-- the content of all statements
abbrev pub data_by_name : Declared → List Statement → Outcome Sorted
data_by_name ds ss = each (in_statement ds) ss (no_data ds)
