-- Worked examples of the definitions.
use Rattle.std.proofs.Common.{◌≡◌, ℕ, List, [], ◌∷◌, Option, Some, None, Result, Ok, Err, refl, codes}
use Rattle.net_lex.specs.declared.token.Kind.{Kind}
use Rattle.net_lex.specs.declared.token.Kind.TheVariants.{Name, Num, Mark, Dot}
use Rattle.net_lex.specs.declared.token.Token.{Token}
use Rattle.net_base.specs.declared.diagnostic.Span.{Span}
use Rattle.net_base.specs.declared.error_code.ErrorCode.TheVariants.{DataSyntax, RowWidth, TableWidth}
use Rattle.net_data.specs.declared.statement.Statement.TheVariants as kinds
use Rattle.net_data.specs.declared.data_parser.ParseError.{ParseError}
use Rattle.net_data.specs.declared.statement.Tables.{Tables}
use Rattle.net_data.specs.declared.statement.Transposed.{Transposed}
use Rattle.net_data.specs.Rows.{list_rows, row_across, first_item, more_items, set_rows}
use Rattle.net_data.specs.Commas.{before, bare}
use Rattle.net_data.specs.Reading.{tables, stop, met, wanted, rejected, run, items, items_from, set, heading, cells, check_rows, table, given, list, body, default, named, named_set, columns, param, statement, statements, single, finished}

abbrev pub at : ℕ → Kind → List ℕ → Token
at n kind text = record { kind = kind; text = text; span = record { start = n; end = n } }

abbrev pub name : ℕ → List ℕ → Token
name n text = at n Name text

abbrev pub mark : ℕ → List ℕ → Token
mark n text = at n Mark text

abbrev outcome : Result Tables ParseError → Result ℕ ParseError
outcome (Ok x) = Ok 1
outcome (Err e) = Err e

abbrev place : ℕ → Option Span
place n = Some (record { start = n; end = n })

-- set , S := a , ( b , c ) ;
set_text : List Token
set_text = name 1 (codes "set") ∷ mark 2 (codes ",") ∷ name 3 (codes "S") ∷ mark 4 (codes ":=") ∷ name 5 (codes "a") ∷ mark 6 (codes ",") ∷ mark 7 (codes "(") ∷ name 8 (codes "b")
    ∷ mark 9 (codes ",") ∷ name 10 (codes "c") ∷ mark 11 (codes ")") ∷ mark 12 (codes ";") ∷ []

-- commas outside tuples go, the tuple's stays
set_bare : bare before set_text ≡ name 1 (codes "set") ∷ name 3 (codes "S") ∷ mark 4 (codes ":=") ∷ name 5 (codes "a") ∷ mark 7 (codes "(") ∷ name 8 (codes "b")
    ∷ mark 9 (codes ",") ∷ name 10 (codes "c") ∷ mark 11 (codes ")") ∷ mark 12 (codes ";") ∷ []
unfolding set_text
set_bare = refl

-- it is the statement that gives the set S
set_read : tables set_text ≡ Ok (record {
  opening = None;
  statements = kinds.Set (record {
    keyword = name 1 (codes "set");
    name = name 3 (codes "S");
    assign = mark 4 (codes ":=");
    items = name 5 (codes "a") ∷ mark 7 (codes "(") ∷ name 8 (codes "b") ∷ mark 9 (codes ",") ∷ name 10 (codes "c") ∷ mark 11 (codes ")") ∷ [];
    end = mark 12 (codes ";");
  }) ∷ [];
  ending = None;
})
unfolding set_text tables single met statements statement set wanted items items_from finished
set_read = refl

-- param p : := ;
no_column : outcome (tables (name 1 (codes "param") ∷ name 2 (codes "p") ∷ mark 3 (codes ":") ∷ mark 4 (codes ":=") ∷ mark 5 (codes ";") ∷ [])) ≡ Err (stop TableWidth (place 4))
unfolding tables single met statements statement param named wanted default body table heading run cells
no_column = refl

-- param p : x y := a 1 2 b 3 ;
short_row : outcome (tables (name 1 (codes "param") ∷ name 2 (codes "p") ∷ mark 3 (codes ":") ∷ name 4 (codes "x") ∷ name 5 (codes "y") ∷ mark 6 (codes ":=") ∷ name 7 (codes "a") ∷ at 8 Num (codes "1")
    ∷ at 9 Num (codes "2") ∷ name 10 (codes "b") ∷ at 11 Num (codes "3") ∷ mark 12 (codes ";") ∷ [])) ≡ Err (stop RowWidth (place 11))
unfolding tables single met statements statement param named wanted default body table heading run cells check_rows
short_row = refl

-- param : S : := ;
no_name : outcome (tables (name 1 (codes "param") ∷ mark 2 (codes ":") ∷ name 3 (codes "S") ∷ mark 4 (codes ":") ∷ mark 5 (codes ":=") ∷ mark 6 (codes ";") ∷ [])) ≡ Err (stop TableWidth (place 5))
unfolding tables single met statements statement param columns named_set wanted heading run cells
no_name = refl

-- set S := ( a ) ;
one_member : outcome (tables (name 1 (codes "set") ∷ name 2 (codes "S") ∷ mark 3 (codes ":=") ∷ mark 4 (codes "(") ∷ name 5 (codes "a") ∷ mark 6 (codes ")") ∷ mark 7 (codes ";") ∷ []))
    ≡ Err (stop DataSyntax (place 6))
unfolding tables single met statements statement set wanted items items_from rejected
one_member = refl

-- end ; x
after_end : outcome (tables (name 1 (codes "end") ∷ mark 2 (codes ";") ∷ name 3 (codes "x") ∷ [])) ≡ Err (stop DataSyntax (place 3))
unfolding tables single met statements statement wanted finished
after_end = refl

-- param p
open_end : outcome (tables (name 1 (codes "param") ∷ name 2 (codes "p") ∷ [])) ≡ Err (stop DataSyntax None)
unfolding tables single met statements statement param named wanted default body list given rejected
open_end = refl

-- nothing but a comma
nothing : outcome (tables (mark 1 (codes ",") ∷ [])) ≡ Ok 1
unfolding tables single met statements statement finished
nothing = refl

-- two keys and two values, of which the second is wanted; a point gives no row
two_values : list_rows 2 2 1 (name 1 (codes "a") ∷ name 2 (codes "b") ∷ at 3 Num (codes "5") ∷ at 4 Num (codes "6") ∷ name 5 (codes "c") ∷ name 6 (codes "d") ∷ at 7 Num (codes "7") ∷ at 8 Dot (codes ".") ∷ [])
    ≡ record { keys = name 1 (codes "a") ∷ name 2 (codes "b") ∷ []; value = at 4 Num (codes "6") } ∷ []
two_values = refl

-- a row of a table, and the same with `(tr)`
across : row_across None (name 1 (codes "x") ∷ name 2 (codes "y") ∷ []) (name 3 (codes "a") ∷ at 4 Dot (codes ".") ∷ at 5 Num (codes "5") ∷ [])
    ≡ record { keys = name 3 (codes "a") ∷ name 2 (codes "y") ∷ []; value = at 5 Num (codes "5") } ∷ []
across = refl

turned_across : (turn : Transposed) → row_across (Some turn) (name 1 (codes "x") ∷ []) (name 3 (codes "a") ∷ at 5 Num (codes "5") ∷ [])
    ≡ record { keys = name 1 (codes "x") ∷ name 3 (codes "a") ∷ []; value = at 5 Num (codes "5") } ∷ []
turned_across turn = refl

-- ( b , c ) d
tuple_first : first_item (mark 7 (codes "(") ∷ name 8 (codes "b") ∷ mark 9 (codes ",") ∷ name 10 (codes "c") ∷ mark 11 (codes ")") ∷ name 12 (codes "d") ∷ [])
    ≡ Some (name 8 (codes "b") ∷ name 10 (codes "c") ∷ [])
tuple_first = refl

tuple_more : more_items (mark 7 (codes "(") ∷ name 8 (codes "b") ∷ mark 9 (codes ",") ∷ name 10 (codes "c") ∷ mark 11 (codes ")") ∷ name 12 (codes "d") ∷ []) ≡ name 12 (codes "d") ∷ []
tuple_more = refl

-- a , ( b , c ) d e in a set of pairs: `a` is a row cut short
pairs : set_rows 2 (name 1 (codes "a") ∷ mark 7 (codes "(") ∷ name 8 (codes "b") ∷ mark 9 (codes ",") ∷ name 10 (codes "c") ∷ mark 11 (codes ")") ∷ name 12 (codes "d") ∷ name 13 (codes "e") ∷ [])
    ≡ (name 1 (codes "a") ∷ []) ∷ (name 8 (codes "b") ∷ name 10 (codes "c") ∷ []) ∷ (name 12 (codes "d") ∷ name 13 (codes "e") ∷ []) ∷ []
pairs = refl
