-- Which statements some tokens are: apart from commas outside tuples, the tokens are those of the
-- statements.
use Rattle.std.specs.Prelude.{◌≡◌, ℕ, true, List, [], ◌∷◌, Some, IfSome, Result, Ok, Err, codes}
use Rattle.std.specs.List.{list_all, AllByRecursion}
use Rattle.net_lex.specs.declared.token.Token.{Token}
use Rattle.net_base.specs.declared.error_code.ErrorCode.TheVariants.{TableWidth}
use Rattle.net_data.specs.declared.data_parser.ParseError.{ParseError}
use Rattle.net_data.specs.declared.statement.SetStatement.{SetStatement}
use Rattle.net_data.specs.declared.statement.DefaultValue.{DefaultValue}
use Rattle.net_data.specs.declared.statement.Given.{Given}
use Rattle.net_data.specs.declared.statement.ListStatement.{ListStatement}
use Rattle.net_data.specs.declared.statement.Transposed.{Transposed}
use Rattle.net_data.specs.declared.statement.TableStatement.{TableStatement}
use Rattle.net_data.specs.declared.statement.NamedSet.{NamedSet}
use Rattle.net_data.specs.declared.statement.ColumnsStatement.{ColumnsStatement}
use Rattle.net_data.specs.declared.statement.Statement.{Statement}
use Rattle.net_data.specs.declared.statement.Statement.TheVariants.{Set, List as Listed, Table, Columns}
use Rattle.net_data.specs.declared.statement.Single.{Single}
use Rattle.net_data.specs.declared.statement.Tables.{Tables}
use Rattle.net_data.specs.Tests.{is_name, is_member, is_cell, is_word, is_mark, is_comma}
use Rattle.net_data.specs.Commas.{before, bare}
use Rattle.net_data.specs.Printing.{print}
use Rattle.net_data.specs.Reading.{semicolon, colon, assign, stop, check_rows}

-- after the first member of a tuple: one or more pairs of a comma and a member, and `)`; then the
-- rest
pub data IsTupleRest : List Token → List Token → Type 0 where
  last : {comma member closing : Token} {rest : List Token} → is_comma comma ≡ true → is_member member ≡ true → is_mark (codes ")") closing ≡ true
      → IsTupleRest (comma ∷ member ∷ closing ∷ rest) rest
  more : {comma member : Token} {tokens rest : List Token} → is_comma comma ≡ true → is_member member ≡ true → IsTupleRest tokens rest → IsTupleRest (comma ∷ member ∷ tokens) rest

-- members, and tuples of two or more members
pub data AreItems : List Token → Type 0 where
  nothing : AreItems []
  member : {member : Token} {rest : List Token} → is_member member ≡ true → AreItems rest → AreItems (member ∷ rest)
  tuple : {opening first : Token} {tokens rest : List Token} → is_mark (codes "(") opening ≡ true → is_member first ≡ true → IsTupleRest tokens rest → AreItems rest
      → AreItems (opening ∷ first ∷ tokens)

pub record IsSet (set : SetStatement) : Type 0 where
  pub keyword : is_word (codes "set") set.keyword ≡ true
  pub name : is_name set.name ≡ true
  pub assign : assign set.assign ≡ true
  pub items : AreItems set.items
  pub end : semicolon set.end ≡ true

pub record IsDefault (default : DefaultValue) : Type 0 where
  pub keyword : is_word (codes "default") default.keyword ≡ true
  pub value : is_member default.value ≡ true

pub record IsGiven (given : Given) : Type 0 where
  pub assign : assign given.assign ≡ true
  pub cells : list_all is_cell given.cells ≡ true

pub record IsList (list : ListStatement) : Type 0 where
  pub keyword : is_word (codes "param") list.keyword ≡ true
  pub name : is_name list.name ≡ true
  pub default : IfSome list.default IsDefault
  pub given : IfSome list.given IsGiven
  pub end : semicolon list.end ≡ true

pub record IsTransposed (transposed : Transposed) : Type 0 where
  pub opening : is_mark (codes "(") transposed.opening ≡ true
  pub word : is_word (codes "tr") transposed.word ≡ true
  pub closing : is_mark (codes ")") transposed.closing ≡ true

-- the part of a table before its cells
pub record IsTableHeading (table : TableStatement) : Type 0 where
  pub keyword : is_word (codes "param") table.keyword ≡ true
  pub name : is_name table.name ≡ true
  pub default : IfSome table.default IsDefault
  pub transposed : IfSome table.transposed IsTransposed
  pub colon : colon table.colon ≡ true
  pub columns : list_all is_member table.columns ≡ true
  pub assign : assign table.assign ≡ true

pub record IsTable (table : TableStatement) : Type 0 where
  pub heading : IsTableHeading table
  pub cells : list_all is_cell table.cells ≡ true
  pub end : semicolon table.end ≡ true

pub record IsNamedSet (set : NamedSet) : Type 0 where
  pub name : is_name set.name ≡ true
  pub colon : colon set.colon ≡ true

pub record IsColumnsHeading (columns : ColumnsStatement) : Type 0 where
  pub keyword : is_word (codes "param") columns.keyword ≡ true
  pub colon : colon columns.colon ≡ true
  pub set : IfSome columns.set IsNamedSet
  pub names : list_all is_name columns.names ≡ true
  pub assign : assign columns.assign ≡ true

pub record IsColumns (columns : ColumnsStatement) : Type 0 where
  pub heading : IsColumnsHeading columns
  pub cells : list_all is_cell columns.cells ≡ true
  pub end : semicolon columns.end ≡ true

-- the statement is well-formed: each of its tokens is of the sort that the grammar requires
abbrev pub IsStatement : Statement → Type 0
IsStatement (Set set) = IsSet set
IsStatement (Listed list) = IsList list
IsStatement (Table table) = IsTable table
IsStatement (Columns columns) = IsColumns columns

pub record IsSingle (text : List ℕ) (single : Single) : Type 0 where
  pub word : is_word text single.word ≡ true
  pub end : semicolon single.end ≡ true

pub record AreTables (tables : Tables) : Type 0 where
  pub opening : IfSome tables.opening (IsSingle (codes "data"))
  pub statements : AllByRecursion IsStatement tables.statements
  pub ending : IfSome tables.ending (IsSingle (codes "end"))

-- apart from commas outside tuples, the tokens are those of these well-formed statements
pub record Mean (tokens : List Token) (tables : Tables) : Type 0 where
  pub printed : bare before tokens ≡ print tables
  pub are : AreTables tables

-- a heading has at least one column
abbrev pub heading_judged : List Token → Token → Result (Unit {0}) ParseError
heading_judged [] assign = Err (stop TableWidth (Some assign.span))
heading_judged (column ∷ columns) assign = Ok tt

abbrev pub and_then : Result (Unit {0}) ParseError → Result (Unit {0}) ParseError → Result (Unit {0}) ParseError
and_then (Ok x) next = next
and_then (Err e) next = Err e

-- a heading has columns and the cells fill complete rows, or else the error
abbrev pub judged : Statement → Result (Unit {0}) ParseError
judged (Set set) = Ok tt
judged (Listed list) = Ok tt
judged (Table table) = and_then (heading_judged table.columns table.assign) (check_rows table.columns table.cells)
judged (Columns columns) = heading_judged columns.names columns.assign

abbrev pub all_judged : List Statement → Result (Unit {0}) ParseError
all_judged [] = Ok tt
all_judged (statement ∷ statements) = and_then (judged statement) (all_judged statements)

abbrev pub unless_faulty : Result (Unit {0}) ParseError → Tables → Result Tables ParseError
unless_faulty (Ok full) tables = Ok tables
unless_faulty (Err e) tables = Err e

-- the tables, or the first error in one of them
abbrev pub checked : Tables → Result Tables ParseError
checked tables = unless_faulty (all_judged tables.statements) tables
