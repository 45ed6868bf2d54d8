-- The tokens of statements in order, with the commas of tuples and no others.
use Rattle.std.specs.Prelude.{List, [], ◌∷◌, ◌++◌, Option, Some, None}
use Rattle.net_lex.specs.declared.token.Token.{Token}
use Rattle.net_data.specs.declared.statement.DefaultValue.{DefaultValue}
use Rattle.net_data.specs.declared.statement.Given.{Given}
use Rattle.net_data.specs.declared.statement.Transposed.{Transposed}
use Rattle.net_data.specs.declared.statement.NamedSet.{NamedSet}
use Rattle.net_data.specs.declared.statement.TableStatement.{TableStatement}
use Rattle.net_data.specs.declared.statement.ColumnsStatement.{ColumnsStatement}
use Rattle.net_data.specs.declared.statement.Statement.{Statement}
use Rattle.net_data.specs.declared.statement.Statement.TheVariants.{Set, List as Listed, Table, Columns}
use Rattle.net_data.specs.declared.statement.Single.{Single}
use Rattle.net_data.specs.declared.statement.Tables.{Tables}

-- the tokens of a part, followed by the rest
abbrev pub put_default : Option DefaultValue → List Token → List Token
put_default None rest = rest
put_default (Some default) rest = default.keyword ∷ default.value ∷ rest

abbrev pub put_given : Option Given → List Token → List Token
put_given None rest = rest
put_given (Some given) rest = given.assign ∷ (given.cells ++ rest)

abbrev pub put_transposed : Option Transposed → List Token → List Token
put_transposed None rest = rest
put_transposed (Some transposed) rest = transposed.opening ∷ transposed.word ∷ transposed.closing ∷ rest

abbrev pub put_set : Option NamedSet → List Token → List Token
put_set None rest = rest
put_set (Some set) rest = set.name ∷ set.colon ∷ rest

-- a table up to its `:=`
abbrev pub put_table_heading : TableStatement → List Token → List Token
put_table_heading table rest =
    table.keyword ∷ table.name ∷ put_default table.default (put_transposed table.transposed (table.colon ∷ (table.columns ++ table.assign ∷ rest)))

abbrev pub put_columns_heading : ColumnsStatement → List Token → List Token
put_columns_heading columns rest = columns.keyword ∷ columns.colon ∷ put_set columns.set (columns.names ++ columns.assign ∷ rest)

-- the tokens of a statement, followed by the rest
abbrev pub put : Statement → List Token → List Token
put (Set set) rest = set.keyword ∷ set.name ∷ set.assign ∷ (set.items ++ set.end ∷ rest)
put (Listed list) rest = list.keyword ∷ list.name ∷ put_default list.default (put_given list.given (list.end ∷ rest))
put (Table table) rest = put_table_heading table (table.cells ++ table.end ∷ rest)
put (Columns columns) rest = put_columns_heading columns (columns.cells ++ columns.end ∷ rest)

abbrev pub put_all : List Statement → List Token → List Token
put_all [] rest = rest
put_all (statement ∷ statements) rest = put statement (put_all statements rest)

abbrev pub put_single : Option Single → List Token → List Token
put_single None rest = rest
put_single (Some single) rest = single.word ∷ single.end ∷ rest

-- all tokens of a data file
abbrev pub print : Tables → List Token
print tables = put_single tables.opening (put_all tables.statements (put_single tables.ending []))
