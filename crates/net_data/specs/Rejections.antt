-- Which errors some tokens have.
use Rattle.std.specs.Prelude.{◌≡◌, false, List, [], Option, Some, IfSome, Ok, codes}
use Rattle.std.specs.List.{AllByRecursion}
use Rattle.net_base.specs.declared.diagnostic.Span.{Span}
use Rattle.net_lex.specs.declared.token.Token.{Token}
use Rattle.net_base.specs.declared.error_code.ErrorCode.{ErrorCode}
use Rattle.net_base.specs.declared.error_code.ErrorCode.TheVariants.{DataSyntax, RowWidth, TableWidth}
use Rattle.net_base.specs.declared.diagnostic.Fault.{Fault}
use Rattle.net_base.specs.declared.diagnostic.Language.TheVariants.{Data}
use Rattle.net_base.specs.Outcomes as outcomes
use Rattle.net_base.specs.declared.diagnostic.Fault.TheVariants.{OutOfMemory, At}
use Rattle.net_data.specs.declared.statement.TableStatement.{TableStatement}
use Rattle.net_data.specs.declared.statement.ColumnsStatement.{ColumnsStatement}
use Rattle.net_data.specs.declared.statement.Statement.{Statement}
use Rattle.net_data.specs.declared.statement.Statement.TheVariants.{Table}
use Rattle.net_data.specs.declared.statement.Single.{Single}
use Rattle.net_data.specs.Commas.{before, bare}
use Rattle.net_data.specs.GoingOn.{BeginsBefore, IsWrong}
use Rattle.net_data.specs.Printing.{put, put_table_heading, put_columns_heading, put_all, put_single}
use Rattle.net_data.specs.Meaning.{IsTable, IsTableHeading, IsColumnsHeading, IsStatement, IsSingle, heading_judged, all_judged}
use Rattle.net_data.specs.Reading.{fills, last_span}

-- the tokens begin with a table whose cells do not fill complete rows, or with a heading without
-- columns or names; with the span of the error
pub data IsFaulty (tokens : List Token) (span : Span) : ErrorCode → Type 0 where
  short_row : (table : TableStatement) (more : List Token) → tokens ≡ put (Table table) more → IsTable table → heading_judged table.columns table.assign ≡ Ok tt
      → fills table.columns table.cells ≡ false → last_span table.cells ≡ Some span → IsFaulty tokens span RowWidth
  no_column : (table : TableStatement) (more : List Token) → tokens ≡ put_table_heading table more → IsTableHeading table → table.columns ≡ []
      → table.assign.span ≡ span → IsFaulty tokens span TableWidth
  no_name : (columns : ColumnsStatement) (more : List Token) → tokens ≡ put_columns_heading columns more → IsColumnsHeading columns → columns.names ≡ []
      → columns.assign.span ≡ span → IsFaulty tokens span TableWidth

-- after statements without an error there is a table with this error
pub record HasFault (tokens : List Token) (error_code : ErrorCode) (span : Span) : Type 0 where
  pub opening : Option Single
  pub statements : List Statement
  pub rest : List Token
  pub printed : bare before tokens ≡ put_single opening (put_all statements rest)
  pub opens : IfSome opening (IsSingle (codes "data"))
  pub are : AllByRecursion IsStatement statements
  pub judged : all_judged statements ≡ Ok tt
  pub faulty : IsFaulty rest span error_code

-- the tokens are wrong at this span, or a table has this error and the tokens before it begin valid
-- statements
abbrev pub IsErrorCodeAt : List Token → ErrorCode → Span → Type 0
IsErrorCodeAt tokens DataSyntax span = IsWrong tokens span
IsErrorCodeAt tokens error_code span = HasFault tokens error_code span × BeginsBefore tokens span

-- the error is that memory ran out, or one that the tokens have, reported with its span alone
abbrev pub IsRejection : List Token → Fault → Type 0
IsRejection tokens OutOfMemory = Unit {0}
IsRejection tokens (At f) = (f ≡ outcomes.bare Data f.error_code f.at) × IsErrorCodeAt tokens f.error_code f.at
