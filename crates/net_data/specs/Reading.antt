-- The statements that tokens are parsed as, or the first error.
use Rattle.std.specs.Prelude.{◌≡◌, slice_get, ◌-◌, ℕ, suc, zero, ◌+◌, ◌%◌, ◌==◌, Bool, ◌||◌, List, [], ◌∷◌, length, take, drop, if◌then◌else◌, codes, Option, Some, None, Result, Ok, Err, IsOk}
use Rattle.std.specs.List.{prefix_len}
use Rattle.std.specs.Option.{option_map}
use Rattle.net_base.specs.declared.diagnostic.Span.{Span}
use Rattle.net_lex.specs.declared.token.Token.{Token}
use Rattle.net_base.specs.declared.error_code.ErrorCode.{ErrorCode}
use Rattle.net_base.specs.declared.error_code.ErrorCode.TheVariants.{DataSyntax, RowWidth, TableWidth}
use Rattle.net_base.specs.declared.diagnostic.Fault.{Fault}
use Rattle.net_base.specs.declared.diagnostic.Language.TheVariants.{Data}
use Rattle.net_base.specs.Outcomes as outcomes
use Rattle.net_base.specs.declared.diagnostic.Fault.TheVariants.{OutOfMemory, At}
use Rattle.net_data.specs.declared.data_parser.ParseError.{ParseError}
use Rattle.net_data.specs.declared.data_parser.StatementStop.{StatementStop}
use Rattle.net_data.specs.declared.data_parser.StatementStop.TheVariants as statement_stops
use Rattle.net_data.specs.declared.statement.DefaultValue.{DefaultValue}
use Rattle.net_data.specs.declared.statement.Given.{Given}
use Rattle.net_data.specs.declared.statement.Transposed.{Transposed}
use Rattle.net_data.specs.declared.statement.NamedSet.{NamedSet}
use Rattle.net_data.specs.declared.statement.Statement.{Statement}
use Rattle.net_data.specs.declared.statement.Statement.TheVariants as kinds
use Rattle.net_data.specs.declared.statement.Single.{Single}
use Rattle.net_data.specs.declared.statement.Tables.{Tables}
use Rattle.net_data.specs.Tests.{is_name, is_member, is_cell, is_word, is_mark, is_comma}
use Rattle.net_data.specs.Commas.{in_set, bare, uncommaed}
use Rattle.net_data.specs.declared.members.Spot.{Spot}
use Rattle.net_data.specs.Spots.{outside, spot_after, rests}

infixl 10 ◌>>=◌
abbrev pub ◌>>=◌ : {A B : Type 0} → Result A ParseError → (A → Result B ParseError) → Result B ParseError
(Ok x) >>= f = f x
(Err e) >>= f = Err e

-- the parsed value and the remaining tokens, or the first error
abbrev pub Read : Type 0 → Type 0
Read A = Result (A × List Token) ParseError

abbrev pub stop : ErrorCode → Option Span → ParseError
stop error_code at = record { error_code = error_code; at = at }

-- the next token that is not a comma, and the tokens after it
abbrev pub front : List Token → Option (Token × List Token)
front [] = None
front (token ∷ tokens) = if is_comma token then front tokens else Some (token, tokens)

-- the result of a function is the value, in two parts, and the remaining tokens that the definition
-- gives, or its error
abbrev pub ReadsPair : {A B : Type 0} → Read (A × B) → Result (A × B × List Token) ParseError → Type 0
ReadsPair read (Ok x) = read ≡ Ok ((x.0, x.1), x.2)
ReadsPair read (Err e) = read ≡ Err e

-- the error that the definition gives, unless memory ran out
abbrev pub Stops : {A : Type 0} → Result A ParseError → StatementStop → Type 0
Stops read statement_stops.OutOfMemory = IsOk read
Stops read (statement_stops.Reading e) = read ≡ Err e

abbrev pub ReadsStated : {A : Type 0} → Read A → Result (A × List Token) StatementStop → Type 0
ReadsStated read (Ok x) = read ≡ Ok x
ReadsStated read (Err e) = Stops read e

abbrev pub ReadsOn : {A : Type 0} → Result (Option (A × List Token)) ParseError → List Token → Result (Option A) StatementStop → Type 0
ReadsOn read rest (Ok None) = read ≡ Ok None
ReadsOn read rest (Ok (Some x)) = read ≡ Ok (Some (x, rest))
ReadsOn read rest (Err e) = Stops read e

-- the value that was parsed is the result, and the tokens after it are left
abbrev pub GoesAfter : {A : Type 0} → Result (A × List Token) StatementStop → List Token → Result (Option A) StatementStop → Type 0
GoesAfter (Ok x) rest result = (result ≡ Ok (Some x.0)) × (rest ≡ x.1)
GoesAfter (Err e) rest result = result ≡ Err e

-- the position after the last token
abbrev pub end_at : Option Token → ℕ
end_at None = 0
end_at (Some token) = token.span.end

abbrev pub end_of : List Token → ℕ
end_of tokens = end_at (slice_get tokens (length tokens - 1))

-- the error reported for a stop, given the end of the text
abbrev pub span_or_end : ℕ → Option Span → Span
span_or_end end None = record { start = end; end = end }
span_or_end end (Some span) = span

abbrev pub fault_of : ℕ → ParseError → Fault
fault_of end stop = At (outcomes.bare Data stop.error_code (span_or_end end stop.at))

abbrev pub statement_fault : ℕ → StatementStop → Fault
statement_fault end statement_stops.OutOfMemory = OutOfMemory
statement_fault end (statement_stops.Reading stop) = fault_of end stop

-- the result of a function is what the definition gives, or its error, unless memory ran out
abbrev pub Fails : ℕ → {A : Type 0} → Result A ParseError → Fault → Type 0
Fails end read OutOfMemory = Unit {0}
Fails end read (At f) = (e : ParseError) × (read ≡ Err e) × (At f ≡ fault_of end e)

abbrev pub Answers : ℕ → {A : Type 0} → Result A ParseError → Result A Fault → Type 0
Answers end read (Ok x) = read ≡ Ok x
Answers end read (Err fault) = Fails end read fault

-- the number of tokens that are parsed
abbrev pub CountsItems : List Token → Read (List Token) → Result ℕ ParseError → Type 0
CountsItems tokens read (Ok n) = read ≡ Ok (take n tokens, drop n tokens)
CountsItems tokens read (Err e) = read ≡ Err e

-- the next token, if it satisfies a test
abbrev pub met_by : (Token → Bool) → Option (Token × List Token) → Option (Token × List Token)
met_by test None = None
met_by test (Some x) = if test x.0 then Some x else None

unfoldable pub met : (Token → Bool) → List Token → Option (Token × List Token)
met test tokens = met_by test (front tokens)

abbrev pub span_of : Option Token → Option Span
span_of None = None
span_of (Some token) = Some token.span

-- the error for the next token, which is not allowed
unfoldable pub rejected : List Token → ParseError
rejected tokens = stop DataSyntax (span_of (option_map (λ x. x.0) (front tokens)))

-- the next token, which must satisfy a test
abbrev pub wanted_by : List Token → Option (Token × List Token) → Read Token
wanted_by tokens None = Err (rejected tokens)
wanted_by tokens (Some x) = Ok x

unfoldable pub wanted : (Token → Bool) → List Token → Read Token
wanted test tokens = wanted_by tokens (met test tokens)

-- the length of the longest prefix of tokens that satisfy a test or are commas
abbrev pub run_len : (Token → Bool) → List Token → ℕ
run_len test tokens = prefix_len (λ token. test token || is_comma token) tokens

unfoldable pub run : (Token → Bool) → List Token → List Token × List Token
run test tokens = (uncommaed (take (run_len test tokens) tokens), drop (run_len test tokens) tokens)

-- the members and tuples at the beginning, starting in a given state
abbrev pub with_token : Token → Read (List Token) → Read (List Token)
with_token token (Ok x) = Ok (token ∷ x.0, x.1)
with_token token (Err e) = Err e

abbrev pub items_after : Token → List Token → Option Spot → Spot → Read (List Token) → Read (List Token)
items_after token tokens (Some next) spot more = with_token token more
items_after token tokens None spot more = if rests spot then Ok ([], token ∷ tokens) else Err (stop DataSyntax (Some token.span))

abbrev pub spot_or : Spot → Option Spot → Spot
spot_or spot (Some next) = next
spot_or spot None = spot

unfoldable pub items_from : Spot → List Token → Read (List Token)
items_from spot [] = if rests spot then Ok ([], []) else Err (stop DataSyntax None)
items_from spot (token ∷ tokens) = items_after token tokens (spot_after spot token) spot (items_from (spot_or spot (spot_after spot token)) tokens)

abbrev pub items_of : List Token × List Token → List Token × List Token
items_of x = (bare in_set x.0, x.1)

unfoldable pub items : List Token → Read (List Token)
items tokens = do
  x ← items_from outside tokens
  Ok (items_of x)

abbrev pub semicolon : Token → Bool
semicolon = is_mark (codes ";")

abbrev pub colon : Token → Bool
colon = is_mark (codes ":")

abbrev pub assign : Token → Bool
assign = is_mark (codes ":=")

-- after the keyword `set`
unfoldable pub set : Token → List Token → Read Statement
set keyword tokens = do
  name ← wanted is_name tokens
  assign ← wanted assign name.1
  items ← items assign.1
  end ← wanted semicolon items.1
  Ok (kinds.Set (record { keyword = keyword; name = name.0; assign = assign.0; items = items.0; end = end.0 }), end.1)

-- a heading up to its `:=`, with at least one column
abbrev pub headed : List Token → Token → List Token → Read (List Token × Token)
headed [] assign tokens = Err (stop TableWidth (Some assign.span))
headed (column ∷ columns) assign tokens = Ok ((column ∷ columns, assign), tokens)

unfoldable pub heading : (Token → Bool) → List Token → Read (List Token × Token)
heading test tokens = do
  assign ← wanted assign (run test tokens).1
  headed (run test tokens).0 assign.0 assign.1

-- cells up to the semicolon
unfoldable pub cells : List Token → Read (List Token × Token)
cells tokens = do
  end ← wanted semicolon (run is_cell tokens).1
  Ok (((run is_cell tokens).0, end.0), end.1)

-- the cells fill complete rows of a member and one value for each column
abbrev pub fills : List Token → List Token → Bool
fills columns cells = length cells % (length columns + 1) == 0

-- the span of the last token
abbrev pub last_span_or : Option Span → List Token → Option Span
last_span_or some_statement [] = some_statement
last_span_or some_statement (token ∷ tokens) = last_span_or (Some token.span) tokens

abbrev pub last_span : List Token → Option Span
last_span tokens = last_span_or None tokens

unfoldable pub check_rows : List Token → List Token → Result (Unit {0}) ParseError
check_rows columns cells = if fills columns cells then Ok tt else Err (stop RowWidth (last_span cells))

-- after the colon of a table
unfoldable pub table : Token → Token → Option DefaultValue → Option Transposed → Token → List Token → Read Statement
table keyword name default transposed colon tokens = do
  head ← heading is_member tokens
  cells ← cells head.1
  full ← check_rows head.0.0 cells.0.0
  Ok (kinds.Table (record { keyword = keyword; name = name; default = default; transposed = transposed; colon = colon; columns = head.0.0; assign = head.0.1; cells = cells.0.0; end = cells.0.1 }), cells.1)

-- after the `(` of `(tr)`
unfoldable pub turned : Token → Token → Option DefaultValue → Token → List Token → Read Statement
turned keyword name default opening tokens = do
  word ← wanted (is_word (codes "tr")) tokens
  closing ← wanted (is_mark (codes ")")) word.1
  colon ← wanted colon closing.1
  table keyword name default (Some (record { opening = opening; word = word.0; closing = closing.0 })) colon.0 colon.1

abbrev pub given_by : List Token → Option (Token × List Token) → Option Given × List Token
given_by tokens None = (None, tokens)
given_by tokens (Some assign) = (Some (record { assign = assign.0; cells = (run is_cell assign.1).0 }), (run is_cell assign.1).1)

unfoldable pub given : List Token → Option Given × List Token
given tokens = given_by tokens (met assign tokens)

-- a list from its parts
abbrev pub listed : Token → Token → Option DefaultValue → Option Given → Token → List Token → Read Statement
listed keyword name default given end tokens = Ok (kinds.List (record { keyword = keyword; name = name; default = default; given = given; end = end }), tokens)

-- a list of cells, if present
unfoldable pub list : Token → Token → Option DefaultValue → List Token → Read Statement
list keyword name default tokens = do
  end ← wanted semicolon (given tokens).1
  listed keyword name default (given tokens).0 end.0 end.1

abbrev pub body_by : Token → Token → Option DefaultValue → List Token → Option (Token × List Token) → Option (Token × List Token) → Read Statement
body_by keyword name default tokens (Some opening) colon = turned keyword name default opening.0 opening.1
body_by keyword name default tokens None (Some colon) = table keyword name default None colon.0 colon.1
body_by keyword name default tokens None None = list keyword name default tokens

-- after the name and the default of a parameter
unfoldable pub body : Token → Token → Option DefaultValue → List Token → Read Statement
body keyword name default tokens = body_by keyword name default tokens (met (is_mark (codes "(")) tokens) (met colon tokens)

abbrev pub default_by : List Token → Option (Token × List Token) → Read (Option DefaultValue)
default_by tokens None = Ok (None, tokens)
default_by tokens (Some word) = do
  value ← wanted is_member word.1
  Ok (Some (record { keyword = word.0; value = value.0 }), value.1)

unfoldable pub default : List Token → Read (Option DefaultValue)
default tokens = default_by tokens (met (is_word (codes "default")) tokens)

-- after the keyword `param`, if no colon follows
unfoldable pub named : Token → List Token → Read Statement
named keyword tokens = do
  name ← wanted is_name tokens
  default ← default name.1
  body keyword name.0 default.0 default.1

abbrev pub named_set_by : List Token → Option (Token × List Token) → Option (Token × List Token) → Option NamedSet × List Token
named_set_by tokens (Some name) (Some colon) = (Some (record { name = name.0; colon = colon.0 }), colon.1)
named_set_by tokens (Some name) None = (None, tokens)
named_set_by tokens None next = (None, tokens)

abbrev pub met_after : (Token → Bool) → Option (Token × List Token) → Option (Token × List Token)
met_after test None = None
met_after test (Some x) = met test x.1

-- a name and a colon, if they come next
unfoldable pub named_set : List Token → Option NamedSet × List Token
named_set tokens = named_set_by tokens (met is_name tokens) (met_after colon (met is_name tokens))

-- after the keyword `param` and a colon
unfoldable pub columns : Token → Token → List Token → Read Statement
columns keyword colon tokens = do
  head ← heading is_name (named_set tokens).1
  cells ← cells head.1
  Ok (kinds.Columns (record { keyword = keyword; colon = colon; set = (named_set tokens).0; names = head.0.0; assign = head.0.1; cells = cells.0.0; end = cells.0.1 }), cells.1)

abbrev pub param_by : Token → List Token → Option (Token × List Token) → Read Statement
param_by keyword tokens (Some colon) = columns keyword colon.0 colon.1
param_by keyword tokens None = named keyword tokens

-- after the keyword `param`
unfoldable pub param : Token → List Token → Read Statement
param keyword tokens = param_by keyword tokens (met colon tokens)

abbrev pub some_statement : Read Statement → Result (Option (Statement × List Token)) ParseError
some_statement (Ok x) = Ok (Some x)
some_statement (Err e) = Err e

abbrev pub statement_by : Option (Token × List Token) → Option (Token × List Token) → Result (Option (Statement × List Token)) ParseError
statement_by (Some keyword) param_word = some_statement (set keyword.0 keyword.1)
statement_by None (Some keyword) = some_statement (param keyword.0 keyword.1)
statement_by None None = Ok None

-- the next statement, if there is one
unfoldable pub statement : List Token → Result (Option (Statement × List Token)) ParseError
statement tokens = statement_by (met (is_word (codes "set")) tokens) (met (is_word (codes "param")) tokens)

abbrev pub with_statement : Statement → Read (List Statement) → Read (List Statement)
with_statement x (Ok y) = Ok (x ∷ y.0, y.1)
with_statement x (Err e) = Err e

abbrev pub statements_by : (List Token → Read (List Statement)) → List Token → Result (Option (Statement × List Token)) ParseError → Read (List Statement)
statements_by more tokens (Ok (Some x)) = with_statement x.0 (more x.1)
statements_by more tokens (Ok None) = Ok ([], tokens)
statements_by more tokens (Err e) = Err e

-- at most `turns` statements
unfoldable pub statements : ℕ → List Token → Read (List Statement)
statements zero tokens = Ok ([], tokens)
statements (suc turns) tokens = statements_by (statements turns) tokens (statement tokens)

abbrev pub single_by : List Token → Option (Token × List Token) → Read (Option Single)
single_by tokens None = Ok (None, tokens)
single_by tokens (Some word) = do
  end ← wanted semicolon word.1
  Ok (Some (record { word = word.0; end = end.0 }), end.1)

-- a keyword with its semicolon, if it comes next
unfoldable pub single : List ℕ → List Token → Read (Option Single)
single word tokens = single_by tokens (met (is_word word) tokens)

abbrev pub finished_by : Option (Token × List Token) → Result (Unit {0}) ParseError
finished_by None = Ok tt
finished_by (Some x) = Err (stop DataSyntax (Some x.0.span))

-- nothing but commas follows
unfoldable pub finished : List Token → Result (Unit {0}) ParseError
finished tokens = finished_by (front tokens)

-- the statements of a data file
unfoldable pub tables : List Token → Result Tables ParseError
tables tokens = do
  opening ← single (codes "data") tokens
  statements ← statements (suc (length opening.1)) opening.1
  ending ← single (codes "end") statements.1
  over ← finished ending.1
  Ok (record { opening = opening.0; statements = statements.0; ending = ending.0 })
