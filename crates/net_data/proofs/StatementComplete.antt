-- What is printed as a statement is read as that statement: the ways to go on.
use Rattle.std.proofs.Common.{◌≡◌, true, false, List, [], ◌∷◌, ◌++◌, Option, Some, None, IfSome, Result, Ok, Err, refl, ap, sym, ◌∙◌, subst, codes}
use Rattle.std.specs.List.{list_all}
use Rattle.std.proofs.lemmas.Bool.{and_parts}
use Rattle.net_lex.specs.declared.token.Token.{Token}
use Rattle.net_data.specs.declared.data_parser.ParseError.{ParseError}
use Rattle.net_data.specs.declared.statement.DefaultValue.{DefaultValue}
use Rattle.net_data.specs.declared.statement.Given.{Given}
use Rattle.net_data.specs.declared.statement.Transposed.{Transposed}
use Rattle.net_data.specs.declared.statement.NamedSet.{NamedSet}
use Rattle.net_data.specs.declared.statement.SetStatement.{SetStatement}
use Rattle.net_data.specs.declared.statement.ListStatement.{ListStatement}
use Rattle.net_data.specs.declared.statement.TableStatement.{TableStatement}
use Rattle.net_data.specs.declared.statement.ColumnsStatement.{ColumnsStatement}
use Rattle.net_data.specs.declared.statement.Statement.{Statement}
use Rattle.net_data.specs.declared.statement.Statement.TheVariants as kinds
use Rattle.net_data.specs.Tests.{is_name, is_member, is_word, is_mark}
use Rattle.net_data.specs.Commas.{before, in_set, elsewhere, bare}
use Rattle.net_data.specs.Printing.{put, put_default, put_given, put_transposed, put_set}
use Rattle.net_data.specs.Meaning.{IsDefault, IsGiven, IsTransposed, IsNamedSet, IsSet, IsList, IsTable, IsColumns, IsStatement, heading_judged, judged}
use Rattle.net_data.specs.Reading.{heading, cells, table, body, default, named, named_set, columns, param, statement, some_statement, met, semicolon, colon, assign, ◌>>=◌}
use Rattle.net_data.proofs.Apart.{mark-name, mark-mark, name-mark, mark-word, word-word}
use Rattle.net_data.proofs.Bare.{misses}
use Rattle.net_data.proofs.RunLemmas.{keeps_name}
use Rattle.net_data.proofs.Steps.{to_set, to_else, in_name, in_member, in_word, in_mark, gives}
use Rattle.net_data.proofs.SetSound.{Restated, set-complete}
use Rattle.net_data.proofs.ParamComplete.{heading-complete, cells-complete, table-complete, turned-complete, list-complete}

-- a token that is no word of the grammar comes first
abbrev pub Begins : List Token → Type 0
Begins tokens = (first : Token) × (rest : List Token) × (tokens ≡ first ∷ rest) × (is_word (codes "default") first ≡ false)

pub record DefaultBack (tokens : List Token) (d : Option DefaultValue) (more : List Token) : Type 0 where
  pub rest : List Token
  pub read : default tokens ≡ Ok (d, rest)
  pub left : bare elsewhere rest ≡ more

pub default-complete : (tokens : List Token) (d : Option DefaultValue) (more : List Token) → IfSome d IsDefault → Begins more → bare elsewhere tokens ≡ put_default d more → DefaultBack tokens d more
unfolding default
default-complete tokens None more are begins h =
    let none = misses elsewhere (is_word (codes "default")) tokens begins.1 begins.0 refl (h ∙ begins.2) begins.3 in
    record { rest = tokens; read = rw none refl; left = h }
default-complete tokens (Some d) more are begins h =
    let a = gives elsewhere elsewhere (is_word (codes "default")) tokens _ d.keyword (in_word (codes "default")) h are.keyword in
    let b = gives elsewhere elsewhere is_member a.rest more d.value in_member a.left are.value in
    record { rest = b.rest; read = rw (a.met, b.read) refl; left = b.left }

list_begins : (g : Option Given) (end : Token) (more : List Token) → IfSome g IsGiven → semicolon end ≡ true → Begins (put_given g (end ∷ more))
list_begins None end more are ends = (end, more, refl, mark-word (codes ";") (codes "default") end ends)
list_begins (Some g) end more are ends = (g.assign, g.cells ++ end ∷ more, refl, mark-word (codes ":=") (codes "default") g.assign are.assign)

pub table_begins : (o : Option Transposed) (mark : Token) (more : List Token) → IfSome o IsTransposed → colon mark ≡ true → Begins (put_transposed o (mark ∷ more))
table_begins None mark more are colons = (mark, more, refl, mark-word (codes ":") (codes "default") mark colons)
table_begins (Some s) mark more are colons = (s.opening, s.word ∷ s.closing ∷ mark ∷ more, refl, mark-word (codes "(") (codes "default") s.opening are.opening)

-- a list has neither a parenthesis nor a colon before its cells
list_body : (l : ListStatement) (g : Option Given) (tokens more : List Token) → IsList l → l.given ≡ g → bare elsewhere tokens ≡ put_given g (l.end ∷ more)
    → (met (is_mark (codes "(")) tokens ≡ None) × (met colon tokens ≡ None)
list_body l None tokens more are is h = (
  misses elsewhere (is_mark (codes "(")) tokens more l.end refl h (mark-mark (codes ";") (codes "(") l.end refl are.end),
  misses elsewhere colon tokens more l.end refl h (mark-mark (codes ";") (codes ":") l.end refl are.end),
)
list_body l (Some g) tokens more are is h =
    let P : Option Given → Type 0 = λ o. IfSome o IsGiven in
    let gave = subst P is are.given in (
      misses elsewhere (is_mark (codes "(")) tokens _ g.assign refl h (mark-mark (codes ":=") (codes "(") g.assign refl gave.assign),
      misses elsewhere colon tokens _ g.assign refl h (mark-mark (codes ":=") (codes ":") g.assign refl gave.assign),
    )

body_list : (l : ListStatement) (tokens more : List Token) → IsList l → bare elsewhere tokens ≡ put_given l.given (l.end ∷ more) → Restated (body l.keyword l.name l.default tokens) (kinds.List l) more
unfolding body
body_list l tokens more are h =
    let none = list_body l l.given tokens more are refl h in
    let r = list-complete l tokens more are h in
    record { rest = r.rest; read = rw (none.0, none.1) r.read; left = r.left }

body_table : (t : TableStatement) (o : Option Transposed) (tokens more : List Token) → IsTable t → t.transposed ≡ o
    → bare elsewhere tokens ≡ put_transposed o (t.colon ∷ (t.columns ++ t.assign ∷ (t.cells ++ t.end ∷ more))) → Restated (body t.keyword t.name t.default tokens) (kinds.Table t) more
unfolding body
body_table t None tokens more are is h =
    let none = misses elsewhere (is_mark (codes "(")) tokens _ t.colon refl h (mark-mark (codes ":") (codes "(") t.colon refl are.heading.colon) in
    let a = gives elsewhere elsewhere colon tokens _ t.colon (in_mark (codes ":") refl) h are.heading.colon in
    let r = table-complete t a.rest more are a.left in
    record { rest = r.rest; read = rw (none, a.met) (ap (λ o. table t.keyword t.name t.default o t.colon a.rest) (sym is) ∙ r.read); left = r.left }
body_table t (Some s) tokens more are is h =
    let P : Option Transposed → Type 0 = λ o. IfSome o IsTransposed in
    let turns = subst P is are.heading.transposed in
    let a = gives elsewhere elsewhere (is_mark (codes "(")) tokens _ s.opening (in_mark (codes "(") refl) h turns.opening in
    let r = turned-complete t s a.rest more are is turns a.left in
    record { rest = r.rest; read = rw (a.met) r.read; left = r.left }

named_list : (l : ListStatement) (tokens more : List Token) → IsList l → bare elsewhere tokens ≡ l.name ∷ put_default l.default (put_given l.given (l.end ∷ more)) → Restated (named l.keyword tokens) (kinds.List l) more
unfolding named
named_list l tokens more are h =
    let a = gives elsewhere elsewhere is_name tokens _ l.name in_name h are.name in
    let d = default-complete a.rest l.default _ are.default (list_begins l.given l.end more are.given are.end) a.left in
    let r = body_list l d.rest more are d.left in
    record { rest = r.rest; read = rw (a.read, d.read) r.read; left = r.left }

named_table : (t : TableStatement) (tokens more : List Token) → IsTable t
    → bare elsewhere tokens ≡ t.name ∷ put_default t.default (put_transposed t.transposed (t.colon ∷ (t.columns ++ t.assign ∷ (t.cells ++ t.end ∷ more)))) → Restated (named t.keyword tokens) (kinds.Table t) more
unfolding named
named_table t tokens more are h =
    let a = gives elsewhere elsewhere is_name tokens _ t.name in_name h are.heading.name in
    let d = default-complete a.rest t.default _ are.heading.default (table_begins t.transposed t.colon _ are.heading.transposed are.heading.colon) a.left in
    let r = body_table t t.transposed d.rest more are refl d.left in
    record { rest = r.rest; read = rw (a.read, d.read) r.read; left = r.left }

pub record SetBack (tokens : List Token) (s : Option NamedSet) (more : List Token) : Type 0 where
  pub rest : List Token
  pub read : named_set tokens ≡ (s, rest)
  pub left : bare elsewhere rest ≡ more

-- behind a name of a heading without a set no colon comes
behind_name : (names : List Token) (mark : Token) (tokens more : List Token) → list_all is_name names ≡ true → assign mark ≡ true → bare elsewhere tokens ≡ names ++ mark ∷ more → met colon tokens ≡ None
behind_name [] mark tokens more pass marked h = misses elsewhere colon tokens more mark refl h (mark-mark (codes ":=") (codes ":") mark refl marked)
behind_name (n ∷ names) mark tokens more pass marked h =
    misses elsewhere colon tokens _ n refl h (name-mark (codes ":") n (and_parts (is_name n) (list_all is_name names) pass).0)

pub named_set-complete : (tokens : List Token) (s : Option NamedSet) (names : List Token) (mark : Token) (more : List Token) → IfSome s IsNamedSet → list_all is_name names ≡ true → assign mark ≡ true
    → bare elsewhere tokens ≡ put_set s (names ++ mark ∷ more) → SetBack tokens s (names ++ mark ∷ more)
unfolding named_set
named_set-complete tokens None [] mark more are pass marked h =
    let none = misses elsewhere is_name tokens more mark refl h (mark-name (codes ":=") mark marked) in
    record { rest = tokens; read = rw none refl; left = h }
named_set-complete tokens None (n ∷ names) mark more are pass marked h =
    let parts = and_parts (is_name n) (list_all is_name names) pass in
    let a = gives elsewhere elsewhere is_name tokens _ n in_name h parts.0 in
    let none = behind_name names mark a.rest more parts.1 marked a.left in
    record { rest = tokens; read = rw (a.met, none) refl; left = h }
named_set-complete tokens (Some s) names mark more are pass marked h =
    let a = gives elsewhere elsewhere is_name tokens _ s.name in_name h are.name in
    let b = gives elsewhere elsewhere colon a.rest _ s.colon (in_mark (codes ":") refl) a.left are.colon in
    record { rest = b.rest; read = rw (a.met, b.met) refl; left = b.left }

columns_at : (c : ColumnsStatement) (names tokens inside behind rest : List Token) → c.names ≡ names → named_set tokens ≡ (c.set, inside) → heading is_name inside ≡ (heading_judged names c.assign >>= (λ full. Ok ((names, c.assign), behind)))
    → cells behind ≡ Ok ((c.cells, c.end), rest) → columns c.keyword c.colon tokens ≡ (judged (kinds.Columns c) >>= (λ full. Ok (kinds.Columns c, rest)))
unfolding columns
columns_at c [] tokens inside behind rest is set head body = rw (is, set, head) refl
columns_at c (n ∷ names) tokens inside behind rest is set head body = rw (set, head, body, is) refl

columns-complete : (c : ColumnsStatement) (tokens more : List Token) → IsColumns c → bare elsewhere tokens ≡ put_set c.set (c.names ++ c.assign ∷ (c.cells ++ c.end ∷ more))
    → Restated (columns c.keyword c.colon tokens) (kinds.Columns c) more
columns-complete c tokens more are h =
    let s = named_set-complete tokens c.set c.names c.assign _ are.heading.set are.heading.names are.heading.assign h in
    let head = heading-complete is_name s.rest c.names c.assign _ keeps_name are.heading.names are.heading.assign (mark-name (codes ":=") c.assign are.heading.assign) s.left in
    let body = cells-complete head.rest c.cells c.end more are.cells are.end head.left in
    record { rest = body.rest; read = columns_at c c.names tokens s.rest head.rest body.rest refl s.read head.read body.read; left = body.left }

param_columns : (c : ColumnsStatement) (tokens more : List Token) → IsColumns c → bare elsewhere tokens ≡ c.colon ∷ put_set c.set (c.names ++ c.assign ∷ (c.cells ++ c.end ∷ more))
    → Restated (param c.keyword tokens) (kinds.Columns c) more
unfolding param
param_columns c tokens more are h =
    let a = gives elsewhere elsewhere colon tokens _ c.colon (in_mark (codes ":") refl) h are.heading.colon in
    let r = columns-complete c a.rest more are a.left in
    record { rest = r.rest; read = rw (a.met) r.read; left = r.left }

param_list : (l : ListStatement) (tokens more : List Token) → IsList l → bare elsewhere tokens ≡ l.name ∷ put_default l.default (put_given l.given (l.end ∷ more)) → Restated (param l.keyword tokens) (kinds.List l) more
unfolding param
param_list l tokens more are h =
    let none = misses elsewhere colon tokens _ l.name refl h (name-mark (codes ":") l.name are.name) in
    let r = named_list l tokens more are h in
    record { rest = r.rest; read = rw none r.read; left = r.left }

param_table : (t : TableStatement) (tokens more : List Token) → IsTable t
    → bare elsewhere tokens ≡ t.name ∷ put_default t.default (put_transposed t.transposed (t.colon ∷ (t.columns ++ t.assign ∷ (t.cells ++ t.end ∷ more)))) → Restated (param t.keyword tokens) (kinds.Table t) more
unfolding param
param_table t tokens more are h =
    let none = misses elsewhere colon tokens _ t.name refl h (name-mark (codes ":") t.name are.heading.name) in
    let r = named_table t tokens more are h in
    record { rest = r.rest; read = rw none r.read; left = r.left }

-- the statement that is printed first is read first
pub record StatementBack (tokens : List Token) (s : Statement) (more : List Token) : Type 0 where
  pub rest : List Token
  pub read : statement tokens ≡ (judged s >>= (λ full. Ok (Some (s, rest))))
  pub left : bare before rest ≡ more

found_judged : (s : Statement) (rest : List Token) (j : Result (Unit {0}) ParseError) → some_statement (j >>= (λ full. Ok (s, rest))) ≡ (j >>= (λ full. Ok (Some (s, rest))))
found_judged s rest (Ok x) = refl
found_judged s rest (Err e) = refl

param_statement : (s : Statement) (keyword : Token) (tokens behind more : List Token) → is_word (codes "param") keyword ≡ true → bare before tokens ≡ keyword ∷ behind
    → ((rest : List Token) → bare elsewhere rest ≡ behind → Restated (param keyword rest) s more) → StatementBack tokens s more
unfolding statement
param_statement s keyword tokens behind more key h reads =
    let none = misses before (is_word (codes "set")) tokens behind keyword refl h (word-word (codes "param") (codes "set") keyword refl key) in
    let a = gives before elsewhere (is_word (codes "param")) tokens behind keyword (to_else (codes "param") refl) h key in
    let r = reads a.rest a.left in
    record { rest = r.rest; read = rw (none, a.met) (ap some_statement r.read ∙ found_judged s r.rest (judged s)); left = r.left }

set_statement : (s : SetStatement) (tokens more : List Token) → IsSet s → bare before tokens ≡ s.keyword ∷ s.name ∷ s.assign ∷ (s.items ++ s.end ∷ more) → StatementBack tokens (kinds.Set s) more
unfolding statement
set_statement s tokens more are h =
    let a = gives before in_set (is_word (codes "set")) tokens _ s.keyword to_set h are.keyword in
    let r = set-complete s a.rest more are a.left in
    record { rest = r.rest; read = rw (a.met) (ap some_statement r.read); left = r.left }

pub statement-complete : (s : Statement) (tokens more : List Token) → IsStatement s → bare before tokens ≡ put s more → StatementBack tokens s more
statement-complete (kinds.Set s) tokens more are h = set_statement s tokens more are h
statement-complete (kinds.List l) tokens more are h = param_statement (kinds.List l) l.keyword tokens _ more are.keyword h (λ rest k. param_list l rest more are k)
statement-complete (kinds.Table t) tokens more are h = param_statement (kinds.Table t) t.keyword tokens _ more are.heading.keyword h (λ rest k. param_table t rest more are k)
statement-complete (kinds.Columns c) tokens more are h = param_statement (kinds.Columns c) c.keyword tokens _ more are.heading.keyword h (λ rest k. param_columns c rest more are k)
