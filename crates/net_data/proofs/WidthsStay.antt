-- A table that does not fill its rows, or a heading without a column, is told whatever comes behind.
use Rattle.std.proofs.Common.{◌≡◌, ℕ, zero, suc, ◌≤◌, ◌<◌, Bool, true, false, cond, ◌&&◌, List, [], ◌∷◌, ◌++◌, length, Option, Some, None, IfSome, Result, Ok, Err, refl, ap, sym, ◌∙◌, codes, arith, append_assoc, inl, inr}
use Rattle.std.specs.List.{AllByRecursion}
use Rattle.net_base.specs.declared.diagnostic.Span.{Span}
use Rattle.net_lex.specs.declared.token.Token.{Token}
use Rattle.net_base.specs.declared.error_code.ErrorCode.{ErrorCode}
use Rattle.net_base.specs.declared.error_code.ErrorCode.TheVariants.{DataSyntax, RowWidth, TableWidth}
use Rattle.net_data.specs.declared.statement.DefaultValue.{DefaultValue}
use Rattle.net_data.specs.declared.statement.Given.{Given}
use Rattle.net_data.specs.declared.statement.NamedSet.{NamedSet}
use Rattle.net_data.specs.declared.statement.Transposed.{Transposed}
use Rattle.net_data.specs.declared.statement.TableStatement.{TableStatement}
use Rattle.net_data.specs.declared.statement.ColumnsStatement.{ColumnsStatement}
use Rattle.net_data.specs.declared.statement.Statement.{Statement}
use Rattle.net_data.specs.declared.statement.Statement.TheVariants as kinds
use Rattle.net_data.specs.declared.data_parser.ParseError.{ParseError}
use Rattle.net_data.specs.declared.statement.Single.{Single}
use Rattle.net_data.specs.Commas.{TokenPlace, before, elsewhere, place_after, skips, bare}
use Rattle.net_data.specs.Meaning.{IsTransposed, IsTableHeading, IsColumnsHeading, IsStatement, judged, all_judged, and_then}
use Rattle.net_data.specs.Printing.{put, put_default, put_given, put_transposed, put_set, put_table_heading, put_columns_heading, put_all, put_single}
use Rattle.net_data.specs.Reading.{stop, fills, last_span, check_rows, heading, table, turned, body, named, columns, param, statement, statements, with_statement, tables, met, colon, assign, ◌>>=◌}
use Rattle.net_data.specs.Rejections.{IsFaulty, short_row, no_column, no_name, HasFault}
use Rattle.net_data.specs.Tests.{is_name, is_member, is_comma, is_word, is_mark}
use Rattle.net_data.proofs.Apart.{mark-mark, mark-member, mark-name, name-mark, word-word}
use Rattle.net_data.proofs.Bare.{misses}
use Rattle.net_data.proofs.Blames.{tables_err}
use Rattle.net_data.proofs.ParamComplete.{heading-complete}
use Rattle.net_data.proofs.RunLemmas.{Keeps, keeps_member, keeps_name}
use Rattle.net_data.proofs.StatementComplete.{default-complete, table_begins, named_set-complete, statement-complete}
use Rattle.net_data.proofs.Steps.{to_else, in_name, in_word, in_mark, gives}
use Rattle.net_data.proofs.TablesMean.{single-complete, lacks_word, lacks_statement, bare-length, put_all-length}

-- ---- what is printed first stands first

-- the place behind tokens
abbrev across : TokenPlace → List Token → TokenPlace
across p [] = p
across p (t ∷ ts) = cond (skips p && is_comma t) (across p ts) (across (place_after p t) ts)

bare-append : (p : TokenPlace) (ts us : List Token) → bare p (ts ++ us) ≡ bare p ts ++ bare (across p ts) us
bare-append p [] us = refl
bare-append p (t ∷ ts) us = by (skips p && is_comma t) (bare-append p ts us) (bare-append (place_after p t) ts us)
  where
    by : (c : Bool) → bare p (ts ++ us) ≡ bare p ts ++ bare (across p ts) us → bare (place_after p t) (ts ++ us) ≡ bare (place_after p t) ts ++ bare (across (place_after p t) ts) us
        → cond c (bare p (ts ++ us)) (t ∷ bare (place_after p t) (ts ++ us)) ≡ cond c (bare p ts) (t ∷ bare (place_after p t) ts) ++ bare (cond c (across p ts) (across (place_after p t) ts)) us
    by true skipped kept = skipped
    by false skipped kept = ap (λ k. t ∷ k) kept

pub default-append : (d : Option DefaultValue) (ts us : List Token) → put_default d ts ++ us ≡ put_default d (ts ++ us)
default-append None ts us = refl
default-append (Some d) ts us = refl

given-append : (g : Option Given) (ts us : List Token) → put_given g ts ++ us ≡ put_given g (ts ++ us)
given-append None ts us = refl
given-append (Some g) ts us = ap (λ k. g.assign ∷ k) (append_assoc g.cells ts us)

pub transposed-append : (s : Option Transposed) (ts us : List Token) → put_transposed s ts ++ us ≡ put_transposed s (ts ++ us)
transposed-append None ts us = refl
transposed-append (Some s) ts us = refl

pub set-append : (s : Option NamedSet) (ts us : List Token) → put_set s ts ++ us ≡ put_set s (ts ++ us)
set-append None ts us = refl
set-append (Some s) ts us = refl

pub heading-append : (t : TableStatement) (ts us : List Token) → put_table_heading t ts ++ us ≡ put_table_heading t (ts ++ us)
heading-append t ts us =
    ap (λ k. t.keyword ∷ t.name ∷ k) (default-append t.default (put_transposed t.transposed (t.colon ∷ (t.columns ++ t.assign ∷ ts))) us)
    ∙ ap (λ k. t.keyword ∷ t.name ∷ put_default t.default k) (transposed-append t.transposed (t.colon ∷ (t.columns ++ t.assign ∷ ts)) us)
    ∙ ap (λ k. t.keyword ∷ t.name ∷ put_default t.default (put_transposed t.transposed (t.colon ∷ k))) (append_assoc t.columns (t.assign ∷ ts) us)

columns-append : (c : ColumnsStatement) (ts us : List Token) → put_columns_heading c ts ++ us ≡ put_columns_heading c (ts ++ us)
columns-append c ts us =
    ap (λ k. c.keyword ∷ c.colon ∷ k) (set-append c.set (c.names ++ c.assign ∷ ts) us)
    ∙ ap (λ k. c.keyword ∷ c.colon ∷ put_set c.set k) (append_assoc c.names (c.assign ∷ ts) us)

put-append : (s : Statement) (ts us : List Token) → put s ts ++ us ≡ put s (ts ++ us)
put-append (kinds.Set s) ts us = ap (λ k. s.keyword ∷ s.name ∷ s.assign ∷ k) (append_assoc s.items (s.end ∷ ts) us)
put-append (kinds.List l) ts us =
    ap (λ k. l.keyword ∷ l.name ∷ k) (default-append l.default (put_given l.given (l.end ∷ ts)) us) ∙ ap (λ k. l.keyword ∷ l.name ∷ put_default l.default k) (given-append l.given (l.end ∷ ts) us)
put-append (kinds.Table t) ts us = heading-append t (t.cells ++ t.end ∷ ts) us ∙ ap (put_table_heading t) (append_assoc t.cells (t.end ∷ ts) us)
put-append (kinds.Columns c) ts us = columns-append c (c.cells ++ c.end ∷ ts) us ∙ ap (put_columns_heading c) (append_assoc c.cells (c.end ∷ ts) us)

pub all-append : (xs : List Statement) (ts us : List Token) → put_all xs ts ++ us ≡ put_all xs (ts ++ us)
all-append [] ts us = refl
all-append (x ∷ xs) ts us = put-append x (put_all xs ts) us ∙ ap (put x) (all-append xs ts us)

pub single-append : (o : Option Single) (ts us : List Token) → put_single o ts ++ us ≡ put_single o (ts ++ us)
single-append None ts us = refl
single-append (Some o) ts us = refl

-- ---- a heading without a column

-- a fault of widths
abbrev Faulted : {A : Type 0} → Result A ParseError → Type 0
Faulted read = (e : ParseError) × (read ≡ Err e) × (e.error_code ≡ DataSyntax → ⊥)

no_heading : (test : Token → Bool) (tokens more : List Token) (mark : Token) → Keeps test → assign mark ≡ true → test mark ≡ false → bare elsewhere tokens ≡ mark ∷ more → heading test tokens ≡ Err (stop TableWidth (Some mark.span))
no_heading test tokens more mark keeps gave fails h = (heading-complete test tokens [] mark more keeps refl gave fails h).read

table_fault : (t : TableStatement) (s : Option Transposed) (tokens more : List Token) → IsTableHeading t → bare elsewhere tokens ≡ t.assign ∷ more
    → table t.keyword t.name t.default s t.colon tokens ≡ Err (stop TableWidth (Some t.assign.span))
unfolding table
table_fault t s tokens more are h = rw (no_heading is_member tokens more t.assign keeps_member are.assign (mark-member (codes ":=") t.assign are.assign) h) refl

body_fault : (t : TableStatement) (o : Option Transposed) (tokens more : List Token) → IsTableHeading t → IfSome o IsTransposed
    → bare elsewhere tokens ≡ put_transposed o (t.colon ∷ t.assign ∷ more) → body t.keyword t.name t.default tokens ≡ Err (stop TableWidth (Some t.assign.span))
unfolding body turned
body_fault t None tokens more are turns h =
    let none = misses elsewhere (is_mark (codes "(")) tokens _ t.colon refl h (mark-mark (codes ":") (codes "(") t.colon refl are.colon) in
    let a = gives elsewhere elsewhere colon tokens _ t.colon (in_mark (codes ":") refl) h are.colon in
    rw (none, a.met) (table_fault t None a.rest more are a.left)
body_fault t (Some s) tokens more are turns h =
    let a = gives elsewhere elsewhere (is_mark (codes "(")) tokens _ s.opening (in_mark (codes "(") refl) h turns.opening in
    let b = gives elsewhere elsewhere (is_word (codes "tr")) a.rest _ s.word (in_word (codes "tr")) a.left turns.word in
    let c = gives elsewhere elsewhere (is_mark (codes ")")) b.rest _ s.closing (in_mark (codes ")") refl) b.left turns.closing in
    let d = gives elsewhere elsewhere colon c.rest _ t.colon (in_mark (codes ":") refl) c.left are.colon in
    rw (a.met, b.read, c.read, d.read) (table_fault t (Some (record { opening = s.opening; word = s.word; closing = s.closing })) d.rest more are d.left)

named_fault : (t : TableStatement) (tokens more : List Token) → IsTableHeading t → bare elsewhere tokens ≡ t.name ∷ put_default t.default (put_transposed t.transposed (t.colon ∷ t.assign ∷ more))
    → named t.keyword tokens ≡ Err (stop TableWidth (Some t.assign.span))
unfolding named
named_fault t tokens more are h =
    let a = gives elsewhere elsewhere is_name tokens _ t.name in_name h are.name in
    let d = default-complete a.rest t.default _ are.default (table_begins t.transposed t.colon _ are.transposed are.colon) a.left in
    rw (a.read, d.read) (body_fault t t.transposed d.rest more are are.transposed d.left)

param_fault : (t : TableStatement) (tokens more : List Token) → IsTableHeading t → bare elsewhere tokens ≡ t.name ∷ put_default t.default (put_transposed t.transposed (t.colon ∷ t.assign ∷ more))
    → param t.keyword tokens ≡ Err (stop TableWidth (Some t.assign.span))
unfolding param
param_fault t tokens more are h =
    let none = misses elsewhere colon tokens _ t.name refl h (name-mark (codes ":") t.name are.name) in
    rw none (named_fault t tokens more are h)

columns_fault : (c : ColumnsStatement) (tokens more : List Token) → IsColumnsHeading c → bare elsewhere tokens ≡ c.colon ∷ put_set c.set (c.assign ∷ more)
    → param c.keyword tokens ≡ Err (stop TableWidth (Some c.assign.span))
unfolding param columns
columns_fault c tokens more are h =
    let a = gives elsewhere elsewhere colon tokens _ c.colon (in_mark (codes ":") refl) h are.colon in
    let s = named_set-complete a.rest c.set [] c.assign more are.set refl are.assign a.left in
    rw (a.met, s.read, no_heading is_name s.rest more c.assign keeps_name are.assign (mark-name (codes ":=") c.assign are.assign) s.left) refl

param_first : (keyword : Token) (tokens more : List Token) (e : ParseError) → is_word (codes "param") keyword ≡ true → bare before tokens ≡ keyword ∷ more
    → ((rest : List Token) → bare elsewhere rest ≡ more → param keyword rest ≡ Err e) → statement tokens ≡ Err e
unfolding statement
param_first keyword tokens more e key h fails =
    let none = misses before (is_word (codes "set")) tokens more keyword refl h (word-word (codes "param") (codes "set") keyword refl key) in
    let a = gives before elsewhere (is_word (codes "param")) tokens more keyword (to_else (codes "param") refl) h key in
    rw (none, a.met, fails a.rest a.left) refl

filled_fault : (heads all : List Token) → fills heads all ≡ false → (e : ParseError) × (check_rows heads all ≡ Err e) × (e.error_code ≡ RowWidth)
unfolding check_rows
filled_fault heads all h = (stop RowWidth (last_span all), rw h refl, refl)

-- tokens that begin with the fault
faulty_first : (tokens rest more : List Token) (span : Span) (error_code : ErrorCode) → IsFaulty rest span error_code → bare before tokens ≡ rest ++ more → Faulted (statement tokens)
faulty_first tokens rest more span error_code (short_row t behind is are head short last) h =
    let s = statement-complete (kinds.Table t) tokens (behind ++ more) are (h ∙ ap (λ k. k ++ more) is ∙ put-append (kinds.Table t) behind more) in
    let f = filled_fault t.columns t.cells short in
    let j : judged (kinds.Table t) ≡ Err f.0 = rw head f.1 in
    (f.0, s.read ∙ ap (λ k. k >>= (λ full. Ok (Some (kinds.Table t, s.rest)))) j, λ k. let d = f.2 in cc)
faulty_first tokens rest more span error_code (no_column t behind is are none place) h =
    let text : bare before tokens ≡ t.keyword ∷ t.name ∷ put_default t.default (put_transposed t.transposed (t.colon ∷ (t.columns ++ t.assign ∷ (behind ++ more)))) =
    h ∙ ap (λ k. k ++ more) is ∙ heading-append t behind more in
    let bald = text ∙ ap (λ k. t.keyword ∷ t.name ∷ put_default t.default (put_transposed t.transposed (t.colon ∷ (k ++ t.assign ∷ (behind ++ more))))) none in
    (stop TableWidth (Some t.assign.span), param_first t.keyword tokens _ (stop TableWidth (Some t.assign.span)) are.keyword bald (λ rest k. param_fault t rest (behind ++ more) are k), λ k. cc)
faulty_first tokens rest more span error_code (no_name c behind is are none place) h =
    let text : bare before tokens ≡ c.keyword ∷ c.colon ∷ put_set c.set (c.names ++ c.assign ∷ (behind ++ more)) = h ∙ ap (λ k. k ++ more) is ∙ columns-append c behind more in
    let bald = text ∙ ap (λ k. c.keyword ∷ c.colon ∷ put_set c.set (k ++ c.assign ∷ (behind ++ more))) none in
    (stop TableWidth (Some c.assign.span), param_first c.keyword tokens _ (stop TableWidth (Some c.assign.span)) are.keyword bald (λ rest k. columns_fault c rest (behind ++ more) are k), λ k. cc)

-- behind statements without a fault
and_ok : (j k : Result (Unit {0}) ParseError) → and_then j k ≡ Ok tt → (j ≡ Ok tt) × (k ≡ Ok tt)
and_ok (Ok x) k h = (refl, h)
and_ok (Err e) k h = absurd (cc)

statements_fault : (n : ℕ) (xs : List Statement) (tokens rest more : List Token) (span : Span) (error_code : ErrorCode) → length xs < n → AllByRecursion IsStatement xs → all_judged xs ≡ Ok tt → IsFaulty rest span error_code
    → bare before tokens ≡ put_all xs (rest ++ more) → Faulted (statements n tokens)
unfolding statements
statements_fault zero xs tokens rest more span error_code lt are full fault h = absurd (omega (arith, lt))
statements_fault (suc n) [] tokens rest more span error_code lt are full fault h =
    let f = faulty_first tokens rest more span error_code fault h in (f.0, rw (f.1) refl, f.2)
statements_fault (suc n) (x ∷ xs) tokens rest more span error_code lt are full fault h =
    let both = and_ok (judged x) (all_judged xs) full in
    let one = statement-complete x tokens _ are.0 h in
    let read : statement tokens ≡ Ok (Some (x, one.rest)) = one.read ∙ ap (λ k. k >>= (λ full. Ok (Some (x, one.rest)))) both.0 in
    let f = statements_fault n xs one.rest rest more span error_code (omega (arith, lt)) are.1 both.1 fault one.left in
    (f.0, rw read (ap (with_statement x) f.1), f.2)

lacks_fault : (tokens rest more : List Token) (span : Span) (error_code : ErrorCode) → IsFaulty rest span error_code → bare before tokens ≡ rest ++ more → met (is_word (codes "data")) tokens ≡ None
lacks_fault tokens rest more span error_code (short_row t behind is are head short last) h =
    lacks_word (codes "param") (codes "data") t.keyword tokens _ refl are.heading.keyword (h ∙ ap (λ k. k ++ more) is)
lacks_fault tokens rest more span error_code (no_column t behind is are none place) h = lacks_word (codes "param") (codes "data") t.keyword tokens _ refl are.keyword (h ∙ ap (λ k. k ++ more) is)
lacks_fault tokens rest more span error_code (no_name c behind is are none place) h = lacks_word (codes "param") (codes "data") c.keyword tokens _ refl are.keyword (h ∙ ap (λ k. k ++ more) is)

lacks_data : (xs : List Statement) (tokens rest more : List Token) (span : Span) (error_code : ErrorCode) → AllByRecursion IsStatement xs → IsFaulty rest span error_code → bare before tokens ≡ put_all xs (rest ++ more)
    → met (is_word (codes "data")) tokens ≡ None
lacks_data [] tokens rest more span error_code are fault h = lacks_fault tokens rest more span error_code fault h
lacks_data (x ∷ xs) tokens rest more span error_code are fault h = lacks_statement x tokens _ are.0 h

tables_fault : (tokens others : List Token) (span : Span) (error_code : ErrorCode) → HasFault tokens error_code span → Faulted (tables (tokens ++ others))
unfolding tables
tables_fault tokens others span error_code f =
    let more = bare (across before tokens) others in
    let text : bare before (tokens ++ others) ≡ put_single f.opening (put_all f.statements (f.rest ++ more)) =
    bare-append before tokens others ∙ ap (λ k. k ++ more) f.printed ∙ single-append f.opening (put_all f.statements f.rest) more ∙ ap (put_single f.opening) (all-append f.statements f.rest more) in
    let a = single-complete (codes "data") (tokens ++ others) f.opening (put_all f.statements (f.rest ++ more)) refl f.opens
    (λ h. lacks_data f.statements (tokens ++ others) f.rest more span error_code f.are f.faulty h) text in
    let long : length f.statements ≤ length a.rest = omega (arith, bare-length before a.rest, put_all-length f.statements (f.rest ++ more), ap length a.left) in
    let b = statements_fault (suc (length a.rest)) f.statements a.rest f.rest more span error_code (omega arith) f.are f.judged f.faulty a.left in
    (b.0, rw (a.read, b.1) refl, b.2)

-- where a table is at fault, no tokens behind it make the fault one of the grammar
pub widths_stay : (tokens others : List Token) (d e : ParseError) → tables tokens ≡ Err d → (d.error_code ≡ DataSyntax → ⊥) → tables (tokens ++ others) ≡ Err e → e.error_code ≡ DataSyntax → ⊥
widths_stay tokens others d e h width copied s =
    elim (tables_err tokens d h) [
      | inl k ↦ width k
      | inr b ↦
          let f = tables_fault tokens others b.0 d.error_code b.2 in
          let same : f.0 ≡ e = let k = sym f.1 ∙ copied in cc in
          f.2 (ap (λ (z : ParseError). z.error_code) same ∙ s)
    ]
