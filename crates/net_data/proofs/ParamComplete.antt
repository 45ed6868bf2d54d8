-- What is printed as a statement is read as that statement.
use Rattle.std.proofs.Common.{◌≡◌, Bool, true, false, List, [], ◌∷◌, ◌++◌, Option, Some, None, IfSome, Ok, refl, ap, sym, ◌∙◌, codes}
use Rattle.std.specs.List.{list_all}
use Rattle.net_lex.specs.declared.token.Token.{Token}
use Rattle.net_data.specs.declared.statement.Given.{Given}
use Rattle.net_data.specs.declared.statement.Transposed.{Transposed}
use Rattle.net_data.specs.declared.statement.ListStatement.{ListStatement}
use Rattle.net_data.specs.declared.statement.TableStatement.{TableStatement}
use Rattle.net_data.specs.declared.statement.Statement.TheVariants as kinds
use Rattle.net_data.specs.Tests.{is_member, is_cell, is_word, is_mark}
use Rattle.net_data.specs.Commas.{before, elsewhere, bare}
use Rattle.net_data.specs.Printing.{put_given}
use Rattle.net_data.specs.Meaning.{IsGiven, IsTransposed, IsList, IsTable, heading_judged, judged}
use Rattle.net_data.specs.Reading.{heading, headed, cells, table, turned, given, list, body, columns, semicolon, colon, assign, ◌>>=◌}
use Rattle.net_data.proofs.Apart.{mark-cell, mark-member, mark-mark}
use Rattle.net_data.proofs.Bare.{misses}
use Rattle.net_data.proofs.RunLemmas.{Keeps, keeps_cell, keeps_member, runs}
use Rattle.net_data.proofs.Steps.{in_word, in_mark, in_end, gives}
use Rattle.net_data.proofs.SetSound.{Restated}

headed_is : (columns : List Token) (mark : Token) (tokens : List Token) → headed columns mark tokens ≡ (heading_judged columns mark >>= (λ full. Ok ((columns, mark), tokens)))
headed_is [] mark tokens = refl
headed_is (c ∷ columns) mark tokens = refl

pub record HeadingRead (test : Token → Bool) (tokens columns : List Token) (mark : Token) (more : List Token) : Type 0 where
  pub rest : List Token
  pub read : heading test tokens ≡ (heading_judged columns mark >>= (λ full. Ok ((columns, mark), rest)))
  pub left : bare elsewhere rest ≡ more

pub heading-complete : (test : Token → Bool) (tokens columns : List Token) (mark : Token) (more : List Token) → Keeps test → list_all test columns ≡ true → assign mark ≡ true → test mark ≡ false
    → bare elsewhere tokens ≡ columns ++ mark ∷ more → HeadingRead test tokens columns mark more
unfolding heading
heading-complete test tokens columns mark more keeps pass marked fails h =
    let r = runs test tokens columns more mark keeps h pass fails in
    let a = gives elsewhere elsewhere assign r.rest more mark (in_mark (codes ":=") refl) r.left marked in
    record { rest = a.rest; read = rw (r.read, a.read) (headed_is columns mark a.rest); left = a.left }

pub record CellsRead (tokens xs : List Token) (end : Token) (more : List Token) : Type 0 where
  pub rest : List Token
  pub read : cells tokens ≡ Ok ((xs, end), rest)
  pub left : bare before rest ≡ more

pub cells-complete : (tokens xs : List Token) (end : Token) (more : List Token) → list_all is_cell xs ≡ true → semicolon end ≡ true → bare elsewhere tokens ≡ xs ++ end ∷ more → CellsRead tokens xs end more
unfolding cells
cells-complete tokens xs end more pass ends h =
    let r = runs is_cell tokens xs more end keeps_cell h pass (mark-cell (codes ";") end ends) in
    let a = gives elsewhere before semicolon r.rest more end in_end r.left ends in
    record { rest = a.rest; read = rw (r.read, a.read) refl; left = a.left }

table_at : (t : TableStatement) (columns tokens behind rest : List Token) → t.columns ≡ columns → heading is_member tokens ≡ (heading_judged columns t.assign >>= (λ full. Ok ((columns, t.assign), behind)))
    → cells behind ≡ Ok ((t.cells, t.end), rest) → table t.keyword t.name t.default t.transposed t.colon tokens ≡ (judged (kinds.Table t) >>= (λ full. Ok (kinds.Table t, rest)))
unfolding table
table_at t [] tokens behind rest is head body = rw (is, head) refl
table_at t (c ∷ columns) tokens behind rest is head body = rw (head, body, is) refl

pub table-complete : (t : TableStatement) (tokens more : List Token) → IsTable t → bare elsewhere tokens ≡ t.columns ++ t.assign ∷ (t.cells ++ t.end ∷ more)
    → Restated (table t.keyword t.name t.default t.transposed t.colon tokens) (kinds.Table t) more
table-complete t tokens more are h =
    let head = heading-complete is_member tokens t.columns t.assign _ keeps_member are.heading.columns are.heading.assign (mark-member (codes ":=") t.assign are.heading.assign) h in
    let body = cells-complete head.rest t.cells t.end more are.cells are.end head.left in
    record { rest = body.rest; read = table_at t t.columns tokens head.rest body.rest refl head.read body.read; left = body.left }

pub turned-complete : (t : TableStatement) (s : Transposed) (tokens more : List Token) → IsTable t → t.transposed ≡ Some s → IsTransposed s
    → bare elsewhere tokens ≡ s.word ∷ s.closing ∷ t.colon ∷ (t.columns ++ t.assign ∷ (t.cells ++ t.end ∷ more))
    → Restated (turned t.keyword t.name t.default s.opening tokens) (kinds.Table t) more
unfolding turned
turned-complete t s tokens more are is turns h =
    let a = gives elsewhere elsewhere (is_word (codes "tr")) tokens _ s.word (in_word (codes "tr")) h turns.word in
    let b = gives elsewhere elsewhere (is_mark (codes ")")) a.rest _ s.closing (in_mark (codes ")") refl) a.left turns.closing in
    let c = gives elsewhere elsewhere colon b.rest _ t.colon (in_mark (codes ":") refl) b.left are.heading.colon in
    let d = table-complete t c.rest more are c.left in
    record { rest = d.rest; read = rw (a.read, b.read, c.read) (ap (λ o. table t.keyword t.name t.default o t.colon c.rest) (sym is) ∙ d.read); left = d.left }

record GivenBack (tokens : List Token) (g : Option Given) (end : Token) (more : List Token) : Type 0 where
  rest : List Token
  read : given tokens ≡ (g, rest)
  left : bare elsewhere rest ≡ end ∷ more

given-complete : (tokens : List Token) (g : Option Given) (end : Token) (more : List Token) → IfSome g IsGiven → semicolon end ≡ true → bare elsewhere tokens ≡ put_given g (end ∷ more) → GivenBack tokens g end more
unfolding given
given-complete tokens None end more are ends h =
    let none = misses elsewhere assign tokens more end refl h (mark-mark (codes ";") (codes ":=") end refl ends) in
    record { rest = tokens; read = rw none refl; left = h }
given-complete tokens (Some g) end more are ends h =
    let a = gives elsewhere elsewhere assign tokens _ g.assign (in_mark (codes ":=") refl) h are.assign in
    let r = runs is_cell a.rest g.cells more end keeps_cell a.left are.cells (mark-cell (codes ";") end ends) in
    record { rest = r.rest; read = rw (a.met, r.read) refl; left = r.left }

pub list-complete : (l : ListStatement) (tokens more : List Token) → IsList l → bare elsewhere tokens ≡ put_given l.given (l.end ∷ more) → Restated (list l.keyword l.name l.default tokens) (kinds.List l) more
unfolding list
list-complete l tokens more are h =
    let g = given-complete tokens l.given l.end more are.given are.end h in
    let a = gives elsewhere before semicolon g.rest more l.end in_end g.left are.end in
    record { rest = a.rest; read = rw (g.read, a.read) refl; left = a.left }
