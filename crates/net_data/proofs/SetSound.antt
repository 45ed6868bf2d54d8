-- What is read as a statement that gives a set is its printing, and the other way round.
use Rattle.std.proofs.Common.{◌≡◌, true, List, ◌∷◌, ◌++◌, Result, Ok, refl, subst, codes}
use Rattle.net_lex.specs.declared.token.Token.{Token}
use Rattle.net_data.specs.declared.data_parser.ParseError.{ParseError}
use Rattle.net_data.specs.declared.statement.SetStatement.{SetStatement}
use Rattle.net_data.specs.declared.statement.Statement.{Statement}
use Rattle.net_data.specs.declared.statement.Statement.TheVariants as kinds
use Rattle.net_data.specs.Tests.{is_name, is_word}
use Rattle.net_data.specs.Commas.{before, in_set, bare}
use Rattle.net_data.specs.Printing.{put}
use Rattle.net_data.specs.Meaning.{IsSet, IsStatement, judged}
use Rattle.net_data.specs.Reading.{set, semicolon, assign, ◌>>=◌}
use Rattle.net_data.proofs.SetRuns.{took_items, takes_items}
use Rattle.net_data.proofs.Steps.{in_set_name, in_set_mark, in_set_end, got, gives, bind_ok, ok_is}

-- the tokens are the printing of a statement and of what follows it
pub record Stated (all : List Token) (x : Statement × List Token) : Type 0 where
  pub printed : all ≡ put x.0 (bare before x.1)
  pub are : IsStatement x.0
  pub judged : judged x.0 ≡ Ok tt

pub set-sound : (keyword : Token) (tokens : List Token) (x : Statement × List Token) → is_word (codes "set") keyword ≡ true → set keyword tokens ≡ Ok x → Stated (keyword ∷ bare in_set tokens) x
unfolding set
set-sound keyword tokens x key h =
    let a = bind_ok _ _ _ h in
    let name = got in_set in_set is_name tokens a.value in_set_name a.first in
    let b = bind_ok _ _ _ a.then in
    let gives = got in_set in_set assign a.value.1 b.value (in_set_mark (codes ":=") refl refl) b.first in
    let c = bind_ok _ _ _ b.then in
    let items = took_items b.value.1 c.value c.first in
    let d = bind_ok _ _ _ c.then in
    let end = got in_set before semicolon c.value.1 d.value in_set_end d.first in
    let P : Statement × List Token → Type 0 = λ z. Stated (keyword ∷ bare in_set tokens) z in
    subst P (ok_is _ x d.then) (record {
      printed = rw (name.printed, gives.printed, items.printed, end.printed) refl;
      are = record { keyword = key; name = name.passes; assign = gives.passes; items = items.are; end = end.passes };
      judged = refl;
    })

-- a statement that is printed behind its keyword is read
pub record Restated (found : Result (Statement × List Token) ParseError) (statement : Statement) (more : List Token) : Type 0 where
  pub rest : List Token
  pub read : found ≡ (judged statement >>= (λ full. Ok (statement, rest)))
  pub left : bare before rest ≡ more

pub set-complete : (s : SetStatement) (tokens more : List Token) → IsSet s → bare in_set tokens ≡ s.name ∷ s.assign ∷ (s.items ++ s.end ∷ more) → Restated (set s.keyword tokens) (kinds.Set s) more
unfolding set
set-complete s tokens more are h =
    let a = gives in_set in_set is_name tokens _ s.name in_set_name h are.name in
    let b = gives in_set in_set assign a.rest _ s.assign (in_set_mark (codes ":=") refl refl) a.left are.assign in
    let c = takes_items b.rest s.items more s.end are.items are.end b.left in
    let d = gives in_set before semicolon c.rest more s.end in_set_end c.left are.end in
    record { rest = d.rest; read = rw (a.read, b.read, c.read, d.read) refl; left = d.left }
