-- What is read as a data text is the statements that its tokens mean, and the other way round.
use Rattle.std.proofs.Common.{◌≡◌, ℕ, zero, suc, ◌≤◌, ◌<◌, Bool, true, false, cond, ◌&&◌, List, [], ◌∷◌, ◌++◌, length, Option, Some, None, IfSome, Result, Ok, Err, refl, ap, ◌∙◌, subst, codes, arith, length-append}
use Rattle.std.specs.List.{AllByRecursion}
use Rattle.std.specs.Str.{bytes_eq}
use Rattle.net_lex.specs.declared.token.Token.{Token}
use Rattle.net_data.specs.declared.data_parser.ParseError.{ParseError}
use Rattle.net_data.specs.declared.statement.DefaultValue.{DefaultValue}
use Rattle.net_data.specs.declared.statement.Given.{Given}
use Rattle.net_data.specs.declared.statement.Transposed.{Transposed}
use Rattle.net_data.specs.declared.statement.NamedSet.{NamedSet}
use Rattle.net_data.specs.declared.statement.Statement.{Statement}
use Rattle.net_data.specs.declared.statement.Statement.TheVariants as kinds
use Rattle.net_data.specs.declared.statement.Single.{Single}
use Rattle.net_data.specs.declared.statement.Tables.{Tables}
use Rattle.net_data.specs.Tests.{is_word, is_comma}
use Rattle.net_data.specs.Commas.{TokenPlace, before, elsewhere, place_after, skips, bare}
use Rattle.net_data.specs.Printing.{put, put_default, put_given, put_transposed, put_set, put_all, put_single}
use Rattle.net_data.specs.Meaning.{IsSingle, IsStatement, Mean, judged, all_judged, and_then}
use Rattle.net_data.specs.Reading.{statement, statements, with_statement, single, single_by, finished, finished_by, tables, met, front, semicolon, ◌>>=◌}
use Rattle.net_data.proofs.Apart.{word-word}
use Rattle.net_data.proofs.Bare.{front-none, nothing, met-none, misses}
use Rattle.net_data.proofs.Steps.{to_else, in_end, got, got_met, gives, bind_ok, ok_is}
use Rattle.net_data.proofs.ParamSound.{statements-sound}
use Rattle.net_data.proofs.StatementComplete.{statement-complete}

pub record SingleRead (word : List ℕ) (tokens : List Token) (x : Option Single × List Token) : Type 0 where
  pub printed : bare before tokens ≡ put_single x.0 (bare before x.1)
  pub are : IfSome x.0 (IsSingle word)

single_of : (word : List ℕ) (tokens : List Token) (next : Option (Token × List Token)) (x : Option Single × List Token) → bytes_eq (codes "set") word ≡ false → met (is_word word) tokens ≡ next → single_by tokens next ≡ Ok x → SingleRead word tokens x
single_of word tokens None x apart is h =
    let P : Option Single × List Token → Type 0 = λ z. SingleRead word tokens z in subst P (ok_is _ x h) (record { printed = refl; are = tt })
single_of word tokens (Some t) x apart is h =
    let key = got_met before elsewhere (is_word word) tokens t (to_else word apart) is in
    let a = bind_ok _ _ _ h in
    let end = got elsewhere before semicolon t.1 a.value in_end a.first in
    let P : Option Single × List Token → Type 0 = λ z. SingleRead word tokens z in
    subst P (ok_is _ x a.then) (record { printed = rw (key.printed, end.printed) refl; are = record { word = key.passes; end = end.passes } })

pub single-sound : (word : List ℕ) (tokens : List Token) (x : Option Single × List Token) → bytes_eq (codes "set") word ≡ false → single word tokens ≡ Ok x → SingleRead word tokens x
unfolding single
single-sound word tokens x apart h = single_of word tokens (met (is_word word) tokens) x apart refl h

finished_of : (tokens : List Token) (next : Option (Token × List Token)) (x : Unit {0}) → front tokens ≡ next → finished_by next ≡ Ok x → bare before tokens ≡ []
finished_of tokens None x is h = front-none before tokens refl is
finished_of tokens (Some t) x is h = absurd (cc)

finished-sound : (tokens : List Token) (x : Unit {0}) → finished tokens ≡ Ok x → bare before tokens ≡ []
unfolding finished
finished-sound tokens x h = finished_of tokens (front tokens) x refl h

pub record Accepted (tokens : List Token) (x : Tables) : Type 0 where
  pub mean : Mean tokens x
  pub judged : all_judged x.statements ≡ Ok tt

pub tables-sound : (tokens : List Token) (x : Tables) → tables tokens ≡ Ok x → Accepted tokens x
unfolding tables
tables-sound tokens x h =
    let a = bind_ok _ _ _ h in
    let opening = single-sound (codes "data") tokens a.value refl a.first in
    let b = bind_ok _ _ _ a.then in
    let body = statements-sound (suc (length a.value.1)) a.value.1 b.value b.first in
    let c = bind_ok _ _ _ b.then in
    let ending = single-sound (codes "end") b.value.1 c.value refl c.first in
    let d = bind_ok _ _ _ c.then in
    let over = finished-sound c.value.1 d.value d.first in
    let P : Tables → Type 0 = λ z. Accepted tokens z in
    subst P (ok_is _ x d.then) (record {
      mean = record { printed = rw (opening.printed, body.printed, ending.printed, over) refl; are = record { opening = opening.are; statements = body.are; ending = ending.are } };
      judged = body.judged;
    })

-- how long a printing is at least
bare-length_at : (place : TokenPlace) (token : Token) (tokens : List Token) (b : Bool) → ((p : TokenPlace) → length (bare p tokens) ≤ length tokens)
    → length (cond b (bare place tokens) (token ∷ bare (place_after place token) tokens)) ≤ length (token ∷ tokens)
bare-length_at place token tokens true h = let k = h place in omega arith
bare-length_at place token tokens false h = let k = h (place_after place token) in omega arith

pub bare-length : (place : TokenPlace) (tokens : List Token) → length (bare place tokens) ≤ length tokens
bare-length place [] = omega arith
bare-length place (token ∷ tokens) = bare-length_at place token tokens (skips place && is_comma token) (λ p. bare-length p tokens)

default-length : (d : Option DefaultValue) (rest : List Token) → length rest ≤ length (put_default d rest)
default-length None rest = omega arith
default-length (Some d) rest = omega arith

given-length : (g : Option Given) (rest : List Token) → length rest ≤ length (put_given g rest)
given-length None rest = omega arith
given-length (Some g) rest = omega (arith, length-append g.cells rest)

transposed-length : (o : Option Transposed) (rest : List Token) → length rest ≤ length (put_transposed o rest)
transposed-length None rest = omega arith
transposed-length (Some o) rest = omega arith

set-length : (s : Option NamedSet) (rest : List Token) → length rest ≤ length (put_set s rest)
set-length None rest = omega arith
set-length (Some s) rest = omega arith

put-length : (s : Statement) (rest : List Token) → length rest < length (put s rest)
put-length (kinds.Set s) rest = omega (arith, length-append s.items (s.end ∷ rest))
put-length (kinds.List l) rest = omega (arith, default-length l.default (put_given l.given (l.end ∷ rest)), given-length l.given (l.end ∷ rest))
put-length (kinds.Table t) rest =
    let body = t.cells ++ t.end ∷ rest in
    let columns = t.columns ++ t.assign ∷ body in
    omega (arith, default-length t.default (put_transposed t.transposed (t.colon ∷ columns)), transposed-length t.transposed (t.colon ∷ columns), length-append t.columns (t.assign ∷ body), length-append t.cells (t.end ∷ rest))
put-length (kinds.Columns c) rest =
    let body = c.cells ++ c.end ∷ rest in
    let names = c.names ++ c.assign ∷ body in
    omega (arith, set-length c.set names, length-append c.names (c.assign ∷ body), length-append c.cells (c.end ∷ rest))

pub put_all-length : (xs : List Statement) (rest : List Token) → length xs ≤ length (put_all xs rest)
put_all-length [] rest = omega arith
put_all-length (x ∷ xs) rest = omega (arith, put-length x (put_all xs rest), put_all-length xs rest)

-- no word of these comes first
lacks_nothing : (word : List ℕ) (tokens : List Token) → bare before tokens ≡ [] → met (is_word word) tokens ≡ None
lacks_nothing word tokens h = met-none (is_word word) tokens (nothing before tokens refl h)

pub lacks_word : (word other : List ℕ) (first : Token) (tokens more : List Token) → bytes_eq other word ≡ false → is_word word first ≡ true → bare before tokens ≡ first ∷ more → met (is_word other) tokens ≡ None
lacks_word word other first tokens more apart key h = misses before (is_word other) tokens more first refl h (word-word word other first apart key)

lacks_ending : (word : List ℕ) (ending : Option Single) (tokens : List Token) → IfSome ending (IsSingle (codes "end")) → bytes_eq word (codes "end") ≡ false → bare before tokens ≡ put_single ending [] → met (is_word word) tokens ≡ None
lacks_ending word None tokens are apart h = lacks_nothing word tokens h
lacks_ending word (Some single) tokens are apart h = lacks_word (codes "end") word single.word tokens _ apart are.word h

pub lacks_statement : (s : Statement) (tokens more : List Token) → IsStatement s → bare before tokens ≡ put s more → met (is_word (codes "data")) tokens ≡ None
lacks_statement (kinds.Set s) tokens more are h = lacks_word (codes "set") (codes "data") s.keyword tokens _ refl are.keyword h
lacks_statement (kinds.List l) tokens more are h = lacks_word (codes "param") (codes "data") l.keyword tokens _ refl are.keyword h
lacks_statement (kinds.Table t) tokens more are h = lacks_word (codes "param") (codes "data") t.keyword tokens _ refl are.heading.keyword h
lacks_statement (kinds.Columns c) tokens more are h = lacks_word (codes "param") (codes "data") c.keyword tokens _ refl are.heading.keyword h

lacks_data : (xs : List Statement) (ending : Option Single) (tokens : List Token) → AllByRecursion IsStatement xs → IfSome ending (IsSingle (codes "end")) → bare before tokens ≡ put_all xs (put_single ending [])
    → met (is_word (codes "data")) tokens ≡ None
lacks_data [] ending tokens are last h = lacks_ending (codes "data") ending tokens last refl h
lacks_data (x ∷ xs) ending tokens are last h = lacks_statement x tokens _ are.0 h

no_statement : (ending : Option Single) (tokens : List Token) → IfSome ending (IsSingle (codes "end")) → bare before tokens ≡ put_single ending [] → statement tokens ≡ Ok None
unfolding statement
no_statement ending tokens are h =
    let a = lacks_ending (codes "set") ending tokens are refl h in let b = lacks_ending (codes "param") ending tokens are refl h in rw (a, b) refl

pub record SingleBack (word : List ℕ) (tokens : List Token) (o : Option Single) (more : List Token) : Type 0 where
  pub rest : List Token
  pub read : single word tokens ≡ Ok (o, rest)
  pub left : bare before rest ≡ more

pub single-complete : (word : List ℕ) (tokens : List Token) (o : Option Single) (more : List Token) → bytes_eq (codes "set") word ≡ false → IfSome o (IsSingle word) → (bare before tokens ≡ more → met (is_word word) tokens ≡ None)
    → bare before tokens ≡ put_single o more → SingleBack word tokens o more
unfolding single
single-complete word tokens None more apart are lacks h = let none = lacks h in record { rest = tokens; read = rw none refl; left = h }
single-complete word tokens (Some o) more apart are lacks h =
    let a = gives before elsewhere (is_word word) tokens _ o.word (to_else word apart) h are.word in
    let b = gives elsewhere before semicolon a.rest more o.end in_end a.left are.end in
    record { rest = b.rest; read = rw (a.met, b.read) refl; left = b.left }

with_judged : (x : Statement) (xs : List Statement) (rest : List Token) (j : Result (Unit {0}) ParseError) → with_statement x (j >>= (λ full. Ok (xs, rest))) ≡ (j >>= (λ full. Ok (x ∷ xs, rest)))
with_judged x xs rest (Ok u) = refl
with_judged x xs rest (Err e) = refl

turn_judged : (n : ℕ) (x : Statement) (xs : List Statement) (tokens behind rest : List Token) (j k : Result (Unit {0}) ParseError) → statement tokens ≡ (j >>= (λ full. Ok (Some (x, behind))))
    → statements n behind ≡ (k >>= (λ full. Ok (xs, rest))) → statements (suc n) tokens ≡ (and_then j k >>= (λ full. Ok (x ∷ xs, rest)))
unfolding statements
turn_judged n x xs tokens behind rest (Ok u) k one more = rw one (ap (with_statement x) more ∙ with_judged x xs rest k)
turn_judged n x xs tokens behind rest (Err e) k one more = rw one refl

record StatementsBack (n : ℕ) (tokens : List Token) (xs : List Statement) (more : List Token) : Type 0 where
  pub rest : List Token
  read : statements n tokens ≡ (all_judged xs >>= (λ full. Ok (xs, rest)))
  pub left : bare before rest ≡ more

statements-complete : (n : ℕ) (xs : List Statement) (ending : Option Single) (tokens : List Token) → length xs < n → AllByRecursion IsStatement xs → IfSome ending (IsSingle (codes "end"))
    → bare before tokens ≡ put_all xs (put_single ending []) → StatementsBack n tokens xs (put_single ending [])
unfolding statements
statements-complete zero xs ending tokens lt are last h = absurd (omega arith)
statements-complete (suc n) [] ending tokens lt are last h = let none = no_statement ending tokens last h in record { rest = tokens; read = rw none refl; left = h }
statements-complete (suc n) (x ∷ xs) ending tokens lt are last h =
    let one = statement-complete x tokens _ are.0 h in
    let more = statements-complete n xs ending one.rest (omega arith) are.1 last one.left in
    record { rest = more.rest; read = turn_judged n x xs tokens one.rest more.rest (judged x) (all_judged xs) one.read more.read; left = more.left }

finished-complete : (tokens : List Token) → bare before tokens ≡ [] → finished tokens ≡ Ok tt
unfolding finished
finished-complete tokens h = let none = nothing before tokens refl h in rw none refl

tables_at : (x : Tables) (tokens a b c : List Token) (j : Result (Unit {0}) ParseError) → single (codes "data") tokens ≡ Ok (x.opening, a) → statements (suc (length a)) a ≡ (j >>= (λ full. Ok (x.statements, b)))
    → single (codes "end") b ≡ Ok (x.ending, c) → finished c ≡ Ok tt → tables tokens ≡ (j >>= (λ full. Ok x))
unfolding tables
tables_at x tokens a b c (Ok u) opening body ending over = rw (opening, body, ending, over) refl
tables_at x tokens a b c (Err e) opening body ending over = rw (opening, body) refl

-- what the tokens mean is what is read, if its tables have their widths
pub tables-complete : (tokens : List Token) (x : Tables) → Mean tokens x → tables tokens ≡ (all_judged x.statements >>= (λ full. Ok x))
tables-complete tokens x mean =
    let a = single-complete (codes "data") tokens x.opening _ refl mean.are.opening (λ h. lacks_data x.statements x.ending tokens mean.are.statements mean.are.ending h) mean.printed in
    let long : length x.statements ≤ length a.rest = omega (arith, bare-length before a.rest, put_all-length x.statements (put_single x.ending []), ap length a.left) in
    let b = statements-complete (suc (length a.rest)) x.statements x.ending a.rest (omega arith) mean.are.statements mean.are.ending a.left in
    let c = single-complete (codes "end") b.rest x.ending [] refl mean.are.ending (lacks_nothing (codes "end") b.rest) b.left in
    tables_at x tokens a.rest b.rest c.rest (all_judged x.statements) a.read b.read c.read (finished-complete c.rest c.left)
