-- Where a data text stops at a token that is not allowed, or at its end, the tokens before the stop begin statements.
use Rattle.std.proofs.Common.{◌≡◌, ℕ, zero, suc, false, List, [], ◌∷◌, ◌++◌, length, Option, Some, None, IfSome, Result, Ok, Err, refl, ap, sym, ◌∙◌, subst, codes, append-nil}
use Rattle.std.specs.List.{AllByRecursion}
use Rattle.std.specs.Str.{bytes_eq}
use Rattle.net_base.specs.declared.diagnostic.Span.{Span}
use Rattle.net_lex.specs.declared.token.Token.{Token}
use Rattle.net_base.specs.declared.error_code.ErrorCode.TheVariants.{DataSyntax}
use Rattle.net_data.specs.declared.statement.Statement.{Statement}
use Rattle.net_data.specs.declared.data_parser.ParseError.{ParseError}
use Rattle.net_data.specs.declared.statement.Single.{Single}
use Rattle.net_data.specs.declared.statement.Tables.{Tables}
use Rattle.net_data.specs.Commas.{before, in_set, elsewhere, bare}
use Rattle.net_data.specs.GoingOn.{Begins}
use Rattle.net_data.specs.Meaning.{IsSingle, IsStatement, AreTables}
use Rattle.net_data.specs.Printing.{put_all, put_single}
use Rattle.net_data.specs.Reading.{Read, stop, front, met, wanted, semicolon, set, param, some_statement, statement, statement_by, with_statement, statements, statements_by, single, single_by, finished, finished_by, tables, ◌>>=◌}
use Rattle.net_data.specs.Tests.{is_word}
use Rattle.net_data.proofs.Lookahead.{err_is}
use Rattle.net_data.proofs.Steps.{to_set, to_else, in_end}
use Rattle.net_data.proofs.Mending.{Written, place_of, Mended, Mending, Reads, same, token, then_mends, then_reads, reported_reads, wanted_reads, next_reads, commas_mend}
use Rattle.net_data.proofs.MendingStatements.{statement_kind, stop_mark, set_reads}
use Rattle.net_data.proofs.MendingParams.{param_reads}

abbrev statements_kind : Written (List Statement)
statements_kind = record { put = put_all; fits = λ xs. AllByRecursion IsStatement xs }

abbrev after_one : (List Token → Read (List Statement)) → Statement × List Token → Read (List Statement)
after_one more x = more x.1 >>= (λ y. Ok (x.0 ∷ y.0, y.1))

with_is : (x : Statement) (read : Read (List Statement)) → with_statement x read ≡ (read >>= (λ y. Ok (x ∷ y.0, y.1)))
with_is x (Ok y) = refl
with_is x (Err e) = refl

found_is : (more : List Token → Read (List Statement)) (tokens : List Token) (read : Read Statement) → statements_by more tokens (some_statement read) ≡ (read >>= after_one more)
found_is more tokens (Ok x) = with_is x.0 (more x.1)
found_is more tokens (Err e) = refl

-- a statement, and those behind it
one_reads : (more : List Token → Read (List Statement)) (tokens : List Token) (read : Read Statement) → ((rest : List Token) → Reads statements_kind before before same rest (more rest))
    → Reads statement_kind before before same tokens read → Reads statements_kind before before same tokens (statements_by more tokens (some_statement read))
one_reads more tokens read others one =
    subst (Reads statements_kind before before same tokens) (sym (found_is more tokens read))
    (then_reads statement_kind statements_kind before before before same tokens read (after_one more) one
    (λ x is. record { thing = x ∷ []; fits = (is, tt); rest = []; text = λ r. refl })
    (λ x rest e is.
    then_reads statements_kind statements_kind before before before (λ r. put_all (x ∷ []) r) rest (more rest) _ (others rest)
    (λ xs are. record { thing = x ∷ xs; fits = (is, are); rest = []; text = λ r. refl })
    (λ xs last e are. reported_reads statements_kind before (λ r. put_all (x ∷ xs) r) (x ∷ xs) last (is, are) (λ r. refl))))

statements_reads : (n : ℕ) (tokens : List Token) → Reads statements_kind before before same tokens (statements n tokens)
unfolding statements statement
statements_reads zero tokens = reported_reads statements_kind before same [] tokens tt (λ r. refl)
statements_reads (suc n) tokens = go (met (is_word (codes "set")) tokens) refl (met (is_word (codes "param")) tokens) refl (statements_reads n)
  where
    go : (o : Option (Token × List Token)) → met (is_word (codes "set")) tokens ≡ o → (p : Option (Token × List Token)) → met (is_word (codes "param")) tokens ≡ p
        → ((rest : List Token) → Reads statements_kind before before same rest (statements n rest))
        → Reads statements_kind before before same tokens (statements_by (statements n) tokens (statement_by o p))
    go (Some x) i p j others =
        one_reads (statements n) tokens (set x.0 x.1) others
        (next_reads statement_kind before in_set before same (is_word (codes "set")) tokens x (set x.0 x.1) to_set i (λ key. set_reads x.0 x.1 key))
    go None i (Some x) j others =
        one_reads (statements n) tokens (param x.0 x.1) others
        (next_reads statement_kind before elsewhere before same (is_word (codes "param")) tokens x (param x.0 x.1) (to_else (codes "param") refl) j (λ key. param_reads x.0 x.1 key))
    go None i None j others = reported_reads statements_kind before same [] tokens tt (λ r. refl)

-- a word alone
abbrev single_kind : List ℕ → Written (Option Single)
single_kind word = record { put = put_single; fits = λ x. IfSome x (IsSingle word) }

single_reads : (word : List ℕ) (tokens : List Token) → bytes_eq (codes "set") word ≡ false → Reads (single_kind word) before before same tokens (single word tokens)
unfolding single
single_reads word tokens apart = go (met (is_word word) tokens) refl
  where
    go : (o : Option (Token × List Token)) → met (is_word word) tokens ≡ o → Reads (single_kind word) before before same tokens (single_by tokens o)
    go None i = reported_reads (single_kind word) before same None tokens tt (λ r. refl)
    go (Some x) i =
        next_reads (single_kind word) before elsewhere before same (is_word word) tokens x _ (to_else word apart) i
        (λ key. then_reads (token semicolon) (single_kind word) elsewhere before before (λ r. x.0 ∷ r) x.1 (wanted semicolon x.1) _ (wanted_reads elsewhere before semicolon stop_mark x.1 in_end refl refl)
        (λ y ends. record { thing = Some (record { word = x.0; end = y }); fits = record { word = key; end = ends }; rest = []; text = λ r. refl })
        (λ y last e ends. reported_reads (single_kind word) before (λ r. x.0 ∷ y ∷ r) (Some (record { word = x.0; end = y })) last (record { word = key; end = ends }) (λ r. refl)))

-- ---- a whole text

abbrev tables_kind : Written Tables
tables_kind = record { put = λ x r. put_single x.opening (put_all x.statements (put_single x.ending r)); fits = AreTables }

abbrev all_of : Option Single → List Statement → Option Single → Tables
all_of opening xs ending = record { opening = opening; statements = xs; ending = ending }

finished_mends : (w : List Token → List Token) (tokens : List Token) (x : Tables) → AreTables x → ((r : List Token) → tables_kind.put x r ≡ w r) → Mending tables_kind before before w tokens (finished tokens)
unfolding finished
finished_mends w tokens x are text e h d = go (front tokens) refl h
  where
    go : (o : Option (Token × List Token)) → front tokens ≡ o → finished_by o ≡ Err e → Mended tables_kind before before w tokens e.at
    go None i k = absurd (let j = k in cc)
    go (Some y) i k =
        let s = err_is {A = Unit {0}} (stop DataSyntax (Some y.0.span)) e k in
        commas_mend tables_kind before before w tokens e refl (record { thing = x; fits = are; rest = []; text = λ r. text _ }) (Some y) i (ap (λ (z : ParseError). z.at) (sym s))

ended_mends : (w : List Token → List Token) (tokens : List Token) (x : Tables) (read : Result (Unit {0}) ParseError) → Mending tables_kind before before w tokens read → Mending tables_kind before before w tokens (read >>= (λ over. let r : Result Tables ParseError = Ok x in r))
ended_mends w tokens x (Ok u) mends e h d = absurd (cc)
ended_mends w tokens x (Err t) mends e h d = mends e (ap (λ z. let r : Result (Unit {0}) ParseError = Err z in r) (err_is {A = Tables} t e h)) d

tables_mends : (tokens : List Token) → Mending tables_kind before before same tokens (tables tokens)
unfolding tables
tables_mends tokens =
    then_mends (single_kind (codes "data")) tables_kind before before before same tokens (single (codes "data") tokens) _ (single_reads (codes "data") tokens refl)
    (λ o opens. record { thing = all_of o [] None; fits = record { opening = opens; statements = tt; ending = tt }; rest = []; text = λ r. refl })
    (λ o r1 e1 opens.
    then_mends statements_kind tables_kind before before before (put_single o) r1 (statements (suc (length r1)) r1) _ (statements_reads (suc (length r1)) r1)
    (λ xs are. record { thing = all_of o xs None; fits = record { opening = opens; statements = are; ending = tt }; rest = []; text = λ r. refl })
    (λ xs r2 e2 are.
    then_mends (single_kind (codes "end")) tables_kind before before before (λ r. put_single o (put_all xs r)) r2 (single (codes "end") r2) _ (single_reads (codes "end") r2 refl)
    (λ n ends. record { thing = all_of o xs n; fits = record { opening = opens; statements = are; ending = ends }; rest = []; text = λ r. refl })
    (λ n r3 e3 ends.
    ended_mends (λ r. put_single o (put_all xs (put_single n r))) r3 (all_of o xs n) (finished r3)
    (finished_mends (λ r. put_single o (put_all xs (put_single n r))) r3 (all_of o xs n) (record { opening = opens; statements = are; ending = ends }) (λ r. refl)))))

-- the tokens before the place of a stop, and those from it on
pub record BegunBefore (tokens : List Token) (at : Option Span) : Type 0 where
  pub before : List Token
  pub left : List Token
  pub parts : tokens ≡ before ++ left
  pub stands : at ≡ place_of left
  pub begins : Begins before

pub begun_before : (tokens : List Token) (e : ParseError) → tables tokens ≡ Err e → e.error_code ≡ DataSyntax → BegunBefore tokens e.at
begun_before tokens e h d =
    let m = tables_mends tokens e h d in
    let b = m.begun in
    let whole : m.before ++ (b.rest ++ []) ≡ m.before ++ b.rest = ap (λ k. m.before ++ k) (append-nil b.rest) in
    record {
      before = m.before;
      left = m.left;
      parts = m.parts;
      stands = m.stands;
      begins = (b.rest, b.thing, record { printed = sym (b.text [] ∙ ap (bare before) whole); are = b.fits });
    }
