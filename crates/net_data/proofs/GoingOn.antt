-- Where reading stops at a token, it stops there whatever comes behind.
use Rattle.std.proofs.Common.{◌≡◌, ℕ, zero, suc, ◌≤◌, ◌<◌, Bool, List, [], ◌∷◌, ◌++◌, length, Option, Some, None, Result, Ok, Err, refl, ap, sym, ◌∙◌, arith, length-append, codes}
use Rattle.net_base.specs.declared.diagnostic.Span.{Span}
use Rattle.net_lex.specs.declared.token.Token.{Token}
use Rattle.net_base.specs.declared.error_code.ErrorCode.TheVariants.{DataSyntax}
use Rattle.net_data.specs.declared.data_parser.ParseError.{ParseError}
use Rattle.net_data.specs.declared.statement.Statement.{Statement}
use Rattle.net_data.specs.declared.statement.Single.{Single}
use Rattle.net_data.specs.declared.statement.Tables.{Tables}
use Rattle.net_data.specs.Reading.{Read, stop, front, met, wanted, semicolon, set, param, some_statement, statement, statement_by, with_statement, statements, statements_by, single, single_by, finished, finished_by, tables, ◌>>=◌}
use Rattle.net_data.specs.Tests.{is_word}
use Rattle.net_data.proofs.Lookahead.{never, err_is, place_is, StopsAt, Stops, Local, bind_stops, bind_local, same_local, pure_local}
use Rattle.net_data.proofs.NextToken.{first_token, wanted_local, choose, met_parts, choose_local}
use Rattle.net_data.proofs.StatementsAhead.{set_local, param_local}

-- ---- how many tokens are left

left_fewer : {A : Type 0} (f : List Token → Read A) (tokens rest : List Token) (x : A) → Local f tokens → f tokens ≡ Ok (x, rest) → length rest ≤ length tokens
left_fewer f tokens rest x l h =
    let p = l.passes x rest h in
    let long = ap (λ (ts : List Token). length ts) p.parts in
    omega (arith, long, length-append p.front rest)

met_fewer : (test : Token → Bool) (tokens rest : List Token) (t : Token) → met test tokens ≡ Some (t, rest) → length rest < length tokens
met_fewer test tokens rest t h =
    let f = first_token tokens t rest (met_parts test tokens (t, rest) h).front in
    let long = ap (λ (ts : List Token). length ts) f.parts in
    omega (arith, long, length-append f.commas (t ∷ rest))

-- ---- statement by statement

abbrev on_with : (List Token → Read (List Statement)) → Statement × List Token → Read (List Statement)
on_with more x = with_statement x.0 (more x.1)

abbrev one_by_one : (List Token → Read (List Statement)) → List Token → Read (List Statement)
one_by_one more ts =
    choose (met (is_word (codes "set")) ts) (choose (met (is_word (codes "param")) ts) (Ok ([], ts)) (λ k rest. param k rest >>= on_with more)) (λ k rest. set k rest >>= on_with more)

statements_on : (n : ℕ) (ts : List Token) → statements (suc n) ts ≡ one_by_one (statements n) ts
unfolding statements statement
statements_on n ts = go (met (is_word (codes "set")) ts) (met (is_word (codes "param")) ts)
  where
    by : (r : Read Statement) → statements_by (statements n) ts (some_statement r) ≡ (r >>= on_with (statements n))
    by (Ok x) = refl
    by (Err e) = refl

    go : (o p : Option (Token × List Token)) → statements_by (statements n) ts (statement_by o p)
        ≡ choose o (choose p (Ok ([], ts)) (λ k rest. param k rest >>= on_with (statements n))) (λ k rest. set k rest >>= on_with (statements n))
    go (Some x) p = by (set x.0 x.1)
    go None (Some x) = by (param x.0 x.1)
    go None None = refl

-- what is done with fewer tokens decides
alike : (more other : List Token → Read (List Statement)) (ts : List Token) → ((rest : List Token) → length rest < length ts → more rest ≡ other rest) → one_by_one more ts ≡ one_by_one other ts
alike more other ts same = go (met (is_word (codes "set")) ts) refl (met (is_word (codes "param")) ts) refl
  where
    on : (f : List Token → Read Statement) (rest : List Token) (r : Read Statement) → Local f rest → f rest ≡ r → length rest < length ts → (r >>= on_with more) ≡ (r >>= on_with other)
    on f rest (Ok y) l i less = let fewer = left_fewer f rest y.1 y.0 l i in ap (with_statement y.0) (same y.1 (omega (arith, fewer, less)))
    on f rest (Err e) l i less = refl

    go : (o : Option (Token × List Token)) → met (is_word (codes "set")) ts ≡ o → (p : Option (Token × List Token)) → met (is_word (codes "param")) ts ≡ p
        → choose o (choose p (Ok ([], ts)) (λ k rest. param k rest >>= on_with more)) (λ k rest. set k rest >>= on_with more)
        ≡ choose o (choose p (Ok ([], ts)) (λ k rest. param k rest >>= on_with other)) (λ k rest. set k rest >>= on_with other)
    go (Some x) i p j = on (set x.0) x.1 (set x.0 x.1) (set_local x.0 x.1) refl (met_fewer (is_word (codes "set")) ts x.1 x.0 i)
    go None i (Some x) j = on (param x.0) x.1 (param x.0 x.1) (param_local x.0 x.1) refl (met_fewer (is_word (codes "param")) ts x.1 x.0 j)
    go None i None j = refl

-- any number of turns above the number of tokens does
enough : (n m : ℕ) (ts : List Token) → length ts < n → length ts < m → statements n ts ≡ statements m ts
enough zero m ts l k = absurd (omega (arith, l))
enough (suc n) zero ts l k = absurd (omega (arith, k))
enough (suc n) (suc m) ts l k =
    statements_on n ts
    ∙ alike (statements n) (statements m) ts (λ rest less. enough n m rest (omega (arith, l, less)) (omega (arith, k, less)))
    ∙ sym (statements_on m ts)

abbrev all_of : List Token → Read (List Statement)
all_of ts = statements (suc (length ts)) ts

all_is : (ts : List Token) → all_of ts ≡ one_by_one all_of ts
all_is ts = statements_on (length ts) ts ∙ alike (statements (length ts)) all_of ts (λ rest less. enough (length ts) (suc (length rest)) rest less (omega arith))

abbrev put_front : Statement → List Statement × List Token → Read (List Statement)
put_front x y = Ok (x ∷ y.0, y.1)

with_is : (x : Statement) (read : Read (List Statement)) → with_statement x read ≡ (read >>= put_front x)
with_is x (Ok y) = refl
with_is x (Err e) = refl

with_local : (x : Statement) (f : List Token → Read (List Statement)) (tokens : List Token) → Local f tokens → Local (λ ts. with_statement x (f ts)) tokens
with_local x f tokens l =
    same_local (λ ts. with_statement x (f ts)) (λ ts. f ts >>= put_front x) tokens (λ ts. with_is x (f ts))
    (bind_local f (put_front x) tokens l (λ xs rest i. pure_local (x ∷ xs) rest))

on_local : (f : List Token → Read Statement) (tokens : List Token) → Local f tokens → ((rest : List Token) → length rest ≤ length tokens → Local all_of rest) → Local (λ ts. f ts >>= on_with all_of) tokens
on_local f tokens l more = bind_local f (on_with all_of) tokens l (λ x rest i. with_local x all_of rest (more rest (left_fewer f tokens rest x l i)))

all_local : (n : ℕ) (tokens : List Token) → length tokens < n → Local all_of tokens
all_local zero tokens l = absurd (omega (arith, l))
all_local (suc n) tokens l =
    same_local all_of (one_by_one all_of) tokens all_is
    (choose_local (is_word (codes "set")) (λ ts. choose (met (is_word (codes "param")) ts) (Ok ([], ts)) (λ k rest. param k rest >>= on_with all_of)) (λ k rest. set k rest >>= on_with all_of) tokens
    (choose_local (is_word (codes "param")) (λ ts. Ok ([], ts)) (λ k rest. param k rest >>= on_with all_of) tokens (pure_local [] tokens) (λ k behind i.
    let less = met_fewer (is_word (codes "param")) tokens behind k i in
    on_local (param k) behind (param_local k behind) (λ rest fewer. all_local n rest (omega (arith, l, less, fewer)))))
    (λ k behind i.
    let less = met_fewer (is_word (codes "set")) tokens behind k i in
    on_local (set k) behind (set_local k behind) (λ rest fewer. all_local n rest (omega (arith, l, less, fewer)))))

-- ---- a whole text

abbrev single_after : Token → List Token → Read (Option Single)
single_after word ts = wanted semicolon ts >>= (λ end. Ok (Some (record { word = word; end = end.0 }), end.1))

single_is : (word : List ℕ) (ts : List Token) → single word ts ≡ choose (met (is_word word) ts) (Ok (None, ts)) single_after
unfolding single
single_is word ts = go (met (is_word word) ts)
  where
    go : (o : Option (Token × List Token)) → single_by ts o ≡ choose o (Ok (None, ts)) single_after
    go None = refl
    go (Some x) = refl

single_local : (word : List ℕ) (tokens : List Token) → Local (single word) tokens
single_local word tokens =
    same_local (single word) (λ ts. choose (met (is_word word) ts) (Ok (None, ts)) single_after) tokens (single_is word)
    (choose_local (is_word word) (λ ts. Ok (None, ts)) single_after tokens (pure_local None tokens) (λ first behind i.
    bind_local (wanted semicolon) (λ end. Ok (Some (record { word = first; end = end.0 }), end.1)) behind (wanted_local semicolon behind) (λ end rest j. pure_local (Some (record { word = first; end = end })) rest)))

abbrev ended : Tables → List Token → Result Tables ParseError
ended x ts = finished_by (front ts) >>= (λ over. Ok x)

ended_stops : (x : Tables) (tokens : List Token) → Stops (ended x) tokens
ended_stops x tokens e h d span at = go (front tokens) refl
  where
    go : (o : Option (Token × List Token)) → front tokens ≡ o → StopsAt (ended x) tokens e span
    go None i = never x e (sym (ap (λ o. finished_by o >>= (λ over. let r : Result Tables ParseError = Ok x in r)) i) ∙ h)
    go (Some y) i =
        let f = first_token tokens y.0 y.1 i in
        let same = err_is {A = Tables} (stop DataSyntax (Some y.0.span)) e (sym (ap (λ o. finished_by o >>= (λ over. let r : Result Tables ParseError = Ok x in r)) i) ∙ h) in
        record {
          front = f.commas;
          token = y.0;
          more = y.1;
          parts = f.parts;
          at = place_is y.0.span span (ap (λ (s : ParseError). s.at) same ∙ at);
          looks = f.looks;
          always = λ other.
              ap (λ o. finished_by o >>= (λ over. let r : Result Tables ParseError = Ok x in r)) (f.fronts other)
              ∙ ap (λ z. let r : Result Tables ParseError = Err z in r) same;
        }

abbrev after_ending : Option Single → List Statement → Option Single × List Token → Result Tables ParseError
after_ending opening xs n = ended (record { opening = opening; statements = xs; ending = n.0 }) n.1

abbrev after_all : Option Single → List Statement × List Token → Result Tables ParseError
after_all opening s = single (codes "end") s.1 >>= after_ending opening s.0

abbrev after_opening : Option Single × List Token → Result Tables ParseError
after_opening o = all_of o.1 >>= after_all o.0

tables_is : (ts : List Token) → tables ts ≡ (single (codes "data") ts >>= after_opening)
unfolding tables finished
tables_is ts = refl

tables_stop : (tokens : List Token) → Stops (λ ts. single (codes "data") ts >>= after_opening) tokens
tables_stop tokens =
    bind_stops (single (codes "data")) after_opening tokens (single_local (codes "data") tokens) (λ opening after i.
    bind_stops all_of (after_all opening) after (all_local (suc (length after)) after (omega arith)) (λ xs behind j.
    bind_stops (single (codes "end")) (after_ending opening xs) behind (single_local (codes "end") behind) (λ ending rest k.
    ended_stops (record { opening = opening; statements = xs; ending = ending }) rest)))

-- where a text stops at a token, it stops there whatever comes behind
pub stops_at_token : (tokens : List Token) (e : ParseError) (span : Span) → tables tokens ≡ Err e → e.error_code ≡ DataSyntax → e.at ≡ Some span → StopsAt tables tokens e span
stops_at_token tokens e span h d at =
    let s = tables_stop tokens e (sym (tables_is tokens) ∙ h) d span at in
    record { front = s.front; token = s.token; more = s.more; parts = s.parts; at = s.at; looks = s.looks; always = λ other. tables_is (s.front ++ s.token ∷ other) ∙ s.always other }
