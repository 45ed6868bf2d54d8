-- Reading a token, and what that is in the list without commas.
use Rattle.std.proofs.Common.{◌≡◌, Bool, true, false, cond, ◌&&◌, List, [], ◌∷◌, Option, Some, None, Ok, refl, ap, sym, ◌∙◌}
use Rattle.net_lex.specs.declared.token.Token.{Token}
use Rattle.net_data.specs.Tests.{is_comma}
use Rattle.net_data.specs.Commas.{TokenPlace, place_after, skips, bare}
use Rattle.net_data.specs.Reading.{front, met_by, met, wanted_by, wanted}

some_parts : (x y : Token × List Token) → (let o : Option (Token × List Token) = Some x in o ≡ Some y) → (x.0 ≡ y.0) × (x.1 ≡ y.1)
some_parts x y h = let same : x ≡ y = cc in (ap (λ (p : Token × List Token). p.0) same, ap (λ (p : Token × List Token). p.1) same)

-- the next token is the first without commas
pub front-bare : (place : TokenPlace) (tokens rest : List Token) (token : Token) → skips place ≡ true → front tokens ≡ Some (token, rest) → bare place tokens ≡ token ∷ bare (place_after place token) rest
front-bare place [] rest token outside h = absurd (cc)
front-bare place (t ∷ tokens) rest token outside h =
    let P : Bool → Type 0 = λ b. cond b (front tokens) (Some (t, tokens)) ≡ Some (token, rest) → cond (skips place && b) (bare place tokens) (t ∷ bare (place_after place t) tokens) ≡ token ∷ bare (place_after place token) rest in
    let by : (b : Bool) → P b = λ b. elim b as P [
      | true ↦ λ k. rw outside (front-bare place tokens rest token outside k)
      | false ↦ λ k. let s : skips place && false ≡ false = rw outside refl in rw s (let parts = some_parts (t, tokens) (token, rest) k in rw (parts.0, parts.1) refl)
    ] in
    by (is_comma t) h

pub front-none : (place : TokenPlace) (tokens : List Token) → skips place ≡ true → front tokens ≡ None → bare place tokens ≡ []
front-none place [] outside h = refl
front-none place (t ∷ tokens) outside h =
    let P : Bool → Type 0 = λ b. cond b (front tokens) (Some (t, tokens)) ≡ None → cond (skips place && b) (bare place tokens) (t ∷ bare (place_after place t) tokens) ≡ [] in
    let by : (b : Bool) → P b = λ b. elim b as P [ true ↦ λ k. rw outside (front-none place tokens outside k) | false ↦ λ k. absurd (cc) ] in
    by (is_comma t) h

-- what is first without commas is the next token
pub record Next (place : TokenPlace) (tokens : List Token) (token : Token) (more : List Token) : Type 0 where
  pub rest : List Token
  pub front : front tokens ≡ Some (token, rest)
  pub left : bare (place_after place token) rest ≡ more

next_of : (place : TokenPlace) (tokens more : List Token) (token : Token) (next : Option (Token × List Token)) → skips place ≡ true → front tokens ≡ next → bare place tokens ≡ token ∷ more → Next place tokens token more
next_of place tokens more token None outside is h = let none = front-none place tokens outside is in absurd (cc)
next_of place tokens more token (Some x) outside is h =
    let here : bare place tokens ≡ x.0 ∷ bare (place_after place x.0) x.1 = front-bare place tokens x.1 x.0 outside is in
    let same : x.0 ≡ token = cc in
    let left : bare (place_after place x.0) x.1 ≡ more = cc in
    record { rest = x.1; front = is ∙ ap (λ t. let o : Option (Token × List Token) = Some (t, x.1) in o) same; left = rw same at left }

pub next : (place : TokenPlace) (tokens more : List Token) (token : Token) → skips place ≡ true → bare place tokens ≡ token ∷ more → Next place tokens token more
next place tokens more token outside h = next_of place tokens more token (front tokens) outside refl h

nothing_of : (place : TokenPlace) (tokens : List Token) (next : Option (Token × List Token)) → skips place ≡ true → front tokens ≡ next → bare place tokens ≡ [] → front tokens ≡ None
nothing_of place tokens None outside is h = is
nothing_of place tokens (Some x) outside is h = let here = front-bare place tokens x.1 x.0 outside is in absurd (cc)

pub nothing : (place : TokenPlace) (tokens : List Token) → skips place ≡ true → bare place tokens ≡ [] → front tokens ≡ None
nothing place tokens outside h = nothing_of place tokens (front tokens) outside refl h

-- a token that was met, or wanted, passes its test
met_of : (test : Token → Bool) (next : Option (Token × List Token)) (x : Token × List Token) → met_by test next ≡ Some x → (next ≡ Some x) × (test x.0 ≡ true)
met_of test None x h = absurd (cc)
met_of test (Some y) x h =
    let P : Bool → Type 0 = λ b. test y.0 ≡ b → (let o : Option (Token × List Token) = cond b (Some y) None in o ≡ Some x) → (let o : Option (Token × List Token) = Some y in o ≡ Some x) × (test x.0 ≡ true) in
    let by : (b : Bool) → P b = λ b. elim b as P [ true ↦ λ is k. (k, let same : y ≡ x = cc in rw (sym same) is) | false ↦ λ is k. absurd (cc) ] in
    by (test y.0) refl h

pub met-front : (test : Token → Bool) (tokens : List Token) (x : Token × List Token) → met test tokens ≡ Some x → (front tokens ≡ Some x) × (test x.0 ≡ true)
unfolding met
met-front test tokens x h = met_of test (front tokens) x h

pub met-pass : (test : Token → Bool) (tokens rest : List Token) (token : Token) → front tokens ≡ Some (token, rest) → test token ≡ true → met test tokens ≡ Some (token, rest)
unfolding met
met-pass test tokens rest token h k = rw (h, k)

pub met-fail : (test : Token → Bool) (tokens rest : List Token) (token : Token) → front tokens ≡ Some (token, rest) → test token ≡ false → met test tokens ≡ None
unfolding met
met-fail test tokens rest token h k = rw (h, k)

pub met-none : (test : Token → Bool) (tokens : List Token) → front tokens ≡ None → met test tokens ≡ None
unfolding met
met-none test tokens h = rw h

wanted_of : (tokens : List Token) (next : Option (Token × List Token)) (x : Token × List Token) → wanted_by tokens next ≡ Ok x → next ≡ Some x
wanted_of tokens None x h = absurd (cc)
wanted_of tokens (Some y) x h = let same : y ≡ x = cc in rw same

pub wanted-front : (test : Token → Bool) (tokens : List Token) (x : Token × List Token) → wanted test tokens ≡ Ok x → (front tokens ≡ Some x) × (test x.0 ≡ true)
unfolding wanted
wanted-front test tokens x h = met-front test tokens x (wanted_of tokens (met test tokens) x h)

pub wanted-pass : (test : Token → Bool) (tokens rest : List Token) (token : Token) → front tokens ≡ Some (token, rest) → test token ≡ true → wanted test tokens ≡ Ok (token, rest)
unfolding wanted
wanted-pass test tokens rest token h k = let m = met-pass test tokens rest token h k in rw m

-- the first token that is wanted, and what is left without commas
pub record Took (place : TokenPlace) (test : Token → Bool) (tokens : List Token) (token : Token) (rest : List Token) : Type 0 where
  pub printed : bare place tokens ≡ token ∷ bare (place_after place token) rest
  pub passes : test token ≡ true

pub took : (place : TokenPlace) (test : Token → Bool) (tokens : List Token) (x : Token × List Token) → skips place ≡ true → wanted test tokens ≡ Ok x → Took place test tokens x.0 x.1
took place test tokens x outside h =
    let f = wanted-front test tokens x h in record { printed = front-bare place tokens x.1 x.0 outside f.0; passes = f.1 }

pub took_met : (place : TokenPlace) (test : Token → Bool) (tokens : List Token) (x : Token × List Token) → skips place ≡ true → met test tokens ≡ Some x → Took place test tokens x.0 x.1
took_met place test tokens x outside h =
    let f = met-front test tokens x h in record { printed = front-bare place tokens x.1 x.0 outside f.0; passes = f.1 }

-- what is first without commas and passes is what is wanted
pub record Takes (place : TokenPlace) (test : Token → Bool) (tokens : List Token) (token : Token) (more : List Token) : Type 0 where
  pub rest : List Token
  pub read : wanted test tokens ≡ Ok (token, rest)
  pub met : met test tokens ≡ Some (token, rest)
  pub left : bare (place_after place token) rest ≡ more

pub takes : (place : TokenPlace) (test : Token → Bool) (tokens more : List Token) (token : Token) → skips place ≡ true → bare place tokens ≡ token ∷ more → test token ≡ true → Takes place test tokens token more
takes place test tokens more token outside h k =
    let n = next place tokens more token outside h in
    record { rest = n.rest; read = wanted-pass test tokens n.rest token n.front k; met = met-pass test tokens n.rest token n.front k; left = n.left }

pub misses : (place : TokenPlace) (test : Token → Bool) (tokens more : List Token) (token : Token) → skips place ≡ true → bare place tokens ≡ token ∷ more → test token ≡ false → met test tokens ≡ None
misses place test tokens more token outside h k = let n = next place tokens more token outside h in met-fail test tokens n.rest token n.front k
