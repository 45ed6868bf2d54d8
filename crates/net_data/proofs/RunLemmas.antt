-- Runs of tokens that pass a test.
use Rattle.std.proofs.Common.{◌≡◌, ℕ, ◌+◌, suc, Bool, true, false, cond, ◌||◌, List, [], ◌∷◌, ◌++◌, take, drop, refl, ap, sym, ◌∙◌, arith, codes}
use Rattle.std.specs.List.{list_all}
use Rattle.std.proofs.lemmas.Bool.{and_parts, and_from}
use Rattle.net_lex.specs.declared.token.Token.{Token}
use Rattle.net_data.specs.Tests.{is_name, is_member, is_cell, is_comma}
use Rattle.net_data.specs.Commas.{elsewhere, place_after, bare, uncommaed}
use Rattle.net_data.specs.Reading.{run, run_len, semicolon}
use Rattle.net_data.proofs.Apart.{name-mark, member-mark, cell-mark}

-- a run goes on behind a comma and behind a token that passes
abbrev pub run_after : Token → List Token → Bool → Bool → List Token × List Token → List Token × List Token
run_after token tokens true passes run = run
run_after token tokens false true run = (token ∷ run.0, run.1)
run_after token tokens false false run = ([], token ∷ tokens)

abbrev cut : ℕ → List Token → List Token × List Token
cut n tokens = (uncommaed (take n tokens), drop n tokens)

run_at : (token : Token) (tokens : List Token) (n : ℕ) (comma passes : Bool) → is_comma token ≡ comma
    → cut (cond (passes || comma) (1 + n) 0) (token ∷ tokens) ≡ run_after token tokens comma passes (cut n tokens)
run_at token tokens n true true is = let one : 1 + n ≡ suc n = omega arith in rw (one, is) refl
run_at token tokens n true false is = let one : 1 + n ≡ suc n = omega arith in rw (one, is) refl
run_at token tokens n false true is = let one : 1 + n ≡ suc n = omega arith in rw (one, is) refl
run_at token tokens n false false is = refl

pub run-cons : (test : Token → Bool) (token : Token) (tokens : List Token) → run test (token ∷ tokens) ≡ run_after token tokens (is_comma token) (test token) (run test tokens)
unfolding run
run-cons test token tokens = run_at token tokens (run_len test tokens) (is_comma token) (test token) refl

pub run-nil : (test : Token → Bool) → run test [] ≡ ([], [])
unfolding run
run-nil test = refl

-- a test that no comma and no semicolon passes
pub record Keeps (test : Token → Bool) : Type 0 where
  pub no_comma : (token : Token) → test token ≡ true → is_comma token ≡ false
  pub no_semicolon : (token : Token) → test token ≡ true → semicolon token ≡ false

pub keeps_name : Keeps is_name
keeps_name = record { no_comma = name-mark (codes ","); no_semicolon = name-mark (codes ";") }

pub keeps_member : Keeps is_member
keeps_member = record { no_comma = member-mark (codes ","); no_semicolon = member-mark (codes ";") }

pub keeps_cell : Keeps is_cell
keeps_cell = record { no_comma = cell-mark (codes ","); no_semicolon = cell-mark (codes ";") }

-- what a run is without commas
pub record Ran (test : Token → Bool) (tokens : List Token) (x : List Token × List Token) : Type 0 where
  pub printed : bare elsewhere tokens ≡ x.0 ++ bare elsewhere x.1
  pub pass : list_all test x.0 ≡ true

ran_at : (test : Token → Bool) (token : Token) (tokens : List Token) (comma passes : Bool) (x : List Token × List Token) → Keeps test → is_comma token ≡ comma → test token ≡ passes → Ran test tokens x
    → Ran test (token ∷ tokens) (run_after token tokens comma passes x)
ran_at test token tokens true passes x keeps is pass r = record { printed = rw is r.printed; pass = r.pass }
ran_at test token tokens false true x keeps is pass r = record {
  printed = let no = keeps.no_semicolon token pass in rw (is, no) (ap (λ ts. token ∷ ts) r.printed);
  pass = and_from (test token) (list_all test x.0) pass r.pass;
}
ran_at test token tokens false false x keeps is pass r = record { printed = refl; pass = refl }

pub ran : (test : Token → Bool) (tokens : List Token) → Keeps test → Ran test tokens (run test tokens)
ran test [] keeps = rw (run-nil test) (record { printed = refl; pass = refl })
ran test (token ∷ tokens) keeps = rw (run-cons test token tokens) (ran_at test token tokens (is_comma token) (test token) (run test tokens) keeps refl refl (ran test tokens keeps))

-- tokens that pass, before one that does not, are the run
pub record Runs (test : Token → Bool) (tokens xs : List Token) (stop : Token) (more : List Token) : Type 0 where
  pub rest : List Token
  pub read : run test tokens ≡ (xs, rest)
  pub left : bare elsewhere rest ≡ stop ∷ more

runs_comma : (test : Token → Bool) (token : Token) (tokens xs more : List Token) (stop : Token) → is_comma token ≡ true → Runs test tokens xs stop more → Runs test (token ∷ tokens) xs stop more
runs_comma test token tokens xs more stop is r = record { rest = r.rest; read = run-cons test token tokens ∙ rw is r.read; left = r.left }

runs_stop : (test : Token → Bool) (token : Token) (tokens more : List Token) (stop : Token) → is_comma token ≡ false → test stop ≡ false → bare elsewhere (token ∷ tokens) ≡ stop ∷ more → token ≡ stop
    → Runs test (token ∷ tokens) [] stop more
runs_stop test token tokens more stop is fails h same =
    let no : test token ≡ false = rw same fails in
    record { rest = token ∷ tokens; read = run-cons test token tokens ∙ rw (is, no) refl; left = h }

runs_more : (test : Token → Bool) (token : Token) (tokens xs more : List Token) (stop : Token) → is_comma token ≡ false → test token ≡ true → Runs test tokens xs stop more → Runs test (token ∷ tokens) (token ∷ xs) stop more
runs_more test token tokens xs more stop is pass r = record { rest = r.rest; read = run-cons test token tokens ∙ rw (is, pass) (ap (λ (x : List Token × List Token). let y : List Token × List Token = (token ∷ x.0, x.1) in y) r.read); left = r.left }

bare-token : (token : Token) (tokens : List Token) → is_comma token ≡ false → bare elsewhere (token ∷ tokens) ≡ token ∷ bare (place_after elsewhere token) tokens
bare-token token tokens is = rw is refl

bare-comma : (token : Token) (tokens : List Token) → is_comma token ≡ true → bare elsewhere (token ∷ tokens) ≡ bare elsewhere tokens
bare-comma token tokens is = rw is refl

heads : (x y : Token) (xs ys : List Token) → x ∷ xs ≡ y ∷ ys → (x ≡ y) × (xs ≡ ys)
heads x y xs ys h = (cc, cc)

runs_at : (test : Token → Bool) (token : Token) (tokens xs more : List Token) (stop : Token) (comma : Bool) → Keeps test → is_comma token ≡ comma → bare elsewhere (token ∷ tokens) ≡ xs ++ stop ∷ more → list_all test xs ≡ true → test stop ≡ false
    → ((ys : List Token) → bare elsewhere tokens ≡ ys ++ stop ∷ more → list_all test ys ≡ true → Runs test tokens ys stop more) → Runs test (token ∷ tokens) xs stop more
runs_at test token tokens xs more stop true keeps is h pass fails behind = runs_comma test token tokens xs more stop is (behind xs (sym (bare-comma token tokens is) ∙ h) pass)
runs_at test token tokens [] more stop false keeps is h pass fails behind =
    runs_stop test token tokens more stop is fails h (heads _ _ _ _ (sym (bare-token token tokens is) ∙ h)).0
runs_at test token tokens (x ∷ xs) more stop false keeps is h pass fails behind =
    let both = heads _ _ _ _ (sym (bare-token token tokens is) ∙ h) in
    let parts = and_parts (test x) (list_all test xs) pass in
    let passes : test token ≡ true = rw both.0 parts.0 in
    let stays = keeps.no_semicolon token passes in
    let left : bare elsewhere tokens ≡ xs ++ stop ∷ more = rw stays at both.1 in
    rw (sym both.0) (runs_more test token tokens xs more stop is passes (behind xs left parts.1))

pub runs : (test : Token → Bool) (tokens xs more : List Token) (stop : Token) → Keeps test → bare elsewhere tokens ≡ xs ++ stop ∷ more → list_all test xs ≡ true → test stop ≡ false → Runs test tokens xs stop more
runs test [] [] more stop keeps h pass fails = absurd (cc)
runs test [] (x ∷ xs) more stop keeps h pass fails = absurd (cc)
runs test (token ∷ tokens) xs more stop keeps h pass fails =
    runs_at test token tokens xs more stop (is_comma token) keeps refl h pass fails (λ ys k p. runs test tokens ys more stop keeps k p fails)
