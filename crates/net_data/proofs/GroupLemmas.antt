-- Groups, one after the other.
use Rattle.std.proofs.Common.{◌≡◌, ℕ, zero, suc, ◌+◌, Bool, true, false, codes, ◌≤◌, ◌<◌, List, [], ◌∷◌, length, take, drop, refl, ap, arith, length-drop}
use Rattle.net_lex.specs.declared.token.Token.{Token}
use Rattle.net_data.specs.Tests.{is_mark}
use Rattle.net_data.specs.Rows.{groups, groups_from, inside_len, alone_len, first_row, more_rows, set_rows, set_rows_from}

-- any number of turns that is not below the length does
enough : (size n m : ℕ) (tokens : List Token) → 0 < size → length tokens ≤ n → length tokens ≤ m → groups_from size n tokens ≡ groups_from size m tokens
enough size zero zero tokens some a b = refl
enough size zero (suc m) [] some a b = refl
enough size zero (suc m) (t ∷ tokens) some a b = absurd (omega arith)
enough size (suc n) zero [] some a b = refl
enough size (suc n) zero (t ∷ tokens) some a b = absurd (omega arith)
enough size (suc n) (suc m) [] some a b = refl
enough size (suc n) (suc m) (t ∷ tokens) some a b =
    let short = length-drop size (t ∷ tokens) in
    ap (λ more. take size (t ∷ tokens) ∷ more) (enough size n m (drop size (t ∷ tokens)) some (omega arith) (omega arith))

pub groups-cons : (size : ℕ) (tokens : List Token) → 0 < size → 0 < length tokens → groups size tokens ≡ take size tokens ∷ groups size (drop size tokens)
groups-cons size [] some cells = absurd (omega arith)
groups-cons size (t ∷ tokens) some cells =
    let short = length-drop size (t ∷ tokens) in
    ap (λ more. take size (t ∷ tokens) ∷ more) (enough size (length tokens) (length (drop size (t ∷ tokens))) (drop size (t ∷ tokens)) some (omega arith) (omega arith))

-- the rows of a set get fewer
fewer_at : (dimension : ℕ) (token : Token) (tokens : List Token) (opens : Bool) → is_mark (codes "(") token ≡ opens → length (more_rows (suc dimension) (token ∷ tokens)) ≤ length tokens
fewer_at dimension token tokens true is = rw is (omega (arith, length-drop (suc (inside_len tokens)) tokens))
fewer_at dimension token tokens false is =
    let one : 1 + alone_len tokens ≡ suc (alone_len tokens) = omega arith in
    rw (is, one) (omega (arith, length-drop (length (take dimension (take (alone_len tokens) tokens))) tokens))

fewer : (dimension : ℕ) (token : Token) (tokens : List Token) → length (more_rows (suc dimension) (token ∷ tokens)) ≤ length tokens
fewer dimension token tokens = fewer_at dimension token tokens (is_mark (codes "(") token) refl

set_enough : (dimension n m : ℕ) (tokens : List Token) → length tokens ≤ n → length tokens ≤ m → set_rows_from (suc dimension) n tokens ≡ set_rows_from (suc dimension) m tokens
set_enough dimension zero zero tokens a b = refl
set_enough dimension zero (suc m) [] a b = refl
set_enough dimension zero (suc m) (t ∷ tokens) a b = absurd (omega arith)
set_enough dimension (suc n) zero [] a b = refl
set_enough dimension (suc n) zero (t ∷ tokens) a b = absurd (omega arith)
set_enough dimension (suc n) (suc m) [] a b = refl
set_enough dimension (suc n) (suc m) (t ∷ tokens) a b =
    let short = fewer dimension t tokens in
    ap (λ more. first_row (suc dimension) (t ∷ tokens) ∷ more) (set_enough dimension n m (more_rows (suc dimension) (t ∷ tokens)) (omega arith) (omega arith))

pub set_rows-cons : (dimension : ℕ) (tokens : List Token) → 0 < dimension → 0 < length tokens → set_rows dimension tokens ≡ first_row dimension tokens ∷ set_rows dimension (more_rows dimension tokens)
set_rows-cons zero tokens some items = absurd (omega arith)
set_rows-cons (suc dimension) [] some items = absurd (omega arith)
set_rows-cons (suc dimension) (t ∷ tokens) some items =
    let short = fewer dimension t tokens in
    ap (λ more. first_row (suc dimension) (t ∷ tokens) ∷ more)
    (set_enough dimension (length tokens) (length (more_rows (suc dimension) (t ∷ tokens))) (more_rows (suc dimension) (t ∷ tokens)) (omega arith) (omega arith))
