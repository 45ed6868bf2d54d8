-- Reading a row one thing after the other.
use Rattle.std.specs.Prelude.{◌≡◌, ◌≤◌, ◌+◌, ◌-◌, ℕ, zero, suc, Bool, true, false, cond, List, [], ◌∷◌, ◌++◌, length, map, Ok, Err}
use Rattle.std.proofs.Common.{refl, sym, ap, ◌∙◌, arith, length-append, append_assoc}
use Rattle.std.proofs.lemmas.List.{map-append}
use Rattle.net_model.specs.declared.model_parser.ParseError.{ParseError}
use Rattle.net_model.specs.Reading.{Tokens, Read, ◌>>=◌, read_as, Fails}
use Rattle.net_model.specs.Rows.{Step, row, with_row}
use Rattle.net_model.proofs.Turning.{fails}

append-nil : {A : Type 0} (l : List A) → l ++ [] ≡ l
append-nil [] = refl
append-nil (x ∷ l) = ap (λ m. x ∷ m) (append-nil l)

-- nothing more
row-over : {A S : Type 0} (turns : ℕ) (step : Step A S) (more : S → Tokens → Bool) (s : S) (ts : Tokens) → more s ts ≡ false → row turns step more s ts ≡ Ok (([], s), ts)
row-over zero step more s ts h = refl
row-over (suc turns) step more s ts h =
    ap (λ b. cond b (step s ts >>= λ x. row turns step more x.0.1 x.1 >>= λ l. read_as (x.0.0 ∷ l.0.0, l.0.1) l.1) (read_as ([], s) ts)) h

abbrev turned : {A S : Type 0} → ℕ → Step A S → (S → Tokens → Bool) → S → Tokens → Read (List A × S)
turned turns step more s ts = step s ts >>= λ x. row turns step more x.0.1 x.1 >>= λ l. read_as (x.0.0 ∷ l.0.0, l.0.1) l.1

row-on : {A S : Type 0} (turns : ℕ) (step : Step A S) (more : S → Tokens → Bool) (s : S) (ts : Tokens) → 1 ≤ turns → more s ts ≡ true
    → row turns step more s ts ≡ turned (turns - 1) step more s ts
row-on zero step more s ts some h = absurd (omega arith)
row-on (suc turns) step more s ts some h =
    let e : turns ≡ suc turns - 1 = omega arith in
    ap (λ b. cond b (turned turns step more s ts) (read_as ([], s) ts)) h ∙ ap (λ t. turned t step more s ts) e

with_one : {A S : Type 0} (x : A) (w : Read (List A × S)) → (w >>= λ l. read_as (x ∷ l.0.0, l.0.1) l.1) ≡ with_row (x ∷ []) w
with_one x (Ok l) = refl
with_one x (Err e) = refl

with_row-twice : {A S : Type 0} (f g : List A) (w : Read (List A × S)) → with_row f (with_row g w) ≡ with_row (f ++ g) w
with_row-twice f g (Ok l) = ap (λ k. Ok ((k, l.0.1), l.1)) (sym (append_assoc f g l.0.0))
with_row-twice f g (Err e) = refl

-- the loop's end
pub row_read : {X A S : Type 0} (view : X → A) (found : List X) (turns : ℕ) (step : Step A S) (more : S → Tokens → Bool) (s : S) (ts : Tokens) (all : Read (List A × S))
    → more s ts ≡ false → with_row (map view found) (row turns step more s ts) ≡ all → all ≡ Ok ((map view found, s), ts)
row_read view found turns step more s ts all h e =
    sym e ∙ ap (with_row (map view found)) (row-over turns step more s ts h) ∙ ap (λ k. Ok ((k, s), ts)) (append-nil (map view found))

-- the loop's turn
pub row_turn : {X A S : Type 0} (view : X → A) (found next : List X) (x : X) (whole : ℕ) (step : Step A S) (more : S → Tokens → Bool) (s t : S) (ts r : Tokens) (all : Read (List A × S))
    → 1 ≤ length ts → length found + length ts ≤ whole → more s ts ≡ true → step s ts ≡ Ok ((view x, t), r) → next ≡ found ++ x ∷ []
    → with_row (map view found) (row (whole - length found) step more s ts) ≡ all
    → with_row (map view next) (row (whole - length next) step more t r) ≡ all
row_turn {X} view found next x whole step more s t ts r all left room h f made before =
    let some : 1 ≤ whole - length found = omega arith in
    let long : length next ≡ suc (length found) = omega (arith, ap length made, length-append found (x ∷ [])) in
    let fewer : whole - length next ≡ whole - length found - 1 = omega (arith, long) in
    let tail = row (whole - length found - 1) step more t r in
    let turn = row-on (whole - length found) step more s ts some h
    ∙ ap (λ w. w >>= λ x. row (whole - length found - 1) step more x.0.1 x.1 >>= λ l. read_as (x.0.0 ∷ l.0.0, l.0.1) l.1) f
    ∙ with_one (view x) tail in
    let front = ap (map view) made ∙ map-append view found (x ∷ []) in
    ap (λ (n : ℕ). with_row (map view next) (row n step more t r)) fewer
    ∙ ap (λ k. with_row k tail) front
    ∙ sym (with_row-twice (map view found) (view x ∷ []) tail)
    ∙ sym (ap (with_row (map view found)) turn)
    ∙ before

-- a step stops
pub row_stops : {X A S : Type 0} (view : X → A) (found : List X) (whole : ℕ) (step : Step A S) (more : S → Tokens → Bool) (s : S) (ts : Tokens) (all : Read (List A × S)) (stop : ParseError)
    → 1 ≤ length ts → length found + length ts ≤ whole → more s ts ≡ true
    → with_row (map view found) (row (whole - length found) step more s ts) ≡ all → Fails stop (step s ts) → Fails stop all
row_stops view found whole step more s ts all stop left room h before stopped =
    fails stop (step s ts) all stopped
    (λ t e.
    let some : 1 ≤ whole - length found = omega arith in
    sym before
    ∙ ap (with_row (map view found))
    (row-on (whole - length found) step more s ts some h
    ∙ ap (λ w. w >>= λ x. row (whole - length found - 1) step more x.0.1 x.1 >>= λ l. read_as (x.0.0 ∷ l.0.0, l.0.1) l.1) e))
