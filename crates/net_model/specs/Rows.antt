-- A sequence of items of one kind, parsed while there are more, with a state.
use Rattle.std.specs.Prelude.{ℕ, zero, suc, Bool, List, [], ◌∷◌, ◌++◌, Ok, Err, if◌then◌else◌}
use Rattle.net_model.specs.Reading.{Tokens, Read, ◌>>=◌, read_as}

-- one item and the state after it
abbrev pub Step : Type 0 → Type 0 → Type 0
Step A S = S → Tokens → Read (A × S)

-- at most `turns` items
abbrev pub row : {A S : Type 0} → ℕ → Step A S → (S → Tokens → Bool) → S → Tokens → Read (List A × S)
row zero step more s ts = read_as ([], s) ts
row (suc turns) step more s ts =
    if more s ts then (step s ts >>= λ x. row turns step more x.0.1 x.1 >>= λ l. read_as (x.0.0 ∷ l.0.0, l.0.1) l.1) else read_as ([], s) ts

-- the same, appended to the items parsed before
abbrev pub with_row : {A S : Type 0} → List A → Read (List A × S) → Read (List A × S)
with_row before (Ok l) = Ok ((before ++ l.0.0, l.0.1), l.1)
with_row before (Err e) = Err e
