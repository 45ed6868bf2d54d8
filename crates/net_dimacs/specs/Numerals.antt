-- Accumulating digits one by one into a bounded number, as the reader does.
use Rattle.std.specs.Prelude.{ℕ, ◌+◌, ◌-◌, ◌*◌, min, if◌then◌else◌, List, [], ◌∷◌, Option, Some, None}
use Rattle.std.specs.Char.{is_ascii_digit}
use Rattle.net_dimacs.specs.Lines.{has_byte}
use Rattle.net_dimacs.specs.declared.integer.Integer.{Integer}
use Rattle.net_dimacs.specs.declared.integer.Numbers.{Numbers}
use Rattle.net_dimacs.specs.declared.integer.Numbers.TheVariants.{Zero, One, Two, Three, Other}

-- appends a digit, saturating at `top`
abbrev pub with_digit : ℕ → ℕ → ℕ → ℕ
with_digit top size b = min (min (size * 10) top + (b - 48)) top

-- appends these digits to `size`, saturating at `top`
abbrev pub size_after : ℕ → ℕ → List ℕ → Option ℕ
size_after top size [] = Some size
size_after top size (b ∷ bs) = if is_ascii_digit b then size_after top (with_digit top size b) bs else None

-- one or more digits as a number, saturating at `top`
abbrev pub size_of : ℕ → List ℕ → Option ℕ
size_of top ds = if has_byte ds then size_after top 0 ds else None

-- adds a field
abbrev pub with_integer : Numbers → Option Integer → Numbers
with_integer Zero (Some a) = One a
with_integer (One a) (Some b) = Two a b
with_integer (Two a b) (Some c) = Three a b c
with_integer numbers next = Other
