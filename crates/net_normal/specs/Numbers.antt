-- The numbers that a link assigns to the arcs of a network.
use Rattle.std.specs.Prelude.{◌≡◌, ℕ, zero, suc, List, [], ◌∷◌, length}

-- the nonzero numbers, in order
abbrev pub positives : List ℕ → List ℕ
positives [] = []
positives (zero ∷ numbers) = positives numbers
positives (suc n ∷ numbers) = suc n ∷ positives numbers

-- `many` consecutive numbers, starting at n
abbrev pub counted : (n : ℕ) (many : ℕ) → List ℕ
counted n zero = []
counted n (suc many) = n ∷ counted (suc n) many

-- the nonzero numbers are 1, 2, 3, ..., without gaps or repetitions
abbrev pub CountUp : List ℕ → Type 0
CountUp numbers = positives numbers ≡ counted 1 (length (positives numbers))
