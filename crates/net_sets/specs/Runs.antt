-- Consecutive numbers.
use Rattle.std.specs.Prelude.{◌≡◌, ℕ, ◌≤◌, Bool, true, false, List, [], ◌∷◌, ℤ, pos, unsigned_abs}
use Rattle.std.specs.List.{AllByRecursion}
use Rattle.net_sets.specs.declared.member.Member.TheVariants.{Number}
use Rattle.net_sets.specs.Limits.{number_limit}
use Rattle.net_sets.specs.Ranges.{numbers_by, singles}
use Rattle.net_sets.specs.Sets.{Tuple}

-- whether the tuple consists of one number
abbrev pub is_number : Tuple → Bool
is_number (Number n ∷ []) = true
is_number _ = false

abbrev pub AreNumbers : List Tuple → Type 0
AreNumbers ts = AllByRecursion (λ t. is_number t ≡ true) ts

-- `count` consecutive numbers from `first` on, each as a tuple
abbrev pub run : ℤ → ℕ → List Tuple
run first count = singles (numbers_by first (pos 1) count)

-- the first number and the count are within the limit
pub record IsRun (first : ℤ) (count : ℕ) : Type 0 where
  pub first_fits : unsigned_abs first ≤ number_limit
  pub count_fits : count ≤ number_limit
