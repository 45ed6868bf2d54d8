-- The maximum absolute value of a number.
use Rattle.std.specs.Prelude.{Bool, ℤ, nat_le, unsigned_abs}
use Rattle.net_sets.specs.Limits.{number_limit}

-- the absolute value of a number is at most 1,000,000,000,000
unfoldable pub is_small : ℤ → Bool
is_small n = nat_le (unsigned_abs n) number_limit
