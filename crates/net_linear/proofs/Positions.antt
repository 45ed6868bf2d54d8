-- The position of a tuple is below the number of tuples.
use Rattle.std.specs.Prelude.{◌≡◌, ℕ, ◌<◌, List, length, Some}
use Rattle.std.proofs.Common.{sym, arith}
use Rattle.net_sets.specs.Sets.{Tuple, same_tuple, place_of}
use Rattle.net_sets.proofs.Indexed.{found_within}

pub place_below : (ts : List Tuple) (t : Tuple) (j : ℕ) → Some j ≡ place_of ts t → j < length ts
place_below ts t j e = omega (arith, found_within (same_tuple t) 0 j ts (sym e))
