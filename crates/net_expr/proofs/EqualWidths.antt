-- Sets whose tuples all have one number of members: the least and the greatest are the same.
use Rattle.std.specs.Prelude.{◌≡◌, ◌<◌, ◌≤◌, ℕ, List, [], ◌∷◌, length, max, min}
use Rattle.std.specs.List.{AllByRecursion, fold}
use Rattle.std.proofs.Common.{arith}
use Rattle.net_sets.specs.Operations.{narrowest, widest}
use Rattle.net_sets.specs.Sets.{Tuple}
use Rattle.net_expr.specs.DeclaredRows.{AreWide}

abbrev most : ℕ → List Tuple → ℕ
most k ts = fold (λ m t. max m (length t)) k ts

abbrev least : ℕ → List Tuple → ℕ
least k ts = fold (λ m t. min m (length t)) k ts

most_more : (k : ℕ) (ts : List Tuple) → k ≤ most k ts
most_more k [] = omega arith
most_more k (t ∷ ts) = let more = most_more (max k (length t)) ts in omega arith

least_less : (k : ℕ) (ts : List Tuple) → least k ts ≤ k
least_less k [] = omega arith
least_less k (t ∷ ts) = let less = least_less (min k (length t)) ts in omega arith

all_are : (low high width : ℕ) (ts : List Tuple) → width ≤ least low ts → most high ts ≤ width → AllByRecursion (λ t. length t ≡ width) ts
all_are low high width [] h g = tt
all_are low high width (t ∷ ts) h g =
    let less = least_less (min low (length t)) ts in
    let more = most_more (max high (length t)) ts in
    (omega arith, all_are (min low (length t)) (max high (length t)) width ts h g)

some : (ts : List Tuple) → narrowest ts ≡ widest ts → 0 < length ts
some [] e = absurd (omega arith)
some (t ∷ ts) e = omega arith

pub equal_widths : (ts : List Tuple) (low width : ℕ) → low ≡ narrowest ts → width ≡ widest ts → low ≡ width → AreWide width ts
equal_widths ts low width l w e = record {
  some = some ts (omega arith);
  all = all_are 4 0 width ts (omega arith) (omega arith);
}
