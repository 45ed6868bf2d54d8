-- What holds of all elements that a loop has passed.
use Rattle.std.proofs.Common.{◌≤◌, ℕ, List, length, All, take, subst}
use Rattle.std.proofs.lemmas.List.{take_all}

pub all_taken : {X : Type 0} (P : X → Type 0) (xs : List X) (i : ℕ) → length xs ≤ i → All P (take i xs) → All P xs
all_taken {X} P xs i past all = subst (λ (l : List X). All P l) (take_all i xs past) all
