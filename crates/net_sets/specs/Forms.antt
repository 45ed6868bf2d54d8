-- Tuples that fit into a form for few members.
use Rattle.std.specs.Prelude.{ℕ, ◌≤◌, List, length}
use Rattle.std.specs.List.{AllByRecursion}
use Rattle.net_sets.specs.Sets.{Tuple}

-- each tuple has at most `n` members
abbrev pub AreShort : ℕ → List Tuple → Type 0
AreShort n ts = AllByRecursion (λ t. length t ≤ n) ts
