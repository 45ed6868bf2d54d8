-- Bounds on the potentials of a certificate.
use Rattle.std.specs.Prelude.{◌≡◌, ℕ, List, ℤ, ◌*◌, All, vec_len}
use Rattle.net_normal.specs.Limits.{IsSized}
use Rattle.net_normal.specs.declared.problem.Problem.{Problem}
use Rattle.net_check.specs.declared.certificate.Certificate.{Certificate}
use Rattle.net_check.specs.declared.certificate.Certificate.TheVariants.{Optimal, Cut}

-- if the absolute value of each cost is at most `most`, that of each potential is at most 4 * NODES
-- * most
abbrev pub HasSmallPotentials : Problem → Certificate → Type 0
HasSmallPotentials problem (Optimal value flows potentials) = (most : ℕ) → All (λ arc. IsSized most arc.cost) problem.arcs.items → All (IsSized (4 * vec_len problem.supplies * most)) potentials.items
HasSmallPotentials problem (Cut flags side) = Unit {0}

-- an optimal certificate has these potentials
abbrev pub HasPotentials : List ℤ → Certificate → Type 0
HasPotentials expected (Optimal value flows potentials) = potentials.items ≡ expected
HasPotentials expected (Cut flags side) = Unit {0}
