-- How coefficients are stored: those of a run of arcs without the arcs, and others with their arcs.
use Rattle.std.specs.Prelude.{ℕ, ◌+◌, List, [], ◌∷◌, ℤ}
use Rattle.net_linear.specs.Forms.{Products}

-- the coefficients of consecutive arcs, from arc a on
abbrev pub run_from : ℕ → List ℤ → Products
run_from a [] = []
run_from a (c ∷ cs) = (a, c) ∷ run_from (a + 1) cs
