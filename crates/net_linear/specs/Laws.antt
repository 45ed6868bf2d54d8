-- Theorems about objectives.
use Rattle.std.specs.Prelude.{◌≡◌, ℕ, ℤ, Ok}
use Rattle.net_tree.specs.Tree.{Tree}
use Rattle.net_expr.specs.Worlds.{World, Scope}
use Rattle.net_linear.specs.Arcs.{Arcs}
use Rattle.net_linear.specs.Forms.{Linear, form_at}
use Rattle.net_linear.specs.Objectives.{objective_form}
use Rattle.net_linear.specs.ObjectiveValues.{value_of_tree}

-- at each assignment, the value of an objective's linear form is the value of its expression
abbrev pub HaveValue : Type 0
HaveValue = (a : Arcs) (w : World) (s : Scope) (t : Tree) (f : Linear) → objective_form a w s t ≡ Ok f → (x : ℕ → ℤ) → form_at x f ≡ value_of_tree a w s t x
