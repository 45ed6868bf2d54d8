-- The sets and parameters that a model declares, and how data refer to them.
use Rattle.std.specs.Prelude.{ℕ, Bool, true, false, List, [], ◌∷◌, Option, None, Some, if◌then◌else◌, Ok}
use Rattle.net_base.specs.declared.diagnostic.Language.TheVariants.{Data}
use Rattle.net_lex.specs.declared.token.Token.{Token}
use Rattle.net_base.specs.declared.diagnostic.Detail.TheVariants.{Reported}
use Rattle.net_sets.specs.Names.{located}
use Rattle.net_expr.specs.Worlds.{Name}
use Rattle.net_tree.specs.Tree.{Declaration, set, param, check, node, arc, objective}
use Rattle.net_base.specs.declared.error_code.ErrorCode.TheVariants.{NoSuchName}
use Rattle.net_base.specs.Outcomes.{Outcome, rejected_as}

-- the declared names in order, each with whether it is a set
abbrev pub Declared : Type 0
Declared = List (Name × Bool)

abbrev pub declared : List Declaration → Declared
declared [] = []
declared (set w n ps e ∷ ds) = (n.text, true) ∷ declared ds
declared (param w n b ps e ∷ ds) = (n.text, false) ∷ declared ds
declared (check w b m x e ∷ ds) = declared ds
declared (node w n b c e ∷ ds) = declared ds
declared (arc w n b ps e ∷ ds) = declared ds
declared (objective w n p e ∷ ds) = declared ds

-- the index of a set, or of a parameter
abbrev pub as_wanted : Bool → Option (ℕ × Bool) → Option ℕ
as_wanted is_set None = None
as_wanted true (Some p) = if p.1 then Some p.0 else None
as_wanted false (Some p) = if p.1 then None else Some p.0

abbrev pub at_place : Token → Option ℕ → Outcome ℕ
at_place t None = rejected_as Data NoSuchName t.span (Reported t.text)
at_place t (Some i) = Ok i

-- the index of the set or the parameter that a token in the data names
abbrev pub target : Declared → Bool → Token → Outcome ℕ
target ds is_set t = at_place t (as_wanted is_set (located 0 ds t.text))
