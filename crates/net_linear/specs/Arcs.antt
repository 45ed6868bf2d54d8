-- The declared arcs: what a name with subscripts refers to.
use Rattle.std.specs.Prelude.{ℕ, ◌+◌, Bool, List, [], ◌∷◌, length, nat_eq, Option, None, Some, is_some, if◌then◌else◌, Ok}
use Rattle.net_base.specs.declared.diagnostic.Span.{Span}
use Rattle.net_sets.specs.Names.{named}
use Rattle.net_sets.specs.Sets.{Tuple, place_of}
use Rattle.net_base.specs.declared.diagnostic.Detail.{Detail}
use Rattle.net_base.specs.declared.error_code.ErrorCode.TheVariants.{OutsideSet, Arity, NotLinear}
use Rattle.net_expr.specs.Worlds.{Name, key_count, reference}
use Rattle.net_linear.specs.declared.key_numbers.KeyNumbers.{KeyNumbers}
use Rattle.net_base.specs.Outcomes.{Outcome, rejected, rejected_of}

-- the declarations of arcs in order, each with its name
abbrev pub Arcs : Type 0
Arcs = List (Name × KeyNumbers)

-- the first declaration of a name
abbrev pub declared : Arcs → Name → Option KeyNumbers
declared arcs name = named arcs name

abbrev pub is_arc : Arcs → Name → Bool
is_arc arcs name = is_some (declared arcs name)

-- the number of the arc at this index in its declaration
abbrev pub numbered : Span → Detail → ℕ → Option ℕ → Outcome ℕ
numbered at d first None = rejected_of OutsideSet at d
numbered at d first (Some place) = Ok (first + place)

-- the number of the arc with a name and a key
abbrev pub arc_at : Span → Name → Option KeyNumbers → Tuple → Outcome ℕ
arc_at at name None key = rejected NotLinear at
arc_at at name (Some a) key =
    if nat_eq (length key) (key_count a.count) then numbered at (reference name a.count key) a.first (place_of a.keys key) else rejected Arity at
