-- A key, as far as its subscripts have been evaluated.
use Rattle.std.specs.Prelude.{◌+◌, Bool, true, false, not, ◌||◌, [], ◌∷◌, ◌++◌, length, nat_le, Option, None, Some, if◌then◌else◌, Ok}
use Rattle.net_base.specs.declared.diagnostic.Span.{Span}
use Rattle.net_base.specs.declared.error_code.ErrorCode.TheVariants.{KindMismatch}
use Rattle.net_base.specs.Outcomes.{Outcome, rejected}
use Rattle.net_sets.specs.Limits.{arity_limit}
use Rattle.net_sets.specs.Sets.{Tuple}
use Rattle.net_expr.specs.declared.subscripts.Subscripts.{Subscripts}
use Rattle.net_expr.specs.declared.value.Value.{Value}
use Rattle.net_expr.specs.declared.value.Value.TheVariants.{One}

abbrev pub none_yet : Subscripts
none_yet = record { key = []; too_many = false; unfit = false }

-- whether a key can have one more member
abbrev pub has_room : Tuple → Bool
has_room key = nat_le (length key + 1) arity_limit

-- adds a value
abbrev pub with_value : Value → Subscripts → Subscripts
with_value (One m) f = record { key = if has_room f.key then f.key ++ m ∷ [] else f.key; too_many = f.too_many || not (has_room f.key); unfit = f.unfit }
with_value _ f = record { key = f.key; too_many = f.too_many; unfit = true }

-- the tuple of the members, or none if they are too many; a value that is not a member is an error
-- of the whole
abbrev pub so_far : Span → Subscripts → Outcome (Option Tuple)
so_far at f = if f.unfit then rejected KindMismatch at else Ok (if f.too_many then None else Some f.key)
