-- The results of the set operators.
use Rattle.std.specs.Prelude.{ℕ, ◌&&◌, [], ◌+◌, Bool, true, List, length, nat_eq, nat_le, Option, None, Some, if◌then◌else◌, Ok}
use Rattle.net_base.specs.declared.diagnostic.Span.{Span}
use Rattle.net_sets.specs.Limits.{arity_limit, tuples_limit}
use Rattle.net_sets.specs.Sets.{Tuple, has}
use Rattle.net_sets.specs.Operations.{union, difference, intersection, symmetric_difference, product, widest, is_within}
use Rattle.net_base.specs.declared.error_code.ErrorCode.TheVariants.{Arity, TooMany}
use Rattle.net_tree.specs.declared.operator.BinOp.{BinOp}
use Rattle.net_tree.specs.declared.operator.BinOp.TheVariants as op
use Rattle.net_expr.specs.declared.value.Value.{Value}
use Rattle.net_expr.specs.declared.value.Value.TheVariants.{Many}
use Rattle.net_base.specs.Outcomes.{Outcome, rejected}

-- `{}` counts as one component
abbrev pub counted : Option ℕ → ℕ
counted None = 1
counted (Some d) = d

-- `{}` matches every dimension
abbrev pub fits : Option ℕ → ℕ → Bool
fits None n = true
fits (Some d) n = nat_eq d n

-- the common dimension of two sets, if they have one: `{}` takes that of the other
abbrev pub shared : Option ℕ → Option ℕ → Option ℕ
shared None e = Some (counted e)
shared (Some m) e = if fits e m then Some m else None

-- a set of this dimension, if it is not too large
abbrev pub within_size : Span → ℕ → List Tuple → Outcome Value
within_size at d ts = if nat_le (length ts) tuples_limit then Ok (Many (Some d) ts) else rejected TooMany at

-- the result of two sets of the same dimension
abbrev pub set_of : Span → Option ℕ → List Tuple → Outcome Value
set_of at None ts = rejected Arity at
set_of at (Some d) ts = within_size at d ts

-- the result of `union`, `diff`, `inter` or `symdiff` on two sets
abbrev pub mixed : BinOp → (List Tuple → List Tuple → List Tuple)
mixed op.Union = union
mixed op.Diff = difference
mixed op.Inter = intersection
mixed _ = symmetric_difference

-- each tuple of one set followed by each of another; none can have more than four members
abbrev pub cross : Span → Option ℕ → List Tuple → Option ℕ → List Tuple → Outcome Value
cross at d xs e ys =
    if nat_le (counted d + counted e) arity_limit && nat_le (widest xs + widest ys) arity_limit
    then (if nat_le (length (product xs ys)) tuples_limit then Ok (Many (Some (counted d + counted e)) (union [] (product xs ys))) else rejected TooMany at)
    else rejected Arity at

-- whether a set contains a tuple
abbrev pub membership : Span → Tuple → Option ℕ → List Tuple → Outcome Bool
membership at t d ts = if fits d (length t) then Ok (has ts t) else rejected Arity at

-- whether a set is a subset of another
abbrev pub inclusion : Span → Option ℕ → List Tuple → List Tuple → Outcome Bool
inclusion at None xs ys = rejected Arity at
inclusion at (Some d) xs ys = Ok (is_within xs ys)
