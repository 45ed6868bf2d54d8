-- Iteration over an indexing expression: its state, and the keys that it produces.
use Rattle.std.specs.Prelude.{ℕ, Bool, true, false, List, [], ◌∷◌, ◌++◌, length, map, nat_eq, nat_le, nat_lt, Option, None, Some, if◌then◌else◌, Ok, ℤ, pos}
use Rattle.net_base.specs.declared.diagnostic.Span.{Span}
use Rattle.net_sets.specs.declared.member.Member.{Member}
use Rattle.net_sets.specs.declared.member.Member.TheVariants.{Number}
use Rattle.net_sets.specs.Limits.{tuples_limit}
use Rattle.net_sets.specs.Sets.{Tuple, same_member, same_tuple}
use Rattle.net_sets.specs.Operations.{union}
use Rattle.net_base.specs.declared.error_code.ErrorCode.TheVariants.{NoValue, KindMismatch, Arity, TooMany}
use Rattle.net_tree.specs.declared.operator.Reduction.{Reduction}
use Rattle.net_tree.specs.declared.operator.Reduction.TheVariants.{Sum, Min, Max}
use Rattle.net_expr.specs.declared.value.Value.{Value}
use Rattle.net_expr.specs.declared.value.Value.TheVariants.{One, Several, Many}
use Rattle.net_expr.specs.declared.row.PartialRow.{PartialRow}
use Rattle.net_expr.specs.declared.row.Row.{Row}
use Rattle.net_expr.specs.declared.row.Keys.{Keys}
use Rattle.net_base.specs.Outcomes.{Outcome, and_then, rejected}
use Rattle.net_expr.specs.Worlds.{Name, Scope, with_dummy}
use Rattle.net_expr.specs.Operators.{longer}
use Rattle.net_expr.specs.Numbers.{number, sized, gathered}

abbrev pub start : Scope → PartialRow
start s = record { scope = s; key = Some [] }

-- appends a tuple to the key
abbrev pub with_key : Tuple → PartialRow → PartialRow
with_key t p = record { scope = p.scope; key = longer t p.key }

-- binds a new dummy to a member, which is appended to the key
abbrev pub bind : Name → Member → PartialRow → PartialRow
bind name m p = record { scope = with_dummy name m p.scope; key = longer (m ∷ []) p.key }

-- the state is unchanged if the value of a component equals the member
abbrev pub matches_member : Span → Member → PartialRow → Value → Outcome (Option PartialRow)
matches_member at m p (One v) = Ok (if same_member v m then Some p else None)
matches_member at m p _ = rejected KindMismatch at

abbrev pub matches_tuple : Span → Tuple → PartialRow → Tuple → Outcome (Option PartialRow)
matches_tuple at t p v = if nat_eq (length v) (length t) then Ok (if same_tuple v t then Some p else None) else rejected Arity at

-- the same for an expression that is not a tuple by its form
abbrev pub matches_as_tuple : Span → Tuple → PartialRow → Value → Outcome (Option PartialRow)
matches_as_tuple at t p (One v) = matches_tuple at t p (v ∷ [])
matches_as_tuple at t p (Several v) = matches_tuple at t p v
matches_as_tuple at t p _ = rejected KindMismatch at

-- a new dummy is bound to the member; any other component must evaluate to it
abbrev pub match_component : Span → Option Name → Outcome Value → Member → PartialRow → Outcome (Option PartialRow)
match_component at (Some name) own m p = Ok (Some (bind name m p))
match_component at None own m p = and_then own (matches_member at m p)

-- the single member of a tuple
abbrev pub bound_first : Name → Tuple → PartialRow → Outcome (Option PartialRow)
bound_first name [] p = Ok (Some p)
bound_first name (m ∷ ms) p = Ok (Some (bind name m p))

-- the same for a single expression on the left side of `in`
abbrev pub match_whole : Span → Option Name → Outcome Value → Tuple → PartialRow → Outcome (Option PartialRow)
match_whole at (Some name) own t p = bound_first name t p
match_whole at None own t p = and_then own (matches_as_tuple at t p)

abbrev pub if_fits : (PartialRow → Outcome (Option PartialRow)) → Option PartialRow → Outcome (Option PartialRow)
if_fits next None = Ok None
if_fits next (Some p) = next p

abbrev pub go_on : (PartialRow → List Row → Outcome (List Row)) → List Row → Option PartialRow → Outcome (List Row)
go_on next found None = Ok found
go_on next found (Some p) = next p found

-- continues an iteration after one tuple
abbrev pub onward : (Tuple → PartialRow → Outcome (Option PartialRow)) → (PartialRow → List Row → Outcome (List Row)) → PartialRow → Tuple → List Row → Outcome (List Row)
onward place next p t found = and_then (place t p) (go_on next found)

-- keys have the same number of members
abbrev pub same_arity : Tuple → List Row → Bool
same_arity key [] = true
same_arity key (r ∷ rows) = nat_eq (length r.key) (length key)

abbrev pub add_row : Span → Scope → Tuple → List Row → Outcome (List Row)
add_row at s key found =
    if same_arity key found
    then if nat_lt (length found) tuples_limit then Ok (found ++ (record { key = key; scope = s }) ∷ []) else rejected TooMany at
    else rejected Arity at

-- a complete key: at most four members, as many as the keys before, and at most a million keys
abbrev pub finished_key : Span → Scope → Option Tuple → List Row → Outcome (List Row)
finished_key at s None found = rejected Arity at
finished_key at s (Some key) found = add_row at s key found

abbrev pub finished : Span → PartialRow → List Row → Outcome (List Row)
finished at p found = finished_key at p.scope p.key found

abbrev pub keep : Row → List Row → Bool → List Row
keep r found true = found ++ r ∷ []
keep r found false = found

-- the rows that satisfy the condition
abbrev pub filter_rows : (Scope → Outcome Bool) → List Row → List Row → Outcome (List Row)
filter_rows holds [] found = Ok found
filter_rows holds (r ∷ rows) found = and_then (holds r.scope) (λ b. filter_rows holds rows (keep r found b))

-- the number of members of the keys; if there is no key, the number that their form gives
abbrev pub width_of : List Row → Outcome ℕ → Outcome ℕ
width_of [] by_form = by_form
width_of (r ∷ rows) by_form = Ok (length r.key)

abbrev pub keys : ℕ → List Row → Keys
keys n rows = record { width = Some n; rows = rows }

-- the rows that the items produce, filtered by the condition
abbrev pub selected : Outcome ℕ → (Scope → Outcome Bool) → List Row → Outcome Keys
selected by_form holds rows = and_then (width_of rows by_form) (λ n. and_then (filter_rows holds rows []) (λ left. Ok (keys n left)))

-- `{}`
abbrev pub no_keys : Keys
no_keys = record { width = None; rows = [] }

abbrev pub keys_of : List Row → List Tuple
keys_of rows = map (λ r. r.key) rows

-- the keys as a set
abbrev pub as_set : Span → Keys → Outcome Value
as_set at k = if nat_le (length (union [] (keys_of k.rows))) tuples_limit then Ok (Many k.width (union [] (keys_of k.rows))) else rejected TooMany at

abbrev pub rows_of : Scope → List Tuple → List Row
rows_of s ts = map (λ t. record { key = t; scope = s }) ts

-- what braces list: members and tuples
abbrev pub tuple_in : Span → Value → Outcome (Tuple)
tuple_in at (One m) = Ok (m ∷ [])
tuple_in at (Several t) = Ok t
tuple_in at _ = rejected KindMismatch at

abbrev pub tuples_in : Span → List Value → List Tuple → Outcome (List Tuple)
tuples_in at [] found = Ok found
tuples_in at (v ∷ vs) found = and_then (tuple_in at v) (λ t. tuples_in at vs (found ++ t ∷ []))

-- all tuples have n members
abbrev pub all_of : ℕ → List Tuple → Bool
all_of n [] = true
all_of n (t ∷ ts) = if nat_eq (length t) n then all_of n ts else false

abbrev pub keys_within : Span → Scope → ℕ → List Tuple → Outcome Keys
keys_within at s n ts = if nat_le (length ts) tuples_limit then Ok (keys n (rows_of s ts)) else rejected TooMany at

abbrev pub listed_as : Span → Scope → List Tuple → List Tuple → Outcome Keys
listed_as at s [] each_once = Ok no_keys
listed_as at s (t ∷ ts) each_once = if all_of (length t) ts then keys_within at s (length t) each_once else rejected Arity at

-- braces without a condition list tuples of equal length, each once
abbrev pub listed : Span → Scope → Bool → List Value → Outcome Keys
listed at s conditioned vs = and_then (if conditioned then rejected KindMismatch at else tuples_in at vs []) (λ ts. listed_as at s ts (union [] ts))

-- the reduction of the values of `body` over the rows
abbrev pub gathered_over : Span → Reduction → (Scope → Outcome Value) → List Row → Option ℤ → Outcome (Option ℤ)
gathered_over at r body [] so_far = Ok so_far
gathered_over at r body (row ∷ rows) so_far =
    and_then (body row.scope) (λ v. and_then (number at v) (λ n. gathered_over at r body rows (Some (gathered r so_far n))))

-- the value of an empty reduction
abbrev pub nothing_reduced : Span → Reduction → Outcome Value
nothing_reduced at Sum = Ok (One (Number (pos 0)))
nothing_reduced at Min = rejected NoValue at
nothing_reduced at Max = rejected NoValue at

abbrev pub reduced_to : Span → Reduction → Option ℤ → Outcome Value
reduced_to at r None = nothing_reduced at r
reduced_to at r (Some n) = sized at n

abbrev pub reduce : Span → Reduction → (Scope → Outcome Value) → Keys → Outcome Value
reduce at r body k = and_then (gathered_over at r body k.rows None) (reduced_to at r)
