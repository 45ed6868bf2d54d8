-- The world of a model and its data: its sets and parameters in order of declaration, each
-- evaluated in the world of those before it, and then its checks.
use Rattle.std.specs.Prelude.{◌≡◌, ℕ, ◌+◌, ◌||◌, Bool, false, List, [], ◌∷◌, ◌++◌, length, map, slice_index_or, take, Option, None, if◌then◌else◌, Ok}
use Rattle.std.specs.Str.{bytes_eq}
use Rattle.net_base.specs.declared.diagnostic.Language.TheVariants.{Model}
use Rattle.net_lex.specs.declared.token.Token.{Token}
use Rattle.net_data.specs.declared.statement.Statement.{Statement}
use Rattle.net_tree.specs.Spans.{span_of}
use Rattle.net_tree.specs.Tree.{Tree, Braces, Declaration, set, param, check, node, arc, objective}
use Rattle.net_base.specs.declared.diagnostic.Detail.TheVariants.{Nothing}
use Rattle.net_expr.specs.declared.row.Row.{Row}
use Rattle.net_expr.specs.declared.world.Entry.{Entry}
use Rattle.net_expr.specs.declared.world.Entry.TheVariants.{Set, Parameter}
use Rattle.net_expr.specs.Operators.{truth}
use Rattle.net_expr.specs.Values.{value}
use Rattle.net_sets.specs.Names.{named}
use Rattle.net_expr.specs.Worlds.{Name, World, key_count}
use Rattle.net_base.specs.declared.error_code.ErrorCode.TheVariants.{CheckFailed}
use Rattle.net_base.specs.Outcomes.{Outcome, and_then, each, rejected_as}
use Rattle.net_bind.specs.declared.given.NamedData.{NamedData}
use Rattle.net_bind.specs.Names.{declared}
use Rattle.net_bind.specs.DataByName.{Sorted, data_by_name}
use Rattle.net_bind.specs.BoundSets.{bound_set}
use Rattle.net_expr.specs.Indexings.{indexing_in}
use Rattle.net_bind.specs.BoundParameters.{bound_parameter}

-- the number of members of a parameter's keys or a set's tuples
abbrev pub width_of : Entry → ℕ
width_of (Set d ts) = d
width_of (Parameter n index t) = key_count n

abbrev pub widths : World → List ℕ
widths w = map (λ (e : Name × Entry). width_of e.1) w

-- the data for the name that is declared next
abbrev pub next_data : Sorted → World → List NamedData
next_data given w = slice_index_or given (length w) []

abbrev pub with_entry : World → Token → Entry → Outcome World
with_entry w n e = Ok (w ++ (n.text, e) ∷ [])

-- adds a declaration
abbrev pub declare : Sorted → Declaration → World → Outcome World
declare given (set k n ps e) w = and_then (bound_set w (widths w) n ps (next_data given w)) (with_entry w n)
declare given (param k n b ps e) w = and_then (bound_parameter w (widths w) n b ps (next_data given w)) (with_entry w n)
declare given (check k b m x e) w = Ok w
declare given (node k n b c e) w = Ok w
declare given (arc k n b ps e) w = Ok w
declare given (objective k n p e) w = Ok w

abbrev pub judged : Tree → Bool → Outcome (Unit {0})
judged x b = if b then Ok tt else rejected_as Model CheckFailed (span_of x) Nothing

-- a condition holds at each key
abbrev pub hold : World → Tree → List Row → Outcome (Unit {0})
hold w x [] = Ok tt
hold w x (r ∷ rows) = and_then (and_then (and_then (value w r.scope x) (truth (span_of x))) (judged x)) (λ u. hold w x rows)

abbrev pub checked : World → Option Braces → Tree → Outcome (Unit {0})
checked w b x = and_then (indexing_in w b) (λ i. hold w x i.rows)

-- the checks, each in the world of the sets and parameters before it
abbrev pub check_one : World → Declaration → ℕ → Outcome ℕ
check_one w (set k n ps e) known = Ok (known + 1)
check_one w (param k n b ps e) known = Ok (known + 1)
check_one w (check k b m x e) known = and_then (checked (take known w) b x) (λ u. Ok known)
check_one w (node k n b c e) known = Ok known
check_one w (arc k n b ps e) known = Ok known
check_one w (objective k n p e) known = Ok known

abbrev pub after_checks : List Declaration → World → Outcome World
after_checks ds w = and_then (each (check_one w) ds 0) (λ known. Ok w)

-- the world, given the data for each name
abbrev pub with_given : List Declaration → Sorted → Outcome World
with_given ds given = and_then (each (declare given) ds []) (after_checks ds)

-- the world of declarations and data statements, or the first error
unfoldable pub world : List Declaration → List Statement → Outcome World
world ds ss = and_then (data_by_name (declared ds) ss) (with_given ds)

abbrev pub is_among : List Name → Name → Bool
is_among [] n = false
is_among (k ∷ known) n = bytes_eq k n || is_among known n

-- each set and parameter has a name that none before it has
abbrev pub AreNew : List Name → List Declaration → Type 0
AreNew known [] = Unit {0}
AreNew known (set k n ps e ∷ ds) = (is_among known n.text ≡ false) × AreNew (n.text ∷ known) ds
AreNew known (param k n b ps e ∷ ds) = (is_among known n.text ≡ false) × AreNew (n.text ∷ known) ds
AreNew known (check k b m x e ∷ ds) = AreNew known ds
AreNew known (node k n b c e ∷ ds) = AreNew known ds
AreNew known (arc k n b ps e ∷ ds) = AreNew known ds
AreNew known (objective k n p e ∷ ds) = AreNew known ds

-- a set or parameter whose name is not declared yet
abbrev pub IsFresh : {T : Type 0} → List (Name × T) → Declaration → Type 0
IsFresh w (set k n ps e) = named w n.text ≡ None
IsFresh w (param k n b ps e) = named w n.text ≡ None
IsFresh w (check k b m x e) = Unit {0}
IsFresh w (node k n b c e) = Unit {0}
IsFresh w (arc k n b ps e) = Unit {0}
IsFresh w (objective k n p e) = Unit {0}
