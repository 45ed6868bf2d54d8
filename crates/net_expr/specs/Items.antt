-- The form of items in an indexing expression.
use Rattle.std.specs.Prelude.{ℕ, ◌+◌, Bool, true, false, ◌&&◌, ◌||◌, List, nat_le, Option, None, Some, is_some, if◌then◌else◌, Ok}
use Rattle.net_base.specs.declared.diagnostic.Span.{Span}
use Rattle.net_sets.specs.Limits.{arity_limit}
use Rattle.net_sets.specs.Sets.{Tuple}
use Rattle.net_tree.specs.Tree.{Tree, Links, Part, leaf, tuple, none, link, absent, part}
use Rattle.net_base.specs.declared.error_code.ErrorCode.TheVariants.{KindMismatch, Arity}
use Rattle.net_expr.specs.declared.value.Value.{Value}
use Rattle.net_expr.specs.declared.value.Value.TheVariants.{Many}
use Rattle.net_base.specs.Outcomes.{Outcome, and_then, rejected}
pub use Rattle.net_tree.specs.Items.{is_in, after_in, both, sides}
use Rattle.net_tree.specs.Items.{single_name}
use Rattle.net_tree.specs.Operations.{operation, is_range}
use Rattle.net_lex.specs.declared.token.Token.{Token}
use Rattle.net_expr.specs.Sets.{fits}
use Rattle.net_expr.specs.Worlds.{Name, World, Scope, is_known}

abbrev pub has_in : Tree → Bool
has_in x = is_some (sides x)

abbrev pub any_in : Links → Bool
any_in none = false
any_in (link o x l) = has_in x || any_in l

-- a chain that is a range begins with `..`
abbrev pub begins_range : Links → Bool
begins_range none = false
begins_range (link o y l) = is_range (operation o)

abbrev pub has_part : Part → Bool
has_part absent = false
has_part (part m x) = true

abbrev pub text_of : Option Token → Option Name
text_of None = None
text_of (Some t) = Some t.text

-- the text of a simple name
abbrev pub bare : Tree → Option Name
bare x = text_of (single_name x)

abbrev pub unless_known : World → Scope → Option Name → Option Name
unless_known w s None = None
unless_known w s (Some name) = if is_known w s name then None else Some name

-- the name of a new dummy: a simple name that is not declared
abbrev pub new_dummy : World → Scope → Tree → Option Name
new_dummy w s x = unless_known w s (bare x)

abbrev pub size : Links → ℕ
size none = 0
size (link o x l) = 1 + size l

-- the number of members that the tuples of an item's set must have, if its left side determines it
-- by its form
abbrev pub needed : Tree → Option ℕ
needed (tuple o x l c) = Some (1 + size l)
needed (leaf t) = Some 1
needed _ = None

abbrev pub fits_needed : Option ℕ → Option ℕ → Bool
fits_needed d None = true
fits_needed d (Some n) = fits d n && nat_le n arity_limit

-- the tuples of the set after `in`
abbrev pub chosen : Span → Option ℕ → Value → Outcome (List Tuple)
chosen at n (Many d ts) = if fits_needed d n then Ok ts else rejected Arity at
chosen at n _ = rejected KindMismatch at

-- the value as a set, with the dimension of its tuples
abbrev pub set_in : Value → Option (Option ℕ × List Tuple)
set_in (Many d ts) = Some (d, ts)
set_in _ = None

-- the tuples of an item that is a set
abbrev pub tuples_of : Span → Value → Outcome (List Tuple)
tuples_of at (Many d ts) = Ok ts
tuples_of at _ = rejected KindMismatch at

abbrev pub is_set : Value → Bool
is_set (Many d ts) = true
is_set _ = false

-- what the first item in braces starts: an iteration over tuples, or a list of values
pub data Opening : Type 0 where
  walking : List Tuple → Opening
  listing : Value → Opening

-- braces without `in` are an indexing expression if their first item is a set
abbrev pub opened : Span → Bool → Value → Outcome Opening
opened at indexing v = if indexing || is_set v then and_then (tuples_of at v) (λ ts. Ok (walking ts)) else Ok (listing v)

abbrev pub open_with : {A : Type 0} → (List Tuple → Outcome A) → (Value → Outcome A) → Opening → Outcome A
open_with walk list (walking ts) = walk ts
open_with walk list (listing v) = list v
