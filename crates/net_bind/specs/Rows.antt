-- The data statements of a parameter: rows of a key and a value.
use Rattle.std.specs.Prelude.{ℕ, ◌+◌, Bool, true, false, ◌&&◌, ◌||◌, List, [], ◌∷◌, ◌++◌, length, nat_eq, nat_lt, slice_get, take, is_some, Option, None, Some, if◌then◌else◌, Result, Ok, Err, ⊤, ◌≡◌}
use Rattle.net_base.specs.declared.diagnostic.Language.{Language}
use Rattle.net_base.specs.declared.diagnostic.Language.TheVariants.{Data}
use Rattle.net_base.specs.declared.diagnostic.Span.{Span}
use Rattle.net_lex.specs.declared.token.Token.{Token}
use Rattle.net_sets.specs.declared.member.Member.{Member}
use Rattle.net_sets.specs.Limits.{tuples_limit}
use Rattle.net_sets.specs.Sets.{Tuple, has, at_key}
use Rattle.net_data.specs.Rows.{points}
use Rattle.net_tree.specs.Tree.{Phrase}
use Rattle.net_base.specs.declared.diagnostic.Detail.TheVariants.{Nothing}
use Rattle.net_base.specs.declared.error_code.ErrorCode.TheVariants.{Arity, OutsideSet, TooMany, DoubleValue}
use Rattle.net_expr.specs.Worlds.{reference}
use Rattle.net_base.specs.declared.diagnostic.Fault.{Fault}
use Rattle.net_base.specs.declared.diagnostic.Fault.TheVariants.{OutOfMemory, At}
use Rattle.net_bind.specs.declared.given.DataContent.{DataContent}
use Rattle.net_bind.specs.declared.given.DataContent.TheVariants as given
use Rattle.net_bind.specs.declared.given.NamedData.{NamedData}
use Rattle.net_bind.specs.Cells.{member_in, tuple_in}
use Rattle.net_base.specs.Outcomes.{Outcome, and_then, each, rejected_as, rejected_there}
use Rattle.net_bind.specs.SetData.{begins_at, whole_groups, cut, leading_size, agrees, doubled}

-- the values of a parameter with their keys
abbrev pub Table : Type 0
Table = List (Tuple × Member)

-- the values given so far, and the spans of those from data
abbrev pub Taken : Type 0
Taken = Table × List Span

-- a declared parameter: its name, the number of members of its keys (none without indexing), its
-- index set and its phrases
pub record KeyedParameter : Type 0 where
  pub name : Token
  pub keys : Option ℕ
  pub index : List Tuple
  pub phrases : List Phrase

-- a parameter that a statement names
pub record NamedParameter : Type 0 where
  pub word : Token
  pub keys : Option ℕ
  pub index : List Tuple

abbrev pub named_as : Token → KeyedParameter → NamedParameter
named_as word p = record { word = word; keys = p.keys; index = p.index }

-- adds a value, if there are not too many
abbrev pub with_value : Language → Span → Tuple → Member → Table → Outcome Table
with_value text at key m t = if nat_lt (length t) tuples_limit then Ok (t ++ (key, m) ∷ []) else rejected_as text TooMany at Nothing

-- adds a value for a key that begins at a position; it must be in the index set and have no value yet
abbrev pub with_key : NamedParameter → Span → Tuple → Token → Taken → Outcome Taken
with_key p at key value t =
    if is_some (at_key t.0 key) then rejected_as Data DoubleValue at (reference p.word.text p.keys key)
    else if has p.index key then and_then (with_value Data at key (member_in value) t.0) (λ u. Ok (u, t.1 ++ value.span ∷ []))
    else rejected_as Data OutsideSet at (reference p.word.text p.keys key)

-- adds a row
abbrev pub with_row : NamedParameter → List Token → Token → Taken → Outcome Taken
with_row p key value t = with_key p (begins_at value.span key) (tuple_in key) value t

-- adds a cell with a value; a missing-value dot gives none
abbrev pub with_cell : NamedParameter → List Token → Option Token → Taken → Outcome Taken
with_cell p key None t = Ok t
with_cell p key (Some value) t = if points value.kind then Ok t else with_row p key value t

-- adds a group: the members of a key, and values of which one is used
abbrev pub with_group : NamedParameter → (keys place : ℕ) → List Token → Taken → Outcome Taken
with_group p keys place g t = with_cell p (take keys g) (slice_get g (keys + place)) t

abbrev pub pair_of : Bool → Token → Token → List Token
pair_of false row column = row ∷ column ∷ []
pair_of true row column = column ∷ row ∷ []

-- the cells of a row in a table, column by column
abbrev pub across : NamedParameter → Bool → Token → List Token → List Token → Taken → Outcome Taken
across p transposed row [] cells t = Ok t
across p transposed row (c ∷ cs) [] t = Ok t
across p transposed row (c ∷ cs) (cell ∷ cells) t =
    and_then (with_cell p (pair_of transposed row c) (Some cell) t) (across p transposed row cs cells)

-- adds a row of a table: a member, and a cell for each column
abbrev pub with_line : NamedParameter → Bool → List Token → List Token → Taken → Outcome Taken
with_line p transposed columns [] t = Ok t
with_line p transposed columns (row ∷ cells) t = across p transposed row columns cells t

-- a table requires a parameter with two keys
abbrev pub has_two : Token → ℕ → Outcome (Unit {0})
has_two word n = if nat_eq n 2 then Ok tt else rejected_there Arity word.span

-- checks the shape of a statement: the number of its keys, and complete groups
abbrev pub shaped : List ℕ → ℕ → Token → DataContent → Outcome (Unit {0})
shaped widths n word (given.Members ts) = Ok tt
shaped widths n word (given.Groups g) = and_then (agrees word (leading_size widths g.leader n) n) (λ u. whole_groups word.span n (n + g.values) (cut (n + g.values) g.cells))
shaped widths n word (given.Grid g) = and_then (has_two word n) (λ u. whole_groups word.span 1 (1 + length g.columns) (cut (1 + length g.columns) g.cells))

-- adds its rows
abbrev pub with_rows : NamedParameter → ℕ → DataContent → Taken → Outcome Taken
with_rows p size (given.Members ts) t = Ok t
with_rows p size (given.Groups g) t = each (with_group p size g.place) (cut (size + g.values) g.cells) t
with_rows p size (given.Grid g) t = each (with_line p g.transposed g.columns) (cut (1 + length g.columns) g.cells) t

-- checks the shape of a statement, then that it does not repeat earlier data, then adds its rows
abbrev pub taken : List ℕ → NamedParameter → ℕ → DataContent → Bool → Taken → Outcome Taken
taken widths p size g is_doubled t =
    and_then (shaped widths size p.word g) (λ u. if is_doubled then doubled p.word else with_rows p size g t)

-- the first default in the data so far
abbrev pub either : Option Token → Option Token → Option Token
either None later = later
either (Some c) later = Some c

-- the content of all statements of a parameter so far
abbrev pub All : Type 0
All = Taken × Option Token

-- adds a statement: checks its shape, then that there is no `:=` and no second default, then adds
-- its rows
abbrev pub with_statement : List ℕ → KeyedParameter → ℕ → Bool → NamedData → All → Outcome All
with_statement widths p size is_assigned m all =
    and_then (taken widths (named_as m.word p) size m.given (is_assigned || (is_some m.default && is_some all.1)) all.0) (λ t. Ok (t, either all.1 m.default))

-- the code returns the default, and modifies the values in place
abbrev pub Gives : Outcome All → Result (Option Token) Fault → Taken → Type 0
Gives wanted (Ok default) new = wanted ≡ Ok (new, default)
Gives wanted (Err OutOfMemory) new = ⊤
Gives wanted (Err (At r)) new = wanted ≡ Err r
