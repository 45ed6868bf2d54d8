-- A declared parameter: its index set, its data, its value at each key, and the restrictions of its
-- phrases.
use Rattle.std.specs.Prelude.{ℕ, Bool, true, false, ◌||◌, List, [], ◌∷◌, length, map, nat_le, slice_get, is_some, Option, None, Some, if◌then◌else◌, Ok}
use Rattle.net_base.specs.declared.diagnostic.Language.{Language}
use Rattle.net_base.specs.declared.diagnostic.Language.TheVariants.{Model, Data}
use Rattle.net_base.specs.declared.diagnostic.Span.{Span}
use Rattle.net_lex.specs.declared.token.Token.{Token}
use Rattle.net_sets.specs.declared.member.Member.{Member}
use Rattle.net_sets.specs.declared.member.Member.TheVariants.{Number, Name}
use Rattle.net_sets.specs.Limits.{tuples_limit}
use Rattle.net_sets.specs.Operations.{union}
use Rattle.net_sets.specs.Sets.{Tuple, at_key, place_of}
use Rattle.net_tree.specs.declared.role.Begins.TheVariants as begins
use Rattle.net_tree.specs.declared.role.Role.{Role}
use Rattle.net_tree.specs.declared.role.Role.TheVariants as roles
use Rattle.net_tree.specs.Role.{role_of}
use Rattle.net_tree.specs.Phrases.{is_becomes, is_default}
use Rattle.net_tree.specs.PhraseValues.{phrase_value}
use Rattle.net_tree.specs.Spans.{span_of, braces_span}
use Rattle.net_tree.specs.Tree.{Tree, Braces, Phrase}
use Rattle.net_base.specs.declared.diagnostic.Detail.TheVariants.{Nothing}
use Rattle.net_base.specs.declared.error_code.ErrorCode.TheVariants.{KindMismatch, TooMany}
use Rattle.net_expr.specs.declared.row.Row.{Row}
use Rattle.net_expr.specs.declared.indexing.Indexing.{Indexing}
use Rattle.net_expr.specs.declared.world.Entry.{Entry}
use Rattle.net_expr.specs.declared.world.Entry.TheVariants.{Parameter}
use Rattle.net_expr.specs.Operators.{member}
use Rattle.net_expr.specs.Rows.{keys_of}
use Rattle.net_expr.specs.Indexings.{indexing_in}
use Rattle.net_expr.specs.Values.{value}
use Rattle.net_expr.specs.Worlds.{World, Scope, key_count, reference}
use Rattle.net_bind.specs.declared.given.NamedData.{NamedData}
use Rattle.net_bind.specs.Cells.{member_in}
use Rattle.net_base.specs.Outcomes.{Outcome, and_then, each, rejected, rejected_as}
use Rattle.net_bind.specs.Restrictions.{restricted}
use Rattle.net_bind.specs.Rows.{KeyedParameter, Table, Taken, All, with_value, with_statement}

abbrev pub is_symbolic : Role → Bool
is_symbolic (roles.Phrase begins.Symbolic) = true
is_symbolic _ = false

-- whether strings are allowed as values
abbrev pub takes_texts : List Phrase → Bool
takes_texts [] = false
takes_texts (p ∷ ps) = is_symbolic (role_of p.word) || takes_texts ps

abbrev pub span_or : Span → Option Braces → Span
span_or at None = at
span_or at (Some b) = braces_span b

-- the index set: the distinct keys
abbrev pub index_list : Span → List Row → Outcome (List Tuple)
index_list at rows = if nat_le (length (union [] (keys_of rows))) tuples_limit then Ok (union [] (keys_of rows)) else rejected TooMany at

-- the source of values that are missing in the data: `:=`, else the data's default, else `default`
abbrev pub Source : Type 0
Source = Option Tree × Option Token

abbrev pub source : Option Tree → Option Token → Option Tree → Source
source (Some x) c y = (Some x, None)
source None (Some c) y = (None, Some c)
source None None y = (y, None)

-- the file and the span of the source
abbrev pub source_text : Option Token → Language
source_text None = Model
source_text (Some c) = Data

abbrev pub place_in : Span → Option Tree → Option Token → Span
place_in at (Some x) c = span_of x
place_in at None (Some c) = c.span
place_in at None None = at

abbrev pub source_at : Span → Source → Span
source_at at x = place_in at x.0 x.1

abbrev pub some : Member → Outcome (Option Member)
some m = Ok (Some m)

abbrev pub member_by : World → Scope → Option Tree → Option Token → Outcome (Option Member)
member_by w s (Some x) c = and_then (and_then (value w s x) (member (span_of x))) some
member_by w s None (Some c) = Ok (Some (member_in c))
member_by w s None None = Ok None

abbrev pub from_source : World → Scope → Source → Outcome (Option Member)
from_source w s x = member_by w s x.0 x.1

abbrev pub insert_value : Language → Span → Tuple → Option Member → Table → Outcome Table
insert_value text at key None t = Ok t
insert_value text at key (Some m) t = with_value text at key m t

-- a key without a value gets one from the source
abbrev pub with_key : World → Span → Source → Row → Table → Outcome Table
with_key w at x r t =
    if is_some (at_key t r.key) then Ok t else and_then (from_source w r.scope x) (λ m. insert_value (source_text x.1) (source_at at x) r.key m t)

abbrev pub is_number : Member → Bool
is_number (Number n) = true
is_number (Name t) = false

-- the span of the cell that gave a key its value, if any
abbrev pub cell_of : List Span → Option ℕ → Option Span
cell_of cells None = None
cell_of cells (Some i) = slice_get cells i

abbrev pub no_text : Language → Span → Option Span → Outcome (Unit {0})
no_text text at None = rejected_as text KindMismatch at Nothing
no_text text at (Some cell) = rejected_as Data KindMismatch cell Nothing

-- a string is only allowed for a symbolic parameter; the error is at the cell that gave it, or else
-- at the source
abbrev pub fit_kind : Bool → Language → Span → Option Span → Member → Outcome (Unit {0})
fit_kind texts text at cell m = if texts || is_number m then Ok tt else no_text text at cell

abbrev pub keys_with : Table → List Tuple
keys_with t = map (λ (e : Tuple × Member). e.0) t

-- values with their origins: first those from these cells of the data, row by row, then those from
-- the source in this file and at this span
pub record PlacedValues : Type 0 where
  pub table : Table
  pub cells : List Span
  pub text : Language
  pub at : Span

abbrev pub fit_value : World → KeyedParameter → PlacedValues → Row → Option Member → Outcome (Unit {0})
fit_value w p v r None = Ok tt
fit_value w p v r (Some m) =
    and_then (fit_kind (takes_texts p.phrases) v.text v.at (cell_of v.cells (place_of (keys_with v.table) r.key)) m) (λ u.
    restricted w r.scope (reference p.name.text p.keys r.key) m p.phrases)

abbrev pub fit_row : World → KeyedParameter → PlacedValues → Row → Outcome (Unit {0})
fit_row w p v r = fit_value w p v r (at_key v.table r.key)

-- checks each value, in the order of the index set
abbrev pub fit_values : World → KeyedParameter → PlacedValues → List Row → Outcome (Unit {0})
fit_values w p v [] = Ok tt
fit_values w p v (r ∷ rows) = and_then (fit_row w p v r) (λ u. fit_values w p v rows)

abbrev pub untaken : All
untaken = (([], []), None)

-- the content of all statements, in order
abbrev pub data_of : List ℕ → KeyedParameter → Bool → List NamedData → Outcome All
data_of widths p is_assigned ms = each (with_statement widths p (key_count p.keys) is_assigned) ms untaken

-- the values of a table after the data and the source were read
abbrev pub placed : KeyedParameter → Source → Taken → Table → PlacedValues
placed p x taken t = record { table = t; cells = taken.1; text = source_text x.1; at = source_at p.name.span x }

-- fills in missing values, then checks all values
abbrev pub valued_by : World → KeyedParameter → Source → List Row → Taken → Table → Outcome Table
valued_by w p x rows taken t = and_then (fit_values w p (placed p x taken t) rows) (λ u. Ok t)

abbrev pub values : World → KeyedParameter → Source → List Row → Taken → Outcome Table
values w p x rows taken = and_then (each (with_key w p.name.span x) rows taken.0) (valued_by w p x rows taken)

-- the source of a parameter with this default in the data
abbrev pub source_in : KeyedParameter → Option Token → Source
source_in p default = source (phrase_value is_becomes p.phrases) default (phrase_value is_default p.phrases)

-- the table: the values from the data, then the missing values
abbrev pub fill_table : World → List ℕ → KeyedParameter → List NamedData → List Row → Outcome Table
fill_table w widths p ms rows =
    and_then (data_of widths p (is_some (phrase_value is_becomes p.phrases)) ms) (λ all. values w p (source_in p all.1) rows all.0)

abbrev pub with_data : World → List ℕ → KeyedParameter → List NamedData → List Row → Outcome Entry
with_data w widths p ms rows = and_then (fill_table w widths p ms rows) (λ t. Ok (Parameter p.keys p.index t))

abbrev pub keyed : Token → List Phrase → Indexing → List Tuple → KeyedParameter
keyed name ps i index = record { name = name; keys = i.count; index = index; phrases = ps }

abbrev pub bound_parameter : World → List ℕ → Token → Option Braces → List Phrase → List NamedData → Outcome Entry
bound_parameter w widths name b ps ms =
    and_then (indexing_in w b) (λ i. and_then (index_list (span_or name.span b) i.rows) (λ index. with_data w widths (keyed name ps i index) ms i.rows))
