-- The data statements of a set.
use Rattle.std.specs.Prelude.{ℕ, zero, suc, ◌+◌, Bool, ◌||◌, List, [], ◌∷◌, ◌++◌, length, map, take, nat_eq, nat_le, is_some, slice_get, unwrap_or, Option, None, Some, if◌then◌else◌, Ok}
use Rattle.std.specs.List.{fold, flat_map}
use Rattle.net_base.specs.declared.diagnostic.Language.TheVariants.{Data}
use Rattle.net_base.specs.declared.diagnostic.Span.{Span}
use Rattle.net_lex.specs.declared.token.Token.{Token}
use Rattle.net_sets.specs.Limits.{tuples_limit}
use Rattle.net_sets.specs.Sets.{Tuple, has, added}
use Rattle.net_data.specs.Rows.{points, groups, first_item, begins_tuple, more_items}
use Rattle.net_base.specs.declared.diagnostic.Detail.TheVariants.{Reported}
use Rattle.net_base.specs.declared.error_code.ErrorCode.TheVariants.{Arity, TooMany, DoubleValue}
use Rattle.net_bind.specs.declared.given.DataContent.{DataContent}
use Rattle.net_bind.specs.declared.given.DataContent.TheVariants as given
use Rattle.net_bind.specs.declared.given.NamedData.{NamedData}
use Rattle.net_bind.specs.Cells.{tuple_in}
use Rattle.net_base.specs.Outcomes.{Outcome, and_then, each, rejected_as, rejected_there}

-- a tuple of a set, or a single member
pub record Item : Type 0 where
  pub is_tuple : Bool
  pub members : List Token

-- rows of a set, and the single members after them that are not a complete row yet
pub record Rows : Type 0 where
  pub rows : List (List Token)
  pub alone : List Token

-- the items of a set: tuples and single members
abbrev pub items_from : ℕ → List Token → List Item
items_from zero ts = []
items_from (suc n) [] = []
items_from (suc n) (t ∷ ts) = (record { is_tuple = begins_tuple (t ∷ ts); members = unwrap_or (first_item (t ∷ ts)) [] }) ∷ items_from n (more_items (t ∷ ts))

abbrev pub items : List Token → List Item
items ts = items_from (length ts) ts

-- the members of all items
abbrev pub words : List Token → List Token
words ts = flat_map (λ (i : Item). i.members) (items ts)

abbrev pub given_words : DataContent → List Token
given_words (given.Members ts) = words ts
given_words (given.Groups g) = []
given_words (given.Grid g) = []

-- adds the pending single members as a row, if there are any
abbrev pub closed_with : List (List Token) → List Token → List (List Token)
closed_with rows [] = rows
closed_with rows (t ∷ ts) = rows ++ (t ∷ ts) ∷ []

abbrev pub closed : Rows → List (List Token)
closed r = closed_with r.rows r.alone

-- the pending single members are the first of the members after the rows
abbrev pub pending : List (List Token) → ℕ → List Token → Rows
pending rows count left = record { rows = rows; alone = take count left }

abbrev pub item : Bool → List Token → Item
item is_tuple members = record { is_tuple = is_tuple; members = members }

-- the pending single members are a row if they are as many as the dimension
abbrev pub opened : ℕ → List (List Token) → List Token → Rows
opened dimension rows alone =
    if nat_le dimension (length alone) then record { rows = rows ++ alone ∷ []; alone = [] } else record { rows = rows; alone = alone }

-- a tuple is a row; a single member is added to the pending ones
abbrev pub with_item : ℕ → Rows → Item → Rows
with_item dimension r i =
    if i.is_tuple then record { rows = closed r ++ i.members ∷ []; alone = [] } else opened dimension r.rows (r.alone ++ i.members)

-- the rows of a set of this dimension
abbrev pub set_rows : ℕ → List Token → List (List Token)
set_rows dimension ts = closed (fold (with_item dimension) (record { rows = []; alone = [] }) (items ts))

-- the span of the first token of a row
abbrev pub begins_at : Span → List Token → Span
begins_at at [] = at
begins_at at (t ∷ ts) = t.span

-- each row has n members
abbrev pub all_of_size : Span → ℕ → List (List Token) → Outcome (Unit {0})
all_of_size at n [] = Ok tt
all_of_size at n (r ∷ rows) = if nat_eq (length r) n then all_of_size at n rows else rejected_there Arity (begins_at at r)

-- no missing-value dot is a member of a key
abbrev pub without_points : List Token → Outcome (Unit {0})
without_points [] = Ok tt
without_points (t ∷ ts) = if points t.kind then rejected_there Arity t.span else without_points ts

-- a group has the right length, and no missing-value dot in its key
abbrev pub whole_group : Span → (keys size : ℕ) → List Token → Outcome (Unit {0})
whole_group at keys size g = if nat_eq (length g) size then without_points (take keys g) else rejected_there Arity (begins_at at g)

abbrev pub whole_groups : Span → (keys size : ℕ) → List (List Token) → Outcome (Unit {0})
whole_groups at keys size [] = Ok tt
whole_groups at keys size (g ∷ gs) = and_then (whole_group at keys size g) (λ u. whole_groups at keys size gs)

-- cells split into groups
abbrev pub cut : ℕ → List Token → List (List Token)
cut n cells = if nat_eq n 0 then [] else groups n cells

-- the number of members of a key: that of the first declared name of the heading, if it is already
-- evaluated
abbrev pub leading_size : List ℕ → ℕ → ℕ → ℕ
leading_size widths leader own = unwrap_or (slice_get widths leader) own

abbrev pub agrees : Token → ℕ → ℕ → Outcome (Unit {0})
agrees word reported own = if nat_eq reported own then Ok tt else rejected_there Arity word.span

-- the rows of a set of this dimension in a statement; each must have that length
abbrev pub given_rows : List ℕ → ℕ → Token → DataContent → Outcome (List (List Token))
given_rows widths n word (given.Members ts) = and_then (all_of_size word.span n (set_rows n ts)) (λ u. Ok (set_rows n ts))
given_rows widths n word (given.Groups g) =
    and_then (agrees word (leading_size widths g.leader n) n) (λ u.
    and_then (whole_groups word.span n (n + g.values) (cut (n + g.values) g.cells)) (λ v. Ok (map (take n) (cut (n + g.values) g.cells))))
given_rows widths n word (given.Grid g) = Ok []

-- adds a member, which must not be in the set yet
abbrev pub with_member : Token → List Token → List Tuple → Outcome (List Tuple)
with_member word row ts =
    if has ts (tuple_in row) then rejected_as Data DoubleValue (begins_at word.span row) (Reported word.text)
    else if nat_le (length (added ts (tuple_in row))) tuples_limit then Ok (added ts (tuple_in row))
    else rejected_there TooMany (begins_at word.span row)

-- the statement repeats earlier data for a name
abbrev pub doubled : {A : Type 0} → Token → Outcome A
doubled word = rejected_as Data DoubleValue word.span (Reported word.text)

-- a statement with the members of a set, which must not have a value yet
abbrev pub with_statement : List ℕ → ℕ → Bool → NamedData → Option (List Tuple) → Outcome (Option (List Tuple))
with_statement widths n is_assigned m found =
    and_then (given_rows widths n m.word m.given) (λ rows.
    if is_assigned || is_some found then doubled m.word
    else and_then (each (with_member m.word) rows []) (λ ts. Ok (Some ts)))

-- the set in the data statements, if they give one
abbrev pub given_set : List ℕ → ℕ → Bool → List NamedData → Outcome (Option (List Tuple))
given_set widths n is_assigned ms = each (with_statement widths n is_assigned) ms None
