-- The members of a set that the data statements give are those of the one statement that names it.
use Rattle.std.specs.Prelude.{◌≡◌, ◌+◌, ◌≤◌, ℕ, zero, suc, Bool, true, false, List, [], ◌∷◌, ◌++◌, length, map, take, nat_le, Option, None, Some, if◌then◌else◌, Ok}
use Rattle.std.specs.List.{AllByRecursion, AllZip, flat_map}
use Rattle.std.specs.Str.{bytes_eq}
use Rattle.std.proofs.Common.{refl, ap, sym, ◌∙◌, subst, arith, append_assoc, append-nil}
use Rattle.std.proofs.lemmas.Grind.{flat_map-append}
use Rattle.std.proofs.lemmas.List.{length-append, length-map, length-take}
use Rattle.net_lex.specs.declared.token.Kind.{Kind}
use Rattle.net_lex.specs.declared.token.Kind.TheVariants.{Name as NameKind, Key, Num, Str, Mark, Dot}
use Rattle.net_lex.specs.declared.token.Token.{Token}
use Rattle.net_data.specs.declared.statement.NamedSet.{NamedSet}
use Rattle.net_data.specs.declared.statement.Statement.{Statement}
use Rattle.net_data.specs.declared.statement.Statement.TheVariants.{Set, List as Listed, Table, Columns}
use Rattle.net_data.specs.Rows as stated
use Rattle.net_data.specs.Rows.{points, groups}
use Rattle.net_sets.specs.Limits.{arity_limit, tuples_limit}
use Rattle.net_sets.specs.Sets.{Tuple, has}
use Rattle.net_expr.specs.Worlds.{Name}
use Rattle.net_tree.proofs.Numerals.{value_is}
use Rattle.net_base.specs.declared.error_code.ErrorCode.TheVariants.{TooMany, DoubleValue}
use Rattle.net_base.specs.declared.diagnostic.Detail.TheVariants.{Reported}
use Rattle.net_base.specs.declared.diagnostic.Language.TheVariants.{Data}
use Rattle.net_base.specs.Outcomes.{Outcome, and_then, each, rejected_as, rejected_there}
use Rattle.net_meaning.specs.World.{IsDataValueOf, IsDataValue, AreDataValues, set_rows_of, is_set_named, count_name, mentions_in, mentions}
use Rattle.net_bind.specs.declared.given.DataContent.{DataContent}
use Rattle.net_bind.specs.declared.given.DataContent.TheVariants as given
use Rattle.net_bind.specs.declared.given.NamedData.{NamedData}
use Rattle.net_bind.specs.Cells.{number_or_name, member_of, member_in, tuple_in}
use Rattle.net_bind.specs.DataByName.{grouped, named}
use Rattle.net_bind.specs.DataFor.{leader, headed_for, set_for, data_in, data_for}
use Rattle.net_bind.specs.DataValues.{HasNumeral, HasValue}
use Rattle.net_bind.specs.Names.{Declared}
use Rattle.net_bind.specs.SetData.{begins_at, with_member, doubled, given_rows, with_statement, given_set}
use Rattle.net_bind.proofs.NamesDeclared.{NamesNoParameter}
use Rattle.net_bind.proofs.RowsTaken.{then_ok, is_ok}

-- ---- the number of statements that name a set

count_is : (first values : ℕ) (cells : List Token) (place : ℕ) (n : Name) (ts : List Token) → count_name n ts ≡ length (headed_for first values cells place n ts)
count_is first values cells place n [] = refl
count_is first values cells place n (t ∷ ts) = go (bytes_eq t.text n) (count_is first values cells (place + 1) n ts)
  where
    go : (b : Bool) → count_name n ts ≡ length (headed_for first values cells (place + 1) n ts)
        → (if b then 1 else 0) + count_name n ts ≡ length ((if b then named t None (grouped first values place cells) ∷ [] else []) ++ headed_for first values cells (place + 1) n ts)
    go true more = omega (arith, more)
    go false more = omega (arith, more)

one_is : (b : Bool) (m : NamedData) → (if b then 1 else 0) + 0 ≡ length (if b then m ∷ [] else [])
one_is true m = refl
one_is false m = refl

set_count : (first values : ℕ) (cells : List Token) (n : Name) (s : Option NamedSet) → (if is_set_named s n then 1 else 0) ≡ length (set_for first values cells n s)
set_count first values cells n None = refl
set_count first values cells n (Some s) = go (bytes_eq s.name.text n)
  where
    go : (b : Bool) → (if b then 1 else 0) ≡ length (if b then named s.name None (grouped first values 0 cells) ∷ [] else [])
    go true = refl
    go false = refl

mentions_in_is : (ds : Declared) (i : ℕ) (n : Name) (s : Statement) → mentions_in n s ≡ length (data_in ds i n s)
mentions_in_is ds i n (Set s) = one_is (bytes_eq s.name.text n) _
mentions_in_is ds i n (Listed l) = one_is (bytes_eq l.name.text n) _
mentions_in_is ds i n (Table t) = one_is (bytes_eq t.name.text n) _
mentions_in_is ds i n (Columns c) =
    let of_set = set_count (leader ds c) (length c.names) c.cells n c.set in
    let of_names = count_is (leader ds c) (length c.names) c.cells 0 n c.names in
    omega (arith, of_set, of_names, length-append (set_for (leader ds c) (length c.names) c.cells n c.set) (headed_for (leader ds c) (length c.names) c.cells 0 n c.names))

pub mentions_are : (ds : Declared) (i : ℕ) (n : Name) (ss : List Statement) → mentions n ss ≡ length (data_for ds i n ss)
mentions_are ds i n [] = refl
mentions_are ds i n (s ∷ ss) = omega (arith, mentions_in_is ds i n s, mentions_are ds i n ss, length-append (data_in ds i n s) (data_for ds i n ss))

-- ---- the rows of the statements

-- the rows of a set in its data
abbrev pub rows_given : ℕ → DataContent → List (List Token)
rows_given d (given.Members ts) = stated.set_rows d ts
rows_given d (given.Groups g) = map (λ group. take d group) (groups (d + g.values) g.cells)
rows_given d (given.Grid g) = []

abbrev pub rows_in : ℕ → NamedData → List (List Token)
rows_in d m = rows_given d m.given

none_headed : (first values : ℕ) (cells : List Token) (place : ℕ) (n : Name) (ts : List Token) → AllByRecursion (λ (t : Token). bytes_eq t.text n ≡ false) ts → headed_for first values cells place n ts ≡ []
none_headed first values cells place n [] h = refl
none_headed first values cells place n (t ∷ ts) h =
    ap (λ (b : Bool). (if b then named t None (grouped first values place cells) ∷ [] else []) ++ headed_for first values cells (place + 1) n ts) h.0 ∙ none_headed first values cells (place + 1) n ts h.1

if_rows : (d : ℕ) (b : Bool) (m : NamedData) → (if b then rows_in d m else []) ≡ flat_map (rows_in d) (if b then m ∷ [] else [])
if_rows d true m = sym (append-nil (rows_in d m))
if_rows d false m = refl

no_rows : (d : ℕ) (b : Bool) (m : NamedData) → b ≡ false → [] ≡ flat_map (rows_in d) (if b then m ∷ [] else [])
no_rows d true m e = cc
no_rows d false m e = refl

set_rows_for : (d first values : ℕ) (cells : List Token) (n : Name) (s : Option NamedSet)
    → (if is_set_named s n then map (λ group. take d group) (groups (d + values) cells) else []) ≡ flat_map (rows_in d) (set_for first values cells n s)
set_rows_for d first values cells n None = refl
set_rows_for d first values cells n (Some s) = if_rows d (bytes_eq s.name.text n) (named s.name None (grouped first values 0 cells))

rows_of_statement : (d : ℕ) (ds : Declared) (i : ℕ) (n : Name) (s : Statement) → NamesNoParameter n s → set_rows_of d n s ≡ flat_map (rows_in d) (data_in ds i n s)
rows_of_statement d ds i n (Set s) h = if_rows d (bytes_eq s.name.text n) (named s.name None (given.Members s.items))
rows_of_statement d ds i n (Listed l) h = no_rows d (bytes_eq l.name.text n) _ h
rows_of_statement d ds i n (Table t) h = no_rows d (bytes_eq t.name.text n) _ h
rows_of_statement d ds i n (Columns c) h =
    set_rows_for d (leader ds c) (length c.names) c.cells n c.set
    ∙ ap (flat_map (rows_in d)) (sym (ap (λ z. set_for (leader ds c) (length c.names) c.cells n c.set ++ z) (none_headed (leader ds c) (length c.names) c.cells 0 n c.names h) ∙ append-nil (set_for (leader ds c) (length c.names) c.cells n c.set)))

pub rows_of_statements : (d : ℕ) (ds : Declared) (i : ℕ) (n : Name) (ss : List Statement) → AllByRecursion (NamesNoParameter n) ss → flat_map (set_rows_of d n) ss ≡ flat_map (rows_in d) (data_for ds i n ss)
rows_of_statements d ds i n [] h = refl
rows_of_statements d ds i n (s ∷ ss) h =
    ap (λ z. z ++ flat_map (set_rows_of d n) ss) (rows_of_statement d ds i n s h.0)
    ∙ ap (λ z. flat_map (rows_in d) (data_in ds i n s) ++ z) (rows_of_statements d ds i n ss h.1)
    ∙ sym (flat_map-append (rows_in d) (data_in ds i n s) (data_for ds i n ss))

-- ---- one statement

none_some : (ts : List Tuple) → None ≡ Some ts → ⊥
none_some ts e = cc

-- a set with `:=` has no data
pub no_data : (widths : List ℕ) (n : ℕ) (ms : List NamedData) (found : Option (List Tuple)) → given_set widths n true ms ≡ Ok found → ms ≡ []
no_data widths n [] found e = refl
no_data widths n (m ∷ ms) found e =
    then_ok (with_statement widths n true m None) (each (with_statement widths n true) ms) found e (λ next f g.
    then_ok (given_rows widths n m.word m.given) (λ rows. doubled m.word) next f (λ rows h k. cc))

-- the data of the one statement that names a set
pub record IsOnly (widths : List ℕ) (n : ℕ) (ms : List NamedData) (ts : List Tuple) : Type 0 where
  pub only : NamedData
  pub is : ms ≡ only ∷ []
  pub rows : List (List Token)
  pub given : given_rows widths n only.word only.given ≡ Ok rows
  pub taken : each (with_member only.word) rows [] ≡ Ok ts

no_more : (widths : List ℕ) (n : ℕ) (ms : List NamedData) (ts us : List Tuple) → each (with_statement widths n false) ms (Some us) ≡ Ok (Some ts) → (ms ≡ []) × (us ≡ ts)
no_more widths n [] ts us e = (refl, is_some_ok us ts e)
  where
    is_some_ok : (us ts : List Tuple) → (let o : Outcome (Option (List Tuple)) = Ok (Some us) in o ≡ Ok (Some ts)) → us ≡ ts
    is_some_ok us ts e = cc
no_more widths n (m ∷ ms) ts us e =
    then_ok (with_statement widths n false m (Some us)) (each (with_statement widths n false) ms) (Some ts) e (λ next f g.
    then_ok (given_rows widths n m.word m.given) (λ rows. doubled m.word) next f (λ rows h k. cc))

pub one_data : (widths : List ℕ) (n : ℕ) (ms : List NamedData) (ts : List Tuple) → given_set widths n false ms ≡ Ok (Some ts) → IsOnly widths n ms ts
one_data widths n [] ts e = cc
one_data widths n (m ∷ ms) ts e =
    then_ok (with_statement widths n false m None) (each (with_statement widths n false) ms) (Some ts) e (λ next f g.
    then_ok (given_rows widths n m.word m.given) (λ rows. and_then (each (with_member m.word) rows []) (λ us. Ok (Some us))) next f (λ rows h k.
    then_ok (each (with_member m.word) rows []) (λ us. Ok (Some us)) next k (λ us p q.
    let (none, same) = no_more widths n ms ts us (ap (each (with_statement widths n false) ms) (is_ok (Some us) next q) ∙ g) in
    record { only = m; is = ap (λ z. m ∷ z) none; rows = rows; given = h; taken = p ∙ ap (λ z. Ok z) same })))

-- ---- the members of rows

member_added : (word : Token) (row : List Token) (ts us : List Tuple) → with_member word row ts ≡ Ok us → us ≡ ts ++ tuple_in row ∷ []
member_added word row ts us e = go (has ts (tuple_in row)) (λ b. nat_le (length (if b then ts else ts ++ tuple_in row ∷ [])) tuples_limit) e
  where
    go : (b : Bool) (c : Bool → Bool)
        → (if b then rejected_as Data DoubleValue (begins_at word.span row) (Reported word.text) else if c b then (let o : Outcome (List Tuple) = Ok (if b then ts else ts ++ tuple_in row ∷ []) in o) else rejected_there TooMany (begins_at word.span row)) ≡ Ok us
        → us ≡ ts ++ tuple_in row ∷ []
    go true c i = cc
    go false c i = by (c false) i
      where
        by : (t : Bool) → (if t then (let o : Outcome (List Tuple) = Ok (ts ++ tuple_in row ∷ []) in o) else rejected_there TooMany (begins_at word.span row)) ≡ Ok us → us ≡ ts ++ tuple_in row ∷ []
        by true k = sym (is_ok (ts ++ tuple_in row ∷ []) us k)
        by false k = cc

pub members_added : (word : Token) (rows : List (List Token)) (ts us : List Tuple) → each (with_member word) rows ts ≡ Ok us → us ≡ ts ++ map tuple_in rows
members_added word [] ts us e = sym (append-nil ts ∙ is_ok ts us e)
members_added word (r ∷ rows) ts us e =
    then_ok (with_member word r ts) (each (with_member word) rows) us e (λ next f g.
    members_added word rows next us g ∙ ap (λ z. z ++ map tuple_in rows) (member_added word r ts next f) ∙ append_assoc ts (tuple_in r ∷ []) (map tuple_in rows))

-- a token that is a member: no dot, and a numeral has a value
pub record IsCell (t : Token) : Type 0 where
  pub solid : points t.kind ≡ false
  pub valued : HasValue t

value_of : (kind : Kind) (text : List ℕ) → points kind ≡ false → HasNumeral kind text → IsDataValueOf kind text (member_of kind text)
value_of NameKind text s h = refl
value_of Key text s h = refl
value_of Num text s (v, is) = (v, is, ap (number_or_name text) (value_is text v is))
value_of Str text s h = refl
value_of Mark text s h = refl
value_of Dot text s h = cc

pub value_in : (t : Token) → IsCell t → IsDataValue t (member_in t)
unfolding member_in
value_in t h = value_of t.kind t.text h.solid h.valued

values_in : (ts : List Token) → AllByRecursion IsCell ts → AreDataValues ts (map member_in ts)
values_in [] h = tt
values_in (t ∷ ts) h = (value_in t h.0, values_in ts h.1)

take_few : (n : ℕ) (ts : List Token) → length ts ≤ n → take n ts ≡ ts
take_few zero [] l = refl
take_few (suc n) [] l = refl
take_few zero (t ∷ ts) l = absurd (omega (arith, l))
take_few (suc n) (t ∷ ts) l = ap (λ z. t ∷ z) (take_few n ts (omega (arith, l)))

pub tuple_values : (ts : List Token) → length ts ≤ arity_limit → AllByRecursion IsCell ts → AreDataValues ts (tuple_in ts)
tuple_values ts l h = subst (λ z. AreDataValues ts (map member_in z)) (sym (take_few arity_limit ts l)) (values_in ts h)

-- the tuples have the dimension, so their rows are not longer than a tuple can be
few_members : (d : ℕ) (row : List Token) → length row ≡ d → length (tuple_in row) ≡ d → length row ≤ arity_limit
few_members d row l k =
    let long : length (tuple_in row) ≡ length (take arity_limit row) = length-map (take arity_limit row) member_in in
    omega (arith, l, k, long, length-take arity_limit row)

pub rows_values : (d : ℕ) (rows : List (List Token)) → AllByRecursion (λ r. length r ≡ d) rows → AllByRecursion (λ t. length t ≡ d) (map tuple_in rows) → AllByRecursion (AllByRecursion IsCell) rows
    → AllZip AreDataValues rows (map tuple_in rows)
rows_values d [] l k h = tt
rows_values d (r ∷ rows) l k h = (tuple_values r (few_members d r l.0 k.0) h.0, rows_values d rows l.1 k.1 h.1)
