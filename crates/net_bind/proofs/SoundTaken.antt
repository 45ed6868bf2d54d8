-- What binding accepts of a parameter's data: whole rows of members, at most one default, and no data next to `:=`.
use Rattle.std.specs.Prelude.{◌≡◌, ◌⊎◌, ◌+◌, ◌≤◌, ◌||◌, ◌&&◌, ℕ, Bool, true, false, List, [], ◌∷◌, length, take, slice_get, nat_eq, is_some, Option, None, Some, IfSome, if◌then◌else◌, Ok}
use Rattle.std.specs.List.{AllByRecursion, flat_map, cons_option, zip, list_all}
use Rattle.std.specs.Str.{bytes_eq}
use Rattle.std.proofs.Common.{refl, ap, sym, subst, arith, inl, inr}
use Rattle.std.proofs.lemmas.Bool.{eqb-true}
use Rattle.std.proofs.lemmas.List.{length-take-le}
use Rattle.net_lex.specs.declared.token.Kind.{Kind}
use Rattle.net_lex.specs.declared.token.Kind.TheVariants.{Dot}
use Rattle.net_lex.specs.declared.token.Token.{Token}
use Rattle.net_base.specs.declared.error_code.ErrorCode.TheVariants.{Arity}
use Rattle.net_base.specs.declared.diagnostic.Span.{Span}
use Rattle.net_base.specs.Outcomes.{Outcome, each, rejected_there}
use Rattle.net_data.specs.declared.statement.DefaultValue.{DefaultValue}
use Rattle.net_data.specs.declared.statement.NamedSet.{NamedSet}
use Rattle.net_data.specs.declared.statement.Statement.{Statement}
use Rattle.net_data.specs.declared.statement.Statement.TheVariants.{Set, List as Listed, Table, Columns}
use Rattle.net_data.specs.Meaning.{IsDefault, IsStatement}
use Rattle.net_data.specs.Rows.{DataRow, points, row_of}
use Rattle.net_data.specs.Tests.{is_member, stands_for_member}
use Rattle.net_expr.specs.Worlds.{Name}
use Rattle.net_expr.proofs.Walked.{all_join}
use Rattle.net_bind.specs.declared.given.DataContent.{DataContent}
use Rattle.net_bind.specs.declared.given.DataContent.TheVariants as given
use Rattle.net_bind.specs.declared.given.NamedData.{NamedData}
use Rattle.net_bind.specs.DataByName.{default_word, given_cells, grouped, gridded, named}
use Rattle.net_bind.specs.DataFor.{leader, headed_for, set_for, data_in, data_for}
use Rattle.net_bind.specs.DataValues.{HasValue, HaveValues}
use Rattle.net_bind.specs.Names.{Declared}
use Rattle.net_bind.specs.ParameterValues.{rows_across, rows_given}
use Rattle.net_bind.specs.Rows.{KeyedParameter, named_as, Taken, All, pair_of, has_two, shaped, with_rows, taken, either, with_statement}
use Rattle.net_bind.specs.SetData.{begins_at, without_points, whole_group, whole_groups, cut, leading_size, agrees, doubled}
use Rattle.net_bind.proofs.RowsTaken.{then_ok, is_ok}
use Rattle.net_bind.proofs.SoundGroups.{IsWholeFor, shape_whole}
use Rattle.net_bind.proofs.SoundRows.{IsMember, all_flat, all_take, all_at, all_cut, given_of, defaults_of}

-- ---- the tokens of the data

-- the columns of a table are members, and numerals have values
abbrev pub HasMembers : DataContent → Type 0
HasMembers (given.Members ts) = Unit {0}
HasMembers (given.Groups g) = AllByRecursion HasValue g.cells
HasMembers (given.Grid g) = AllByRecursion IsMember g.columns × AllByRecursion HasValue g.cells

abbrev pub AreMembers : NamedData → Type 0
AreMembers m = HasMembers m.given × IfSome m.default IsMember

no_point : (t : Token) → is_member t ≡ true → points t.kind ≡ false
no_point t h = go t.kind h
  where
    go : (k : Kind) → stands_for_member k ≡ true → points k ≡ false
    go Dot e = cc
    go _ e = refl

all_members : (ts : List Token) → list_all is_member ts ≡ true → AllByRecursion HasValue ts → AllByRecursion IsMember ts
all_members [] h k = tt
all_members (t ∷ ts) h k = go (is_member t) refl h (all_members ts)
  where
    go : (b : Bool) → is_member t ≡ b → (b && list_all is_member ts) ≡ true → (list_all is_member ts ≡ true → AllByRecursion HasValue ts → AllByRecursion IsMember ts) → AllByRecursion IsMember (t ∷ ts)
    go true e f more = ((no_point t e, k.0), more f k.1)
    go false e f more = cc

default_member : (d : Option DefaultValue) → IfSome d IsDefault → IfSome d (λ x. HasValue x.value) → IfSome (default_word d) IsMember
default_member None h k = tt
default_member (Some d) h k = (no_point d.value h.value, k)

if_member : (b : Bool) (m : NamedData) → AreMembers m → AllByRecursion AreMembers (if b then m ∷ [] else [])
if_member true m h = (h, tt)
if_member false m h = tt

headed_members : (l values : ℕ) (cells : List Token) (place : ℕ) (n : Name) (ts : List Token) → AllByRecursion HasValue cells → AllByRecursion AreMembers (headed_for l values cells place n ts)
headed_members l values cells place n [] h = tt
headed_members l values cells place n (t ∷ ts) h =
    all_join AreMembers (if bytes_eq t.text n then named t None (grouped l values place cells) ∷ [] else []) (headed_for l values cells (place + 1) n ts)
    (if_member (bytes_eq t.text n) (named t None (grouped l values place cells)) (h, tt)) (headed_members l values cells (place + 1) n ts h)

set_members : (l values : ℕ) (cells : List Token) (n : Name) (s : Option NamedSet) → AllByRecursion HasValue cells → AllByRecursion AreMembers (set_for l values cells n s)
set_members l values cells n None h = tt
set_members l values cells n (Some s) h = if_member (bytes_eq s.name.text n) (named s.name None (grouped l values 0 cells)) (h, tt)

statement_members : (ds : Declared) (i : ℕ) (n : Name) (s : Statement) → IsStatement s → HaveValues s → AllByRecursion AreMembers (data_in ds i n s)
statement_members ds i n (Set s) h k = if_member (bytes_eq s.name.text n) (named s.name None (given.Members s.items)) (tt, tt)
statement_members ds i n (Listed l) h k =
    if_member (bytes_eq l.name.text n) (named l.name (default_word l.default) (grouped i 1 0 (given_cells l.given))) (k.1, default_member l.default h.default k.0)
statement_members ds i n (Table t) h k =
    if_member (bytes_eq t.name.text n) (named t.name (default_word t.default) (gridded (is_some t.transposed) t.columns t.cells))
    ((all_members t.columns h.heading.columns k.1, k.2), default_member t.default h.heading.default k.0)
statement_members ds i n (Columns c) h k =
    all_join AreMembers (set_for (leader ds c) (length c.names) c.cells n c.set) (headed_for (leader ds c) (length c.names) c.cells 0 n c.names)
    (set_members (leader ds c) (length c.names) c.cells n c.set k) (headed_members (leader ds c) (length c.names) c.cells 0 n c.names k)

pub data_members : (ds : Declared) (i : ℕ) (n : Name) (ss : List Statement) → AllByRecursion IsStatement ss → AllByRecursion HaveValues ss → AllByRecursion AreMembers (data_for ds i n ss)
data_members ds i n [] h k = tt
data_members ds i n (s ∷ ss) h k = all_join AreMembers (data_in ds i n s) (data_for ds i n ss) (statement_members ds i n s h.0 k.0) (data_members ds i n ss h.1 k.1)

pub default_members : (ms : List NamedData) → AllByRecursion AreMembers ms → AllByRecursion IsMember (defaults_of ms)
default_members [] h = tt
default_members (m ∷ ms) h = go m.default h.0.1 (default_members ms h.1)
  where
    go : (d : Option Token) → IfSome d IsMember → AllByRecursion IsMember (defaults_of ms) → AllByRecursion IsMember (cons_option d (defaults_of ms))
    go None k more = more
    go (Some t) k more = (k, more)

-- ---- rows that have this number of members, and a value

pub record IsWhole (size : ℕ) (r : DataRow) : Type 0 where
  pub long : length r.keys ≡ size
  pub members : AllByRecursion IsMember r.keys
  pub value : IsMember r.value

cell_whole : (size : ℕ) (key : List Token) (v : Option Token) → length key ≡ size → AllByRecursion IsMember key → ((x : Token) → v ≡ Some x → HasValue x) → AllByRecursion (IsWhole size) (row_of key v)
cell_whole size key None l h k = tt
cell_whole size key (Some x) l h k = go (points x.kind) refl
  where
    row : DataRow
    row = record { keys = key; value = x }

    go : (b : Bool) → points x.kind ≡ b → AllByRecursion (IsWhole size) (if b then [] else row ∷ [])
    go true e = tt
    go false e = (record { long = l; members = h; value = (e, k x refl) }, tt)

no_points : (ts : List Token) (u : Unit {0}) → without_points ts ≡ Ok u → AllByRecursion HasValue ts → AllByRecursion IsMember ts
no_points [] u e h = tt
no_points (t ∷ ts) u e h = go (points t.kind) refl e (no_points ts u)
  where
    go : (b : Bool) → points t.kind ≡ b → (if b then rejected_there Arity t.span else without_points ts) ≡ Ok u → (without_points ts ≡ Ok u → AllByRecursion HasValue ts → AllByRecursion IsMember ts) → AllByRecursion IsMember (t ∷ ts)
    go true f i more = cc
    go false f i more = ((f, h.0), more i h.1)

-- a group that is accepted, and its key
record IsGroup (keys size : ℕ) (g : List Token) : Type 0 where
  pub long : length g ≡ size
  pub members : AllByRecursion IsMember (take keys g)

group_is : (at : Span) (keys size : ℕ) (g : List Token) (u : Unit {0}) → whole_group at keys size g ≡ Ok u → AllByRecursion HasValue g → IsGroup keys size g
group_is at keys size g u e h = go (nat_eq (length g) size) refl e
  where
    go : (b : Bool) → nat_eq (length g) size ≡ b → (if b then without_points (take keys g) else rejected_there Arity (begins_at at g)) ≡ Ok u → IsGroup keys size g
    go true f k = record { long = eqb-true (length g) size f; members = no_points (take keys g) u k (all_take HasValue keys g h) }
    go false f k = cc

groups_are : (at : Span) (keys size : ℕ) (gs : List (List Token)) (u : Unit {0}) → whole_groups at keys size gs ≡ Ok u → AllByRecursion (λ g. AllByRecursion HasValue g) gs → AllByRecursion (λ g. IsGroup keys size g × AllByRecursion HasValue g) gs
groups_are at keys size [] u e h = tt
groups_are at keys size (g ∷ gs) u e h =
    then_ok (whole_group at keys size g) (λ v. whole_groups at keys size gs) u e (λ v i k. ((group_is at keys size g v i h.0, h.0), groups_are at keys size gs u k h.1))

group_whole : (size values place : ℕ) (g : List Token) → IsGroup size (size + values) g × AllByRecursion HasValue g → AllByRecursion (IsWhole size) (row_of (take size g) (slice_get g (size + place)))
group_whole size values place g h =
    let long = h.0.long in
    cell_whole size (take size g) (slice_get g (size + place)) (length-take-le size g (omega (arith, long))) h.0.members (λ x e. all_at HasValue g (size + place) x h.1 e)

pair_members : (turned : Bool) (row c : Token) → IsMember row → IsMember c → (length (pair_of turned row c) ≡ 2) × AllByRecursion IsMember (pair_of turned row c)
pair_members false row c h k = (refl, (h, (k, tt)))
pair_members true row c h k = (refl, (k, (h, tt)))

across_whole : (turned : Bool) (row : Token) → IsMember row → (cs cells : List Token) → AllByRecursion IsMember cs → AllByRecursion HasValue cells
    → AllByRecursion (IsWhole 2) (flat_map (λ pair. row_of (pair_of turned row pair.0) (Some pair.1)) (zip cs cells))
across_whole turned row m [] cells h k = tt
across_whole turned row m (c ∷ cs) [] h k = tt
across_whole turned row m (c ∷ cs) (x ∷ cells) h k =
    let pair = pair_members turned row c m h.0 in
    all_join (IsWhole 2) (row_of (pair_of turned row c) (Some x)) (flat_map (λ pair. row_of (pair_of turned row pair.0) (Some pair.1)) (zip cs cells))
    (cell_whole 2 (pair_of turned row c) (Some x) pair.0 pair.1 (λ y e. subst HasValue (let q : x ≡ y = some_is x y e in q) k.0)) (across_whole turned row m cs cells h.1 k.1)
  where
    some_is : (a b : Token) → Some a ≡ Some b → a ≡ b
    some_is a b e = cc

line_whole : (turned : Bool) (columns line : List Token) → AllByRecursion IsMember columns → IsGroup 1 (1 + length columns) line × AllByRecursion HasValue line → AllByRecursion (IsWhole 2) (rows_across turned columns line)
line_whole turned columns [] c h = tt
line_whole turned columns (row ∷ cells) c h = across_whole turned row h.0.members.0 columns cells c h.1.1

two : (word : Token) (n : ℕ) (u : Unit {0}) → has_two word n ≡ Ok u → n ≡ 2
two word n u e = go (nat_eq n 2) refl e
  where
    go : (b : Bool) → nat_eq n 2 ≡ b → (let o : Outcome (Unit {0}) = if b then Ok tt else rejected_there Arity word.span in o) ≡ Ok u → n ≡ 2
    go true f k = eqb-true n 2 f
    go false f k = cc

pub rows_whole : (widths : List ℕ) (size : ℕ) (word : Token) (g : DataContent) (u : Unit {0}) → shaped widths size word g ≡ Ok u → HasMembers g → AllByRecursion (IsWhole size) (rows_given size g)
rows_whole widths size word (given.Members ts) u e h = tt
rows_whole widths size word (given.Groups g) u e h =
    then_ok (agrees word (leading_size widths g.leader size) size) (λ v. whole_groups word.span size (size + g.values) (cut (size + g.values) g.cells)) u e (λ v i k.
    all_flat (λ x. IsGroup size (size + g.values) x × AllByRecursion HasValue x) (IsWhole size) (λ group. row_of (take size group) (slice_get group (size + g.place))) (group_whole size g.values g.place) (cut (size + g.values) g.cells)
    (groups_are word.span size (size + g.values) (cut (size + g.values) g.cells) u k (all_cut HasValue (size + g.values) g.cells h)))
rows_whole widths size word (given.Grid g) u e h =
    then_ok (has_two word size) (λ v. whole_groups word.span 1 (1 + length g.columns) (cut (1 + length g.columns) g.cells)) u e (λ v i k.
    subst (λ n. AllByRecursion (IsWhole n) (rows_given n (given.Grid g))) (sym (two word size v i))
    (all_flat (λ x. IsGroup 1 (1 + length g.columns) x × AllByRecursion HasValue x) (IsWhole 2) (rows_across g.transposed g.columns) (λ x q. line_whole g.transposed g.columns x h.0 q) (cut (1 + length g.columns) g.cells)
    (groups_are word.span 1 (1 + length g.columns) (cut (1 + length g.columns) g.cells) u k (all_cut HasValue (1 + length g.columns) g.cells h.1))))

-- ---- what is accepted of the statements

-- a statement that is accepted
record IsAccepted (widths : List ℕ) (size : ℕ) (a : Bool) (m : NamedData) (all more : All) : Type 0 where
  pub given : Unit {0}
  pub shape : shaped widths size m.word m.given ≡ Ok given
  pub once : (a || (is_some m.default && is_some all.1)) ≡ false
  pub default : more.1 ≡ either all.1 m.default

statement_accepted : (widths : List ℕ) (p : KeyedParameter) (size : ℕ) (a : Bool) (m : NamedData) (all more : All) → with_statement widths p size a m all ≡ Ok more → IsAccepted widths size a m all more
statement_accepted widths p size a m all more e =
    then_ok (taken widths (named_as m.word p) size m.given (a || (is_some m.default && is_some all.1)) all.0) (λ t. Ok (t, either all.1 m.default)) more e (λ t i k.
    then_ok (shaped widths size m.word m.given) (λ u. if a || (is_some m.default && is_some all.1) then doubled m.word else with_rows (named_as m.word p) size m.given all.0) t i (λ u j l.
    record { given = u; shape = j; once = once t (a || (is_some m.default && is_some all.1)) l; default = ap (λ (z : All). z.1) (sym (is_ok (t, either all.1 m.default) more k)) }))
  where
    once : (t : Taken) (b : Bool) → (if b then doubled m.word else with_rows (named_as m.word p) size m.given all.0) ≡ Ok t → b ≡ false
    once t true i = cc
    once t false i = refl

-- 1 if there is one
abbrev counted : Option Token → ℕ
counted None = 0
counted (Some t) = 1

pub record AreAccepted (size : ℕ) (a : Bool) (before : Option Token) (ms : List NamedData) : Type 0 where
  pub whole : AllByRecursion (IsWholeFor size) ms
  pub rows : AllByRecursion (IsWhole size) (flat_map (given_of size) ms)
  pub assigned : (a ≡ false) ⊎ (ms ≡ [])
  pub defaults : length (defaults_of ms) + counted before ≤ 1

no_first : (a b : Bool) → (a || b) ≡ false → a ≡ false
no_first true b e = e
no_first false b e = refl

no_second : (a b c : Bool) → (a || (b && c)) ≡ false → b ≡ true → c ≡ false
no_second true b c e f = cc
no_second false true c e f = e
no_second false false c e f = cc

one_default : (d before : Option Token) (ts : List Token) (a : Bool) → (a || (is_some d && is_some before)) ≡ false → length ts + counted (either before d) ≤ 1 → length (cons_option d ts) + counted before ≤ 1
one_default None None ts a e h = h
one_default None (Some b) ts a e h = h
one_default (Some d) None ts a e h = omega (arith, h)
one_default (Some d) (Some b) ts a e h = let not_so = no_second a true true e refl in cc

pub are_accepted : (widths : List ℕ) (p : KeyedParameter) (size : ℕ) (a : Bool) (ms : List NamedData) (all more : All) → AllByRecursion AreMembers ms → each (with_statement widths p size a) ms all ≡ Ok more → AreAccepted size a all.1 ms
are_accepted widths p size a [] all more h e = record { whole = tt; rows = tt; assigned = inr refl; defaults = one all.1 }
  where
    one : (o : Option Token) → 0 + counted o ≤ 1
    one None = omega arith
    one (Some t) = omega arith
are_accepted widths p size a (m ∷ ms) all more h e =
    then_ok (with_statement widths p size a m all) (each (with_statement widths p size a) ms) more e (λ next i k.
    let first = statement_accepted widths p size a m all next i in
    let rest = are_accepted widths p size a ms next more h.1 k in
    record {
      whole = (shape_whole widths size m first.given first.shape, rest.whole);
      rows = all_join (IsWhole size) (given_of size m) (flat_map (given_of size) ms) (rows_whole widths size m.word m.given first.given first.shape h.0.0) rest.rows;
      assigned = inl (no_first a (is_some m.default && is_some all.1) first.once);
      defaults = one_default m.default all.1 (defaults_of ms) a first.once (subst (λ o. length (defaults_of ms) + counted o ≤ 1) first.default rest.defaults);
    })
