-- The rows, defaults and mentions that binding reads for a name are those of the data statements, and their tokens have values.
use Rattle.std.specs.Prelude.{◌≡◌, ◌+◌, ◌≤◌, ◌<◌, ℕ, zero, suc, Bool, true, false, List, [], ◌∷◌, ◌++◌, length, map, take, drop, slice_get, nat_eq, is_some, Option, None, Some, if◌then◌else◌}
use Rattle.std.specs.List.{AllByRecursion, flat_map, filter_map, cons_option}
use Rattle.std.specs.Str.{bytes_eq}
use Rattle.std.proofs.Common.{refl, ap, sym, ◌∙◌, subst, arith, append-nil, length-append}
use Rattle.std.proofs.lemmas.Grind.{flat_map-append}
use Rattle.net_lex.specs.declared.token.Kind.{Kind}
use Rattle.net_lex.specs.declared.token.Kind.TheVariants.{Num, Dot}
use Rattle.net_lex.specs.declared.token.Token.{Token}
use Rattle.net_data.specs.declared.statement.ColumnsStatement.{ColumnsStatement}
use Rattle.net_data.specs.declared.statement.DefaultValue.{DefaultValue}
use Rattle.net_data.specs.declared.statement.Given.{Given as Cells}
use Rattle.net_data.specs.declared.statement.ListStatement.{ListStatement}
use Rattle.net_data.specs.declared.statement.NamedSet.{NamedSet}
use Rattle.net_data.specs.declared.statement.Statement.{Statement}
use Rattle.net_data.specs.declared.statement.Statement.TheVariants.{Set, List as Listed, Table, Columns}
use Rattle.net_data.specs.declared.statement.TableStatement.{TableStatement}
use Rattle.net_data.specs.declared.statement.Transposed.{Transposed}
use Rattle.net_data.specs.Rows.{DataRow, points, row_of, rows, groups_from, groups, row_across, table_rows}
use Rattle.net_sets.specs.declared.member.Member.{Member}
use Rattle.net_sets.specs.Sets.{Tuple}
use Rattle.net_expr.specs.Worlds.{Name}
use Rattle.net_tree.proofs.Numerals.{value_is}
use Rattle.net_expr.proofs.Walked.{all_join}
use Rattle.net_meaning.specs.World.{IsDataValueOf, IsDataValue, AreDataValues, rows_at, rows_of, is_set_named, default_token, default_in, count_name, mentions_in, mentions, data_rows, data_defaults}
use Rattle.net_bind.specs.declared.given.DataContent.{DataContent}
use Rattle.net_bind.specs.declared.given.DataContent.TheVariants as given
use Rattle.net_bind.specs.declared.given.NamedData.{NamedData}
use Rattle.net_bind.specs.Cells.{number_or_name, member_of, member_in}
use Rattle.net_bind.specs.DataByName.{default_word, given_cells, grouped, gridded, named}
use Rattle.net_bind.specs.DataFor.{leader, headed_for, set_for, data_in, data_for}
use Rattle.net_bind.specs.DataValues.{HasNumeral, HasValue, NamesNoSet}
use Rattle.net_bind.specs.Names.{Declared}
use Rattle.net_bind.specs.ParameterValues.{rows_across, rows_given}
use Rattle.net_bind.specs.SetData.{cut}
use Rattle.net_bind.proofs.DataRowsTaken.{cut_is}

-- ---- tokens

-- a token that is no dot, and has a value if it is a numeral
abbrev pub IsMember : Token → Type 0
IsMember t = (points t.kind ≡ false) × HasValue t

pub value_in : (t : Token) → IsMember t → IsDataValue t (member_in t)
unfolding member_in
value_in t h = go t.kind t.text h.0 h.1
  where
    go : (k : Kind) (text : List ℕ) → points k ≡ false → HasNumeral k text → IsDataValueOf k text (member_of k text)
    go Num text p (v, h) = (v, h, ap (number_or_name text) (value_is text v h))
    go Dot text p h = cc
    go _ text p h = refl

pub value_is_in : (t : Token) (m : Member) → IsDataValue t m → m ≡ member_in t
unfolding member_in
value_is_in t m h = go t.kind t.text h
  where
    go : (k : Kind) (text : List ℕ) → IsDataValueOf k text m → m ≡ member_of k text
    go Num text (v, h, e) = e ∙ sym (ap (number_or_name text) (value_is text v h))
    go Dot text h = absurd h
    go _ text h = h

pub values_in : (ts : List Token) → AllByRecursion IsMember ts → AreDataValues ts (map member_in ts)
values_in [] h = tt
values_in (t ∷ ts) h = (value_in t h.0, values_in ts h.1)

pub values_are_in : (ts : List Token) (key : Tuple) → AreDataValues ts key → key ≡ map member_in ts
values_are_in [] [] h = refl
values_are_in [] (m ∷ ms) h = absurd h
values_are_in (t ∷ ts) [] h = absurd h
values_are_in (t ∷ ts) (m ∷ ms) h = ap (λ (x : Member). x ∷ ms) (value_is_in t m h.0) ∙ ap (λ (xs : Tuple). member_in t ∷ xs) (values_are_in ts ms h.1)

-- ---- lists

pub flat_alike : {A B : Type 0} (f g : A → List B) → ((x : A) → f x ≡ g x) → (xs : List A) → flat_map f xs ≡ flat_map g xs
flat_alike f g same [] = refl
flat_alike f g same (x ∷ xs) = ap (λ ys. ys ++ flat_map f xs) (same x) ∙ ap (λ ys. g x ++ ys) (flat_alike f g same xs)

pub all_flat : {A B : Type 0} (Q : A → Type 0) (P : B → Type 0) (f : A → List B) → ((x : A) → Q x → AllByRecursion P (f x)) → (xs : List A) → AllByRecursion Q xs → AllByRecursion P (flat_map f xs)
all_flat Q P f k [] h = tt
all_flat Q P f k (x ∷ xs) h = all_join P (f x) (flat_map f xs) (k x h.0) (all_flat Q P f k xs h.1)

pub all_both : {A : Type 0} (P Q : A → Type 0) (xs : List A) → AllByRecursion P xs → AllByRecursion Q xs → AllByRecursion (λ x. P x × Q x) xs
all_both P Q [] h k = tt
all_both P Q (x ∷ xs) h k = ((h.0, k.0), all_both P Q xs h.1 k.1)

pub all_take : {A : Type 0} (P : A → Type 0) (n : ℕ) (xs : List A) → AllByRecursion P xs → AllByRecursion P (take n xs)
all_take P zero [] h = tt
all_take P zero (x ∷ xs) h = tt
all_take P (suc n) [] h = tt
all_take P (suc n) (x ∷ xs) h = (h.0, all_take P n xs h.1)

all_drop : {A : Type 0} (P : A → Type 0) (n : ℕ) (xs : List A) → AllByRecursion P xs → AllByRecursion P (drop n xs)
all_drop P zero [] h = tt
all_drop P zero (x ∷ xs) h = h
all_drop P (suc n) [] h = tt
all_drop P (suc n) (x ∷ xs) h = all_drop P n xs h.1

pub all_at : {A : Type 0} (P : A → Type 0) (xs : List A) (i : ℕ) (x : A) → AllByRecursion P xs → slice_get xs i ≡ Some x → P x
all_at P [] i x h e = cc
all_at P (y ∷ xs) zero x h e = subst P (some_is y x e) h.0
  where
    some_is : {B : Type 0} (a b : B) → Some a ≡ Some b → a ≡ b
    some_is a b f = cc
all_at P (y ∷ xs) (suc i) x h e = all_at P xs i x h.1 e

all_groups : (P : Token → Type 0) (size turns : ℕ) (ts : List Token) → AllByRecursion P ts → AllByRecursion (λ g. AllByRecursion P g) (groups_from size turns ts)
all_groups P size zero ts h = tt
all_groups P size (suc turns) [] h = tt
all_groups P size (suc turns) (t ∷ ts) h = (all_take P size (t ∷ ts) h, all_groups P size turns (drop size (t ∷ ts)) (all_drop P size (t ∷ ts) h))

pub all_cut : (P : Token → Type 0) (n : ℕ) (ts : List Token) → AllByRecursion P ts → AllByRecursion (λ g. AllByRecursion P g) (cut n ts)
all_cut P n ts h = go (nat_eq n 0)
  where
    go : (b : Bool) → AllByRecursion (λ g. AllByRecursion P g) (if b then [] else groups n ts)
    go true = tt
    go false = all_groups P n (length ts) ts h

-- ---- the rows of the statements

abbrev pub given_of : ℕ → NamedData → List DataRow
given_of size m = rows_given size m.given

line_is : (transposed : Option Transposed) (columns line : List Token) → rows_across (is_some transposed) columns line ≡ row_across transposed columns line
line_is None columns [] = refl
line_is None columns (row ∷ cells) = refl
line_is (Some t) columns [] = refl
line_is (Some t) columns (row ∷ cells) = refl

table_is : (size : ℕ) (t : TableStatement) → rows_given size (gridded (is_some t.transposed) t.columns t.cells) ≡ table_rows t
table_is size t =
    ap (flat_map (rows_across (is_some t.transposed) t.columns)) (cut_is (1 + length t.columns) (length t.columns + 1) t.cells (omega arith) (omega arith))
    ∙ flat_alike (rows_across (is_some t.transposed) t.columns) (row_across t.transposed t.columns) (line_is t.transposed t.columns) (groups (length t.columns + 1) t.cells)

list_is : (size i : ℕ) (l : ListStatement) → rows_given size (grouped i 1 0 (given_cells l.given)) ≡ rows size 0 (Listed l)
list_is size i l = go l.given
  where
    go : (g : Option Cells) → rows_given size (grouped i 1 0 (given_cells g)) ≡ rows size 0 (Listed (record l { given = g }))
    go None = ap (flat_map (λ group. row_of (take size group) (slice_get group (size + 0)))) (cut_is (size + 1) (size + 1) [] refl (omega arith))
    go (Some g) = ap (flat_map (λ group. row_of (take size group) (slice_get group (size + 0)))) (cut_is (size + 1) (size + 1) g.cells refl (omega arith))

column_is : (size l place : ℕ) (c : ColumnsStatement) → place < length c.names → rows_given size (grouped l (length c.names) place c.cells) ≡ rows size place (Columns c)
column_is size l place c h = ap (flat_map (λ group. row_of (take size group) (slice_get group (size + place)))) (cut_is (size + length c.names) (size + length c.names) c.cells refl (omega (arith, h)))

-- the data of one part, if its name is n
part_rows : (size : ℕ) (b : Bool) (m : NamedData) (rows : List DataRow) → given_of size m ≡ rows → flat_map (given_of size) (if b then m ∷ [] else []) ≡ (if b then rows else [])
part_rows size true m rows e = append-nil (given_of size m) ∙ e
part_rows size false m rows e = refl

headed_rows : (size l place : ℕ) (c : ColumnsStatement) (n : Name) (ts : List Token) → place + length ts ≤ length c.names → flat_map (given_of size) (headed_for l (length c.names) c.cells place n ts) ≡ rows_at size place (Columns c) n ts
headed_rows size l place c n [] h = refl
headed_rows size l place c n (t ∷ ts) h =
    flat_map-append (given_of size) (if bytes_eq t.text n then own ∷ [] else []) (headed_for l (length c.names) c.cells (place + 1) n ts)
    ∙ ap (λ xs. xs ++ flat_map (given_of size) (headed_for l (length c.names) c.cells (place + 1) n ts)) (part_rows size (bytes_eq t.text n) own (rows size place (Columns c)) (column_is size l place c (omega (arith, h))))
    ∙ ap (λ xs. (if bytes_eq t.text n then rows size place (Columns c) else []) ++ xs) (headed_rows size l (place + 1) c n ts (omega (arith, h)))
  where
    own : NamedData
    own = named t None (grouped l (length c.names) place c.cells)

set_rows_none : (size l values : ℕ) (cells : List Token) (n : Name) (s : Option NamedSet) → is_set_named s n ≡ false → set_for l values cells n s ≡ []
set_rows_none size l values cells n None h = refl
set_rows_none size l values cells n (Some s) h = ap (λ b. if b then named s.name None (grouped l values 0 cells) ∷ [] else []) h

statement_rows : (ds : Declared) (i size : ℕ) (n : Name) (s : Statement) → NamesNoSet n s → flat_map (given_of size) (data_in ds i n s) ≡ rows_of size n s
statement_rows ds i size n (Set s) h = part_rows size (bytes_eq s.name.text n) (named s.name None (given.Members s.items)) [] refl ∙ none_so (bytes_eq s.name.text n)
  where
    none_so : (b : Bool) → (let l : List DataRow = if b then [] else [] in l) ≡ []
    none_so true = refl
    none_so false = refl
statement_rows ds i size n (Listed l) h =
    part_rows size (bytes_eq l.name.text n) (named l.name (default_word l.default) (grouped i 1 0 (given_cells l.given))) (rows size 0 (Listed l)) (list_is size i l)
    ∙ sym (append-nil (if bytes_eq l.name.text n then rows size 0 (Listed l) else []))
statement_rows ds i size n (Table t) h =
    part_rows size (bytes_eq t.name.text n) (named t.name (default_word t.default) (gridded (is_some t.transposed) t.columns t.cells)) (rows size 0 (Table t)) (table_is size t)
    ∙ sym (append-nil (if bytes_eq t.name.text n then rows size 0 (Table t) else []))
statement_rows ds i size n (Columns c) h =
    ap (λ ms. flat_map (given_of size) (ms ++ headed_for (leader ds c) (length c.names) c.cells 0 n c.names)) (set_rows_none size (leader ds c) (length c.names) c.cells n c.set h)
    ∙ headed_rows size (leader ds c) 0 c n c.names (omega arith)

pub rows_are : (ds : Declared) (i size : ℕ) (n : Name) (ss : List Statement) → AllByRecursion (NamesNoSet n) ss → flat_map (given_of size) (data_for ds i n ss) ≡ data_rows size n ss
rows_are ds i size n [] h = refl
rows_are ds i size n (s ∷ ss) h =
    flat_map-append (given_of size) (data_in ds i n s) (data_for ds i n ss)
    ∙ ap (λ xs. xs ++ flat_map (given_of size) (data_for ds i n ss)) (statement_rows ds i size n s h.0)
    ∙ ap (λ xs. rows_of size n s ++ xs) (rows_are ds i size n ss h.1)

-- ---- their defaults

abbrev pub defaults_of : List NamedData → List Token
defaults_of ms = filter_map (λ (m : NamedData). m.default) ms

defaults_join : (xs ys : List NamedData) → defaults_of (xs ++ ys) ≡ defaults_of xs ++ defaults_of ys
defaults_join [] ys = refl
defaults_join (x ∷ xs) ys = ap (cons_option x.default) (defaults_join xs ys) ∙ joined x.default
  where
    joined : (o : Option Token) → cons_option o (defaults_of xs ++ defaults_of ys) ≡ cons_option o (defaults_of xs) ++ defaults_of ys
    joined None = refl
    joined (Some t) = refl

headed_defaults : (l values : ℕ) (cells : List Token) (place : ℕ) (n : Name) (ts : List Token) → defaults_of (headed_for l values cells place n ts) ≡ []
headed_defaults l values cells place n [] = refl
headed_defaults l values cells place n (t ∷ ts) = go (bytes_eq t.text n) (headed_defaults l values cells (place + 1) n ts)
  where
    go : (b : Bool) → defaults_of (headed_for l values cells (place + 1) n ts) ≡ []
        → defaults_of ((if b then named t None (grouped l values place cells) ∷ [] else []) ++ headed_for l values cells (place + 1) n ts) ≡ []
    go true e = e
    go false e = e

set_defaults : (l values : ℕ) (cells : List Token) (n : Name) (s : Option NamedSet) → defaults_of (set_for l values cells n s) ≡ []
set_defaults l values cells n None = refl
set_defaults l values cells n (Some s) = go (bytes_eq s.name.text n)
  where
    go : (b : Bool) → defaults_of (if b then named s.name None (grouped l values 0 cells) ∷ [] else []) ≡ []
    go true = refl
    go false = refl

part_defaults : (word : Token) (d : Option DefaultValue) (g : DataContent) (b : Bool) → defaults_of (if b then named word (default_word d) g ∷ [] else []) ≡ cons_option (if b then default_token d else None) []
part_defaults word None g true = refl
part_defaults word (Some d) g true = refl
part_defaults word d g false = refl

statement_defaults : (ds : Declared) (i : ℕ) (n : Name) (s : Statement) → defaults_of (data_in ds i n s) ≡ cons_option (default_in n s) []
statement_defaults ds i n (Set s) = go (bytes_eq s.name.text n)
  where
    go : (b : Bool) → defaults_of (if b then named s.name None (given.Members s.items) ∷ [] else []) ≡ []
    go true = refl
    go false = refl
statement_defaults ds i n (Listed l) = part_defaults l.name l.default (grouped i 1 0 (given_cells l.given)) (bytes_eq l.name.text n)
statement_defaults ds i n (Table t) = part_defaults t.name t.default (gridded (is_some t.transposed) t.columns t.cells) (bytes_eq t.name.text n)
statement_defaults ds i n (Columns c) =
    defaults_join (set_for (leader ds c) (length c.names) c.cells n c.set) (headed_for (leader ds c) (length c.names) c.cells 0 n c.names)
    ∙ ap (λ xs. xs ++ defaults_of (headed_for (leader ds c) (length c.names) c.cells 0 n c.names)) (set_defaults (leader ds c) (length c.names) c.cells n c.set)
    ∙ headed_defaults (leader ds c) (length c.names) c.cells 0 n c.names

pub defaults_are : (ds : Declared) (i : ℕ) (n : Name) (ss : List Statement) → defaults_of (data_for ds i n ss) ≡ data_defaults n ss
defaults_are ds i n [] = refl
defaults_are ds i n (s ∷ ss) =
    defaults_join (data_in ds i n s) (data_for ds i n ss)
    ∙ ap (λ xs. xs ++ defaults_of (data_for ds i n ss)) (statement_defaults ds i n s)
    ∙ joined (default_in n s)
    ∙ ap (cons_option (default_in n s)) (defaults_are ds i n ss)
  where
    joined : (o : Option Token) → cons_option o [] ++ defaults_of (data_for ds i n ss) ≡ cons_option o (defaults_of (data_for ds i n ss))
    joined None = refl
    joined (Some t) = refl

-- ---- how often they name it

part_count : (b : Bool) (m : NamedData) (ms : List NamedData) (k : ℕ) → length ms ≡ k → length ((if b then m ∷ [] else []) ++ ms) ≡ (if b then 1 else 0) + k
part_count true m ms k e = omega (arith, e)
part_count false m ms k e = omega (arith, e)

headed_count : (l values : ℕ) (cells : List Token) (place : ℕ) (n : Name) (ts : List Token) → length (headed_for l values cells place n ts) ≡ count_name n ts
headed_count l values cells place n [] = refl
headed_count l values cells place n (t ∷ ts) =
    part_count (bytes_eq t.text n) (named t None (grouped l values place cells)) (headed_for l values cells (place + 1) n ts) (count_name n ts) (headed_count l values cells (place + 1) n ts)

set_count : (l values : ℕ) (cells : List Token) (n : Name) (s : Option NamedSet) (ms : List NamedData) (k : ℕ) → length ms ≡ k → length (set_for l values cells n s ++ ms) ≡ (if is_set_named s n then 1 else 0) + k
set_count l values cells n None ms k e = omega (arith, e)
set_count l values cells n (Some s) ms k e = part_count (bytes_eq s.name.text n) (named s.name None (grouped l values 0 cells)) ms k e

one_count : (b : Bool) (m : NamedData) → length (if b then m ∷ [] else []) ≡ (if b then 1 else 0) + 0
one_count true m = refl
one_count false m = refl

statement_count : (ds : Declared) (i : ℕ) (n : Name) (s : Statement) → length (data_in ds i n s) ≡ mentions_in n s
statement_count ds i n (Set s) = one_count (bytes_eq s.name.text n) (named s.name None (given.Members s.items))
statement_count ds i n (Listed l) = one_count (bytes_eq l.name.text n) (named l.name (default_word l.default) (grouped i 1 0 (given_cells l.given)))
statement_count ds i n (Table t) = one_count (bytes_eq t.name.text n) (named t.name (default_word t.default) (gridded (is_some t.transposed) t.columns t.cells))
statement_count ds i n (Columns c) =
    set_count (leader ds c) (length c.names) c.cells n c.set (headed_for (leader ds c) (length c.names) c.cells 0 n c.names) (count_name n c.names)
    (headed_count (leader ds c) (length c.names) c.cells 0 n c.names)

pub mentions_are : (ds : Declared) (i : ℕ) (n : Name) (ss : List Statement) → length (data_for ds i n ss) ≡ mentions n ss
mentions_are ds i n [] = refl
mentions_are ds i n (s ∷ ss) =
    length-append (data_in ds i n s) (data_for ds i n ss) ∙ ap (λ k. k + length (data_for ds i n ss)) (statement_count ds i n s) ∙ ap (λ k. mentions_in n s + k) (mentions_are ds i n ss)
