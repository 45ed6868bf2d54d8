-- The rows of the data that the code accepts are whole.
use Rattle.std.specs.Prelude.{◌≡◌, ◌<◌, ◌+◌, ◌||◌, ℕ, Bool, true, false, List, [], ◌∷◌, ◌++◌, length, map, take, nat_eq, Option, None, Some, if◌then◌else◌, Ok, ⊤}
use Rattle.std.specs.List.{AllByRecursion, list_any}
use Rattle.std.specs.Str.{bytes_eq}
use Rattle.std.proofs.Common.{refl, ap, sym, ◌∙◌, subst, arith}
use Rattle.std.proofs.lemmas.Bool.{eqb-true}
use Rattle.net_base.specs.declared.error_code.ErrorCode.TheVariants.{Arity}
use Rattle.net_base.specs.declared.diagnostic.Span.{Span}
use Rattle.net_base.specs.Outcomes.{rejected_there}
use Rattle.net_lex.specs.declared.token.Token.{Token}
use Rattle.net_data.specs.declared.statement.Given.{Given as Cells}
use Rattle.net_data.specs.declared.statement.NamedSet.{NamedSet}
use Rattle.net_data.specs.declared.statement.Statement.{Statement}
use Rattle.net_data.specs.declared.statement.Statement.TheVariants.{Set, List as Listed, Table, Columns}
use Rattle.net_data.specs.Meaning.{heading_judged, judged}
use Rattle.net_expr.specs.Worlds.{Name}
use Rattle.net_meaning.specs.Values.{Whether}
use Rattle.net_meaning.specs.World.{AreWhole, is_set_named, HasWholeRows}
use Rattle.net_bind.specs.declared.given.DataContent.{DataContent}
use Rattle.net_bind.specs.declared.given.DataContent.TheVariants as given
use Rattle.net_bind.specs.declared.given.NamedData.{NamedData}
use Rattle.net_bind.specs.DataByName.{given_cells, grouped, named}
use Rattle.net_bind.specs.DataFor.{leader, headed_for, set_for, data_in, data_for}
use Rattle.net_bind.specs.DataValues.{NamesNoSet}
use Rattle.net_bind.specs.Names.{Declared}
use Rattle.net_bind.specs.Rows.{has_two, shaped}
use Rattle.net_bind.specs.SetData.{begins_at, without_points, whole_group, whole_groups, cut, leading_size, agrees, given_rows}
use Rattle.net_bind.proofs.NamesDeclared.{NamesNoParameter}
use Rattle.net_bind.proofs.RowsTaken.{then_ok}
use Rattle.net_bind.proofs.DataRowsTaken.{cut_is}

-- ---- groups

abbrev AreSized : ℕ → List (List Token) → Type 0
AreSized size gs = AllByRecursion (λ group. length group ≡ size) gs

group_sized : (at : Span) (keys size : ℕ) (g : List Token) (u : Unit {0}) → whole_group at keys size g ≡ Ok u → length g ≡ size
group_sized at keys size g u e = go (nat_eq (length g) size) refl e
  where
    go : (b : Bool) → nat_eq (length g) size ≡ b → (if b then without_points (take keys g) else rejected_there Arity (begins_at at g)) ≡ Ok u → length g ≡ size
    go true f k = eqb-true (length g) size f
    go false f k = cc

groups_sized : (at : Span) (keys size : ℕ) (gs : List (List Token)) (u : Unit {0}) → whole_groups at keys size gs ≡ Ok u → AreSized size gs
groups_sized at keys size [] u e = tt
groups_sized at keys size (g ∷ gs) u e = then_ok (whole_group at keys size g) (λ v. whole_groups at keys size gs) u e (λ v i k. (group_sized at keys size g v i, groups_sized at keys size gs u k))

whole_of : (n m : ℕ) (cells : List Token) → 0 < n → n ≡ m → AreSized n (cut n cells) → AreWhole m cells
whole_of n m cells l e h = subst (λ k. AreWhole k cells) e (subst (AreSized n) (cut_is n n cells refl l) h)

-- ---- the data of a name

-- the groups of cells, of keys and values, are whole
abbrev pub HasGroups : ℕ → DataContent → Type 0
HasGroups size (given.Members ts) = ⊤
HasGroups size (given.Groups g) = AreSized (size + g.values) (cut (size + g.values) g.cells)
HasGroups size (given.Grid g) = ⊤

abbrev pub HasLines : DataContent → Type 0
HasLines (given.Members ts) = ⊤
HasLines (given.Groups g) = ⊤
HasLines (given.Grid g) = AreSized (1 + length g.columns) (cut (1 + length g.columns) g.cells)

-- the same of the data of a name
pub record IsWholeFor (size : ℕ) (m : NamedData) : Type 0 where
  pub groups : HasGroups size m.given
  pub lines : HasLines m.given

pub shape_whole : (widths : List ℕ) (size : ℕ) (m : NamedData) (u : Unit {0}) → shaped widths size m.word m.given ≡ Ok u → IsWholeFor size m
shape_whole widths size m u e = record { groups = grouped_so m.given e; lines = lined m.given e }
  where
    grouped_so : (g : DataContent) → shaped widths size m.word g ≡ Ok u → HasGroups size g
    grouped_so (given.Members ts) e = tt
    grouped_so (given.Groups g) e =
        then_ok (agrees m.word (leading_size widths g.leader size) size) (λ v. whole_groups m.word.span size (size + g.values) (cut (size + g.values) g.cells)) u e (λ v i k.
        groups_sized m.word.span size (size + g.values) (cut (size + g.values) g.cells) u k)
    grouped_so (given.Grid g) e = tt

    lined : (g : DataContent) → shaped widths size m.word g ≡ Ok u → HasLines g
    lined (given.Members ts) e = tt
    lined (given.Groups g) e = tt
    lined (given.Grid g) e =
        then_ok (has_two m.word size) (λ v. whole_groups m.word.span 1 (1 + length g.columns) (cut (1 + length g.columns) g.cells)) u e (λ v i k.
        groups_sized m.word.span 1 (1 + length g.columns) (cut (1 + length g.columns) g.cells) u k)

-- the data of a set, whose rows are accepted
pub rows_grouped : (widths : List ℕ) (d : ℕ) (word : Token) (g : DataContent) (rows : List (List Token)) → given_rows widths d word g ≡ Ok rows → HasGroups d g
rows_grouped widths d word (given.Members ts) rows e = tt
rows_grouped widths d word (given.Groups g) rows e =
    then_ok (agrees word (leading_size widths g.leader d) d) _ rows e (λ u f k.
    then_ok (whole_groups word.span d (d + g.values) (cut (d + g.values) g.cells)) (λ v. Ok (map (take d) (cut (d + g.values) g.cells))) rows k (λ v i l.
    groups_sized word.span d (d + g.values) (cut (d + g.values) g.cells) v i))
rows_grouped widths d word (given.Grid g) rows e = tt

-- ---- a statement

only_if : (P : Type 0) (b : Bool) → (b ≡ true → P) → Whether b P ⊤
only_if P true f = f refl
only_if P false f = tt

abbrev HasGroupsFor : ℕ → NamedData → Type 0
HasGroupsFor size m = HasGroups size m.given

headed_whole : (size l values place : ℕ) (cells : List Token) (n : Name) (ts : List Token) → AllByRecursion (HasGroupsFor size) (headed_for l values cells place n ts) → list_any (λ (t : Token). bytes_eq t.text n) ts ≡ true
    → AreSized (size + values) (cut (size + values) cells)
headed_whole size l values place cells n [] h e = cc
headed_whole size l values place cells n (t ∷ ts) h e = go (bytes_eq t.text n) h e (headed_whole size l values (place + 1) cells n ts)
  where
    rest : List NamedData
    rest = headed_for l values cells (place + 1) n ts

    go : (b : Bool) → AllByRecursion (HasGroupsFor size) ((if b then named t None (grouped l values place cells) ∷ [] else []) ++ rest) → (b || list_any (λ (x : Token). bytes_eq x.text n) ts) ≡ true
        → (AllByRecursion (HasGroupsFor size) rest → list_any (λ (x : Token). bytes_eq x.text n) ts ≡ true → AreSized (size + values) (cut (size + values) cells)) → AreSized (size + values) (cut (size + values) cells)
    go true h e more = h.0
    go false h e more = more h e

columns_whole : (size l values : ℕ) (cells : List Token) (n : Name) (s : Option NamedSet) (ts : List Token) → AllByRecursion (HasGroupsFor size) (set_for l values cells n s ++ headed_for l values cells 0 n ts)
    → (is_set_named s n || list_any (λ (t : Token). bytes_eq t.text n) ts) ≡ true → AreSized (size + values) (cut (size + values) cells)
columns_whole size l values cells n None ts h e = headed_whole size l values 0 cells n ts h e
columns_whole size l values cells n (Some s) ts h e = go (bytes_eq s.name.text n) h e
  where
    go : (b : Bool) → AllByRecursion (HasGroupsFor size) ((if b then named s.name None (grouped l values 0 cells) ∷ [] else []) ++ headed_for l values cells 0 n ts) → (b || list_any (λ (t : Token). bytes_eq t.text n) ts) ≡ true
        → AreSized (size + values) (cut (size + values) cells)
    go true h e = h.0
    go false h e = headed_whole size l values 0 cells n ts h e

some_named : (n : Name) (ts : List Token) → list_any (λ (t : Token). bytes_eq t.text n) ts ≡ true → 0 < length ts
some_named n [] e = cc
some_named n (t ∷ ts) e = omega arith

-- the first datum of a statement for a name
first_of : (P : NamedData → Type 0) (b : Bool) (m : NamedData) → AllByRecursion P (if b then m ∷ [] else []) → b ≡ true → P m
first_of P true m h e = h.0
first_of P false m h e = cc

each_as : (P Q : NamedData → Type 0) (ms : List NamedData) → ((m : NamedData) → P m → Q m) → AllByRecursion P ms → AllByRecursion Q ms
each_as P Q [] f h = tt
each_as P Q (m ∷ ms) f h = (f m h.0, each_as P Q ms f h.1)

given_whole : (size i : ℕ) (x : Option Cells) → HasGroups size (grouped i 1 0 (given_cells x)) → (c : Cells) → x ≡ Some c → AreWhole (size + 1) c.cells
given_whole size i None h c e = cc
given_whole size i (Some g) h c e = let same : g ≡ c = cc in subst (λ (z : Cells). AreWhole (size + 1) z.cells) same (whole_of (size + 1) (size + 1) g.cells (omega arith) refl h)

-- a statement has whole rows for a parameter
statement_whole : (ds : Declared) (i size : ℕ) (n : Name) (s : Statement) → NamesNoSet n s → AllByRecursion (IsWholeFor size) (data_in ds i n s) → HasWholeRows size n s
statement_whole ds i size n (Set s) k h = tt
statement_whole ds i size n (Listed l) k h =
    only_if _ (bytes_eq l.name.text n) (λ e. given_whole size i l.given (first_of (IsWholeFor size) (bytes_eq l.name.text n) _ h e).groups)
statement_whole ds i size n (Table t) k h =
    only_if _ (bytes_eq t.name.text n) (λ e. whole_of (1 + length t.columns) (length t.columns + 1) t.cells (omega arith) (omega arith) (first_of (IsWholeFor size) (bytes_eq t.name.text n) _ h e).lines)
statement_whole ds i size n (Columns c) k h =
    only_if _ (is_set_named c.set n || list_any (λ (t : Token). bytes_eq t.text n) c.names) (λ e.
    let some : 0 < length c.names = some_named n c.names (sym (ap (λ b. b || list_any (λ (t : Token). bytes_eq t.text n) c.names) k) ∙ e) in
    whole_of (size + length c.names) (size + length c.names) c.cells (omega (arith, some)) refl
    (columns_whole size (leader ds c) (length c.names) c.cells n c.set c.names (each_as (IsWholeFor size) (HasGroupsFor size) (data_in ds i n (Columns c)) (λ m w. w.groups) h) e))

-- ---- all statements

front : {A : Type 0} (P : A → Type 0) (xs ys : List A) → AllByRecursion P (xs ++ ys) → AllByRecursion P xs × AllByRecursion P ys
front P [] ys h = (tt, h)
front P (x ∷ xs) ys h = let rest = front P xs ys h.1 in ((h.0, rest.0), rest.1)

pub parameter_rows_whole : (ds : Declared) (i size : ℕ) (n : Name) (ss : List Statement) → AllByRecursion (NamesNoSet n) ss → AllByRecursion (IsWholeFor size) (data_for ds i n ss) → AllByRecursion (HasWholeRows size n) ss
parameter_rows_whole ds i size n [] k h = tt
parameter_rows_whole ds i size n (s ∷ ss) k h =
    let parts = front (IsWholeFor size) (data_in ds i n s) (data_for ds i n ss) h in (statement_whole ds i size n s k.0 parts.0, parameter_rows_whole ds i size n ss k.1 parts.1)

-- a heading names parameters
pub some_names : (ts : List Token) (at : Token) → heading_judged ts at ≡ Ok tt → 0 < length ts
some_names [] at e = cc
some_names (t ∷ ts) at e = omega arith

-- a statement has whole rows for a set
set_whole : (ds : Declared) (i d : ℕ) (n : Name) (s : Statement) → judged s ≡ Ok tt → NamesNoParameter n s → AllByRecursion (HasGroupsFor d) (data_in ds i n s) → HasWholeRows d n s
set_whole ds i d n (Set s) j k h = tt
set_whole ds i d n (Listed l) j k h = only_if _ (bytes_eq l.name.text n) (λ e. absurd (let no = k in cc))
set_whole ds i d n (Table t) j k h = only_if _ (bytes_eq t.name.text n) (λ e. absurd (let no = k in cc))
set_whole ds i d n (Columns c) j k h =
    only_if _ (is_set_named c.set n || list_any (λ (t : Token). bytes_eq t.text n) c.names) (λ e.
    let some = some_names c.names c.assign j in
    whole_of (d + length c.names) (d + length c.names) c.cells (omega (arith, some)) refl (columns_whole d (leader ds c) (length c.names) c.cells n c.set c.names h e))

pub set_rows_whole : (ds : Declared) (i d : ℕ) (n : Name) (ss : List Statement) → AllByRecursion (λ s. judged s ≡ Ok tt) ss → AllByRecursion (NamesNoParameter n) ss → AllByRecursion (HasGroupsFor d) (data_for ds i n ss) → AllByRecursion (HasWholeRows d n) ss
set_rows_whole ds i d n [] j k h = tt
set_rows_whole ds i d n (s ∷ ss) j k h =
    let parts = front (HasGroupsFor d) (data_in ds i n s) (data_for ds i n ss) h in (set_whole ds i d n s j.0 k.0 parts.0, set_rows_whole ds i d n ss j.1 k.1 parts.1)
