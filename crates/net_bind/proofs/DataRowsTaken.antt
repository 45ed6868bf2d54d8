-- What is taken of a statement of parameters are the rows that it has.
use Rattle.std.specs.Prelude.{◌≡◌, ℕ, ◌+◌, ◌<◌, Bool, true, false, List, [], ◌∷◌, ◌++◌, length, map, take, slice_get, nat_eq, is_some, if◌then◌else◌, Option, None, Some, Ok, Err}
use Rattle.std.specs.List.{flat_map, zip}
use Rattle.std.proofs.Common.{refl, ap, sym, ◌∙◌, arith}
use Rattle.std.proofs.lemmas.Bool.Decides.{nat_tests}
use Rattle.net_lex.specs.declared.token.Token.{Token}
use Rattle.net_data.specs.declared.statement.Given.{Given}
use Rattle.net_data.specs.declared.statement.Transposed.{Transposed}
use Rattle.net_data.specs.Rows.{DataRow, points, row_of, groups, given_rows, table_keys, row_across}
use Rattle.net_bind.specs.DataRows.{taken_rows, TakesLists, TakesTables, TakesColumns, TakesKeys}
use Rattle.net_bind.specs.DataByName.{grouped, given_cells}
use Rattle.net_base.specs.Outcomes.{Outcome, and_then, each}
use Rattle.net_bind.specs.Rows.{NamedParameter, Taken, with_row, with_rows, with_cell, with_group, pair_of, across, with_line}
use Rattle.net_bind.specs.SetData.{cut}

-- ---- one thing after the other

then_none : {A B : Type 0} (g : A → B → Outcome B) (o : Outcome B) → and_then o (each g []) ≡ o
then_none g (Ok b) = refl
then_none g (Err r) = refl

then_alike : {A B : Type 0} (o : Outcome A) (f g : A → Outcome B) → ((x : A) → f x ≡ g x) → and_then o f ≡ and_then o g
then_alike (Ok x) f g same = same x
then_alike (Err r) f g same = refl

then_join : {A B C : Type 0} (o : Outcome A) (f : A → Outcome B) (g : B → Outcome C) → and_then (and_then o f) g ≡ and_then o (λ x. and_then (f x) g)
then_join (Ok x) f g = refl
then_join (Err r) f g = refl

each_join : {A B : Type 0} (g : A → B → Outcome B) (xs ys : List A) (b : B) → each g (xs ++ ys) b ≡ and_then (each g xs b) (each g ys)
each_join g [] ys b = refl
each_join g (x ∷ xs) ys b =
    then_alike (g x b) (each g (xs ++ ys)) (λ c. and_then (each g xs c) (each g ys)) (λ c. each_join g xs ys c)
    ∙ sym (then_join (g x b) (each g xs) (each g ys))

-- f does for each what g does for those that it has
each_flat : {A B R : Type 0} (f : A → B → Outcome B) (h : A → List R) (g : R → B → Outcome B) → ((x : A) (b : B) → f x b ≡ each g (h x) b) → (xs : List A) (b : B) → each f xs b ≡ each g (flat_map h xs) b
each_flat f h g same [] b = refl
each_flat f h g same (x ∷ xs) b =
    ap (λ o. and_then o (each f xs)) (same x b)
    ∙ then_alike (each g (h x) b) (each f xs) (each g (flat_map h xs)) (λ c. each_flat f h g same xs c)
    ∙ sym (each_join g (h x) (flat_map h xs) b)

-- ---- cells and groups

abbrev one_row : NamedParameter → DataRow → Taken → Outcome Taken
one_row p r t = with_row p r.keys r.value t

cell_is : (p : NamedParameter) (key : List Token) (v : Option Token) (t : Taken) → with_cell p key v t ≡ each (one_row p) (row_of key v) t
cell_is p key None t = refl
cell_is p key (Some value) t = go (points value.kind)
  where
    row : DataRow
    row = record { keys = key; value = value }

    go : (b : Bool) → (let o : Outcome Taken = if b then Ok t else with_row p key value t in o) ≡ each (one_row p) (if b then [] else row ∷ []) t
    go true = refl
    go false = sym (then_none (one_row p) (with_row p key value t))

not_none : (n : ℕ) → 0 < n → nat_eq n 0 ≡ false
not_none n l = grind (arith, nat_tests)

pub cut_is : (n m : ℕ) (cells : List Token) → n ≡ m → 0 < m → cut n cells ≡ groups m cells
cut_is n m cells e l = ap (λ b. if b then [] else groups n cells) (not_none n (omega (arith, e, l))) ∙ ap (λ k. groups k cells) e

groups_are : (p : NamedParameter) (keys place : ℕ) (gs : List (List Token)) (t : Taken)
    → each (with_group p keys place) gs t ≡ each (one_row p) (flat_map (λ g. row_of (take keys g) (slice_get g (keys + place))) gs) t
groups_are p keys place gs t =
    each_flat (with_group p keys place) (λ g. row_of (take keys g) (slice_get g (keys + place))) (one_row p)
    (λ g u. cell_is p (take keys g) (slice_get g (keys + place)) u) gs t

pub takes_lists : TakesLists
takes_lists p size leader s t = go s.given
  where
    go : (g : Option Given) → with_rows p size (grouped leader 1 0 (given_cells g)) t ≡ taken_rows p (given_rows size g) t
    go None = ap (λ gs. each (with_group p size 0) gs t) (cut_is (size + 1) (size + 1) [] refl (omega arith))
    go (Some g) = ap (λ gs. each (with_group p size 0) gs t) (cut_is (size + 1) (size + 1) g.cells refl (omega arith)) ∙ groups_are p size 0 (groups (size + 1) g.cells) t

pub takes_columns : TakesColumns
takes_columns p size leader place s t l =
    ap (λ gs. each (with_group p size place) gs t) (cut_is (size + length s.names) (size + length s.names) s.cells refl (omega (arith, l)))
    ∙ groups_are p size place (groups (size + length s.names) s.cells) t

pub takes_keys : TakesKeys
takes_keys dimension s l = ap (map (take dimension)) (cut_is (dimension + length s.names) (dimension + length s.names) s.cells refl (omega (arith, l)))

-- ---- tables

pair_is : (transposed : Option Transposed) (row column : Token) → pair_of (is_some transposed) row column ≡ table_keys transposed row column
pair_is None row column = refl
pair_is (Some turned) row column = refl

across_is : (p : NamedParameter) (transposed : Option Transposed) (row : Token) (cs cells : List Token) (t : Taken)
    → across p (is_some transposed) row cs cells t ≡ each (one_row p) (flat_map (λ pair. row_of (table_keys transposed row pair.0) (Some pair.1)) (zip cs cells)) t
across_is p transposed row [] cells t = refl
across_is p transposed row (c ∷ cs) [] t = refl
across_is p transposed row (c ∷ cs) (cell ∷ cells) t =
    ap (λ key. and_then (with_cell p key (Some cell) t) more) (pair_is transposed row c)
    ∙ ap (λ o. and_then o more) (cell_is p (table_keys transposed row c) (Some cell) t)
    ∙ then_alike (each (one_row p) own t) more (each (one_row p) behind) (λ u. across_is p transposed row cs cells u)
    ∙ sym (each_join (one_row p) own behind t)
  where
    more : Taken → Outcome Taken
    more = across p (is_some transposed) row cs cells

    own : List DataRow
    own = row_of (table_keys transposed row c) (Some cell)

    behind : List DataRow
    behind = flat_map (λ pair. row_of (table_keys transposed row pair.0) (Some pair.1)) (zip cs cells)

line_is : (p : NamedParameter) (transposed : Option Transposed) (columns g : List Token) (t : Taken)
    → with_line p (is_some transposed) columns g t ≡ each (one_row p) (row_across transposed columns g) t
line_is p transposed columns [] t = refl
line_is p transposed columns (row ∷ cells) t = across_is p transposed row columns cells t

pub takes_tables : TakesTables
takes_tables p size s t =
    ap (λ gs. each (with_line p (is_some s.transposed) s.columns) gs t) (cut_is (1 + length s.columns) (length s.columns + 1) s.cells (omega arith) (omega arith))
    ∙ each_flat (with_line p (is_some s.transposed) s.columns) (row_across s.transposed s.columns) (one_row p)
    (λ g u. line_is p s.transposed s.columns g u) (groups (length s.columns + 1) s.cells) t
