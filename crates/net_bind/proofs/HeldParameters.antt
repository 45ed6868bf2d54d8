-- A parameter that is bound has values at keys of its index list alone, and one at most at each.
use Rattle.std.specs.Prelude.{◌≡◌, ◌||◌, ◌&&◌, ◌+◌, ℕ, Bool, true, false, cond, List, [], ◌∷◌, ◌++◌, length, take, slice_get, nat_lt, nat_le, is_some, Option, None, Some, if◌then◌else◌, Ok, Err}
use Rattle.std.specs.List.{AllByRecursion, IsDistinct}
use Rattle.std.proofs.Common.{refl, ap, sym, ◌∙◌, subst}
use Rattle.net_base.specs.declared.diagnostic.Language.{Language}
use Rattle.net_base.specs.declared.diagnostic.Language.TheVariants.{Data}
use Rattle.net_base.specs.declared.diagnostic.Span.{Span}
use Rattle.net_lex.specs.declared.token.Token.{Token}
use Rattle.net_sets.specs.declared.member.Member.{Member}
use Rattle.net_sets.specs.Limits.{tuples_limit}
use Rattle.net_sets.specs.Operations.{union}
use Rattle.net_sets.specs.Sets.{Tuple, same_tuple, has, at_key}
use Rattle.net_sets.proofs.Sames.{tuple_decides}
use Rattle.net_data.specs.Rows.{points}
use Rattle.net_expr.specs.declared.row.Row.{Row}
use Rattle.net_expr.specs.Rows.{keys_of}
use Rattle.net_expr.specs.Worlds.{World, key_count}
use Rattle.net_expr.proofs.KeysOnce.{union_distinct}
use Rattle.net_expr.proofs.Walked.{none_there, all_join}
use Rattle.net_base.specs.declared.diagnostic.Diagnostic.{Diagnostic}
use Rattle.net_bind.specs.declared.given.DataContent.{DataContent}
use Rattle.net_bind.specs.declared.given.DataContent.TheVariants as given
use Rattle.net_bind.specs.declared.given.NamedData.{NamedData}
use Rattle.net_bind.specs.BoundParameters.{placed, keys_with, index_list, Source, source_text, source_at, from_source, insert_value, with_key, fit_values, untaken, data_of, valued_by, values}
use Rattle.net_bind.specs.Cells.{member_in, tuple_in}
use Rattle.net_base.specs.Outcomes.{Outcome, and_then, each}
use Rattle.net_bind.specs.ParameterValues.{IsParameterOf}
use Rattle.net_bind.specs.Rows.{KeyedParameter, NamedParameter, named_as, Table, Taken, All, with_value, with_row, with_cell, with_group, across, pair_of, with_line, shaped, with_rows, taken, either, with_statement}
use Rattle.net_bind.specs.SetData.{cut, begins_at, doubled}
use Rattle.net_bind.proofs.Products.{has_union}
use Rattle.net_bind.proofs.RowsTaken.{then_ok, is_ok}

-- ---- one value more

no_value : (t : Table) (key : Tuple) → at_key t key ≡ None → has (keys_with t) key ≡ false
no_value [] key h = refl
no_value (e ∷ t) key h = go (same_tuple key e.0) h (no_value t key)
  where
    go : (b : Bool) → cond b (Some e.1) (at_key t key) ≡ None → (at_key t key ≡ None → has (keys_with t) key ≡ false) → (b || has (keys_with t) key) ≡ false
    go true i more = cc
    go false i more = more i

keys_more : (t : Table) (e : Tuple × Member) → keys_with (t ++ e ∷ []) ≡ keys_with t ++ e.0 ∷ []
keys_more [] e = refl
keys_more (x ∷ t) e = ap (λ (ks : List Tuple). x.0 ∷ ks) (keys_more t e)

value_more : (index : List Tuple) (text : Language) (at : Span) (key : Tuple) (m : Member) (t u : Table) → IsParameterOf index t → has index key ≡ true → at_key t key ≡ None → with_value text at key m t ≡ Ok u → IsParameterOf index u
value_more index text at key m t u h there free e = go _ (nat_lt (length t) tuples_limit) e
  where
    fresh : IsDistinct same_tuple (keys_with t ++ key ∷ [])
    fresh = subst (IsDistinct same_tuple) (ap (λ b. if b then keys_with t else keys_with t ++ key ∷ []) (no_value t key free)) (union_distinct (keys_with t) (key ∷ []) h.once)

    more : IsParameterOf index (t ++ (key, m) ∷ [])
    more = record {
      keys = h.keys;
      inside = all_join (λ (x : Tuple × Member). has index x.0 ≡ true) t ((key, m) ∷ []) h.inside (there, tt);
      once = subst (IsDistinct same_tuple) (sym (keys_more t (key, m))) fresh;
    }

    go : (x : Diagnostic) (b : Bool) → (if b then (let o : Outcome Table = Ok (t ++ (key, m) ∷ []) in o) else Err x) ≡ Ok u → IsParameterOf index u
    go x true i = subst (IsParameterOf index) (is_ok (t ++ (key, m) ∷ []) u i) more
    go x false i = cc

-- f keeps P for each
each_keeps : {A B : Type 0} (P : B → Type 0) (f : A → B → Outcome B) → ((x : A) (b c : B) → P b → f x b ≡ Ok c → P c) → (xs : List A) (b c : B) → P b → each f xs b ≡ Ok c → P c
each_keeps P f keeps [] b c h e = subst P (is_ok b c e) h
each_keeps P f keeps (x ∷ xs) b c h e = then_ok (f x b) (each f xs) c e (λ d i k. each_keeps P f keeps xs d c (keeps x b d h i) k)

-- ---- what data give

-- the values so far are those of a parameter
abbrev pub IsSaid : List Tuple → Taken → Type 0
IsSaid index t = IsParameterOf index t.0

row_keeps : (p : NamedParameter) (key : List Token) (value : Token) (t u : Taken) → IsSaid p.index t → with_row p key value t ≡ Ok u → IsSaid p.index u
row_keeps p key value t u h e = go _ _ (at_key t.0 (tuple_in key)) refl (has p.index (tuple_in key)) refl e
  where
    next : Table → Outcome Taken
    next v = Ok (v, t.1 ++ value.span ∷ [])

    go : (x y : Diagnostic) (o : Option Member) → at_key t.0 (tuple_in key) ≡ o → (b : Bool) → has p.index (tuple_in key) ≡ b
        → (if is_some o then Err x else if b then and_then (with_value Data (begins_at value.span key) (tuple_in key) (member_in value) t.0) next else Err y) ≡ Ok u → IsSaid p.index u
    go x y (Some m) i b k l = cc
    go x y None i false k l = cc
    go x y None i true k l =
        then_ok (with_value Data (begins_at value.span key) (tuple_in key) (member_in value) t.0) next u l (λ v j r.
        subst (IsSaid p.index) (is_ok (v, t.1 ++ value.span ∷ []) u r) (value_more p.index Data (begins_at value.span key) (tuple_in key) (member_in value) t.0 v h k i j))

cell_keeps : (p : NamedParameter) (key : List Token) (v : Option Token) (t u : Taken) → IsSaid p.index t → with_cell p key v t ≡ Ok u → IsSaid p.index u
cell_keeps p key None t u h e = subst (IsSaid p.index) (is_ok t u e) h
cell_keeps p key (Some value) t u h e = go (points value.kind) e
  where
    go : (b : Bool) → (if b then (let o : Outcome Taken = Ok t in o) else with_row p key value t) ≡ Ok u → IsSaid p.index u
    go true i = subst (IsSaid p.index) (is_ok t u i) h
    go false i = row_keeps p key value t u h i

across_keeps : (p : NamedParameter) (turned : Bool) (row : Token) (cs cells : List Token) (t u : Taken) → IsSaid p.index t → across p turned row cs cells t ≡ Ok u → IsSaid p.index u
across_keeps p turned row [] cells t u h e = subst (IsSaid p.index) (is_ok t u e) h
across_keeps p turned row (c ∷ cs) [] t u h e = subst (IsSaid p.index) (is_ok t u e) h
across_keeps p turned row (c ∷ cs) (cell ∷ cells) t u h e =
    then_ok (with_cell p (pair_of turned row c) (Some cell) t) (across p turned row cs cells) u e (λ v i k.
    across_keeps p turned row cs cells v u (cell_keeps p (pair_of turned row c) (Some cell) t v h i) k)

line_keeps : (p : NamedParameter) (turned : Bool) (columns line : List Token) (t u : Taken) → IsSaid p.index t → with_line p turned columns line t ≡ Ok u → IsSaid p.index u
line_keeps p turned columns [] t u h e = subst (IsSaid p.index) (is_ok t u e) h
line_keeps p turned columns (row ∷ cells) t u h e = across_keeps p turned row columns cells t u h e

rows_keep : (p : NamedParameter) (size : ℕ) (g : DataContent) (t u : Taken) → IsSaid p.index t → with_rows p size g t ≡ Ok u → IsSaid p.index u
rows_keep p size (given.Members ts) t u h e = subst (IsSaid p.index) (is_ok t u e) h
rows_keep p size (given.Groups g) t u h e =
    each_keeps (IsSaid p.index) (with_group p size g.place) (λ x b c k i. cell_keeps p (take size x) (slice_get x (size + g.place)) b c k i) (cut (size + g.values) g.cells) t u h e
rows_keep p size (given.Grid g) t u h e =
    each_keeps (IsSaid p.index) (with_line p g.transposed g.columns) (λ x b c k i. line_keeps p g.transposed g.columns x b c k i) (cut (1 + length g.columns) g.cells) t u h e

taken_keeps : (widths : List ℕ) (p : NamedParameter) (size : ℕ) (g : DataContent) (b : Bool) (t u : Taken) → IsSaid p.index t → taken widths p size g b t ≡ Ok u → IsSaid p.index u
taken_keeps widths p size g b t u h e = then_ok (shaped widths size p.word g) (λ v. if b then doubled p.word else with_rows p size g t) u e (λ v i k. go b k)
  where
    go : (c : Bool) → (if c then doubled p.word else with_rows p size g t) ≡ Ok u → IsSaid p.index u
    go true k = cc
    go false k = rows_keep p size g t u h k

statement_keeps : (widths : List ℕ) (p : KeyedParameter) (size : ℕ) (a : Bool) (m : NamedData) (all more : All) → IsSaid p.index all.0 → with_statement widths p size a m all ≡ Ok more → IsSaid p.index more.0
statement_keeps widths p size a m all more h e =
    then_ok (taken widths (named_as m.word p) size m.given (a || (is_some m.default && is_some all.1)) all.0) (λ t. Ok (t, either all.1 m.default)) more e (λ t i k.
    subst (λ (z : All). IsSaid p.index z.0) (is_ok (t, either all.1 m.default) more k) (taken_keeps widths (named_as m.word p) size m.given (a || (is_some m.default && is_some all.1)) all.0 t h i))

pub said_keeps : (widths : List ℕ) (p : KeyedParameter) (a : Bool) (ms : List NamedData) (all : All) → IsDistinct same_tuple p.index → data_of widths p a ms ≡ Ok all → IsSaid p.index all.0
said_keeps widths p a ms all h e =
    each_keeps (λ (z : All). IsSaid p.index z.0) (with_statement widths p (key_count p.keys) a) (λ m b c k i. statement_keeps widths p (key_count p.keys) a m b c k i) ms untaken all
    (record { keys = h; inside = tt; once = none_there }) e

-- ---- keys without a value

-- the key of each row is in the list
abbrev AreAmong : List Tuple → List Row → Type 0
AreAmong index rows = AllByRecursion (λ (r : Row). has index r.key ≡ true) rows

found_keeps : (index : List Tuple) (text : Language) (at : Span) (key : Tuple) (m : Option Member) (t u : Table) → IsParameterOf index t → has index key ≡ true → at_key t key ≡ None → insert_value text at key m t ≡ Ok u → IsParameterOf index u
found_keeps index text at key None t u h there free e = subst (IsParameterOf index) (is_ok t u e) h
found_keeps index text at key (Some m) t u h there free e = value_more index text at key m t u h there free e

key_keeps : (w : World) (at : Span) (x : Source) (index : List Tuple) (r : Row) (t u : Table) → has index r.key ≡ true → IsParameterOf index t → with_key w at x r t ≡ Ok u → IsParameterOf index u
key_keeps w at x index r t u there h e = go (at_key t r.key) refl e
  where
    go : (o : Option Member) → at_key t r.key ≡ o
        → (if is_some o then (let a : Outcome Table = Ok t in a) else and_then (from_source w r.scope x) (λ m. insert_value (source_text x.1) (source_at at x) r.key m t)) ≡ Ok u → IsParameterOf index u
    go (Some m) i k = subst (IsParameterOf index) (is_ok t u k) h
    go None i k =
        then_ok (from_source w r.scope x) (λ m. insert_value (source_text x.1) (source_at at x) r.key m t) u k (λ m j l.
        found_keeps index (source_text x.1) (source_at at x) r.key m t u h there i l)

keys_keep : (w : World) (at : Span) (x : Source) (index : List Tuple) (rows : List Row) (t u : Table) → AreAmong index rows → IsParameterOf index t → each (with_key w at x) rows t ≡ Ok u → IsParameterOf index u
keys_keep w at x index [] t u among h e = subst (IsParameterOf index) (is_ok t u e) h
keys_keep w at x index (r ∷ rows) t u among h e =
    then_ok (with_key w at x r t) (each (with_key w at x) rows) u e (λ v i k. keys_keep w at x index rows v u among.1 (key_keeps w at x index r t v among.0 h i) k)

values_keep : (w : World) (p : KeyedParameter) (x : Source) (rows : List Row) (said : Taken) (t : Table) → AreAmong p.index rows → IsSaid p.index said → values w p x rows said ≡ Ok t → IsParameterOf p.index t
values_keep w p x rows said t among h e =
    then_ok (each (with_key w p.name.span x) rows said.0) (valued_by w p x rows said) t e (λ u i k.
    then_ok (fit_values w p (placed p x said u) rows) (λ v. Ok u) t k (λ v j l.
    subst (IsParameterOf p.index) (is_ok u t l) (keys_keep w p.name.span x p.index rows said.0 u among h i)))

-- ---- the index list

as_well : (P Q : Row → Type 0) → ((r : Row) → P r → Q r) → (rows : List Row) → AllByRecursion P rows → AllByRecursion Q rows
as_well P Q f [] h = tt
as_well P Q f (r ∷ rows) h = (f r h.0, as_well P Q f rows h.1)

either_true : (a b : Bool) → b ≡ true → (a || b) ≡ true
either_true true b e = refl
either_true false b e = e

all_there : (rows : List Row) → AreAmong (keys_of rows) rows
all_there [] = tt
all_there (r ∷ rows) = (
  ap (λ b. b || has (keys_of rows) r.key) ((tuple_decides r.key r.key).1 refl),
  as_well (λ (q : Row). has (keys_of rows) q.key ≡ true) (λ (q : Row). has (keys_of (r ∷ rows)) q.key ≡ true) (λ q h. either_true (same_tuple q.key r.key) (has (keys_of rows) q.key) h) rows (all_there rows),
)

among_index : (rows : List Row) → AreAmong (union [] (keys_of rows)) rows
among_index rows = as_well (λ (q : Row). has (keys_of rows) q.key ≡ true) (λ (q : Row). has (union [] (keys_of rows)) q.key ≡ true) (λ q h. has_union [] (keys_of rows) q.key ∙ h) rows (all_there rows)

-- an index list has the key of each row, and none twice
pub record IsIndex (rows : List Row) (index : List Tuple) : Type 0 where
  pub once : IsDistinct same_tuple index
  pub among : AreAmong index rows

pub index_is : (at : Span) (rows : List Row) (index : List Tuple) → index_list at rows ≡ Ok index → IsIndex rows index
index_is at rows index e = go _ (nat_le (length (union [] (keys_of rows))) tuples_limit) e
  where
    whole : IsIndex rows (union [] (keys_of rows))
    whole = record { once = union_distinct [] (keys_of rows) none_there; among = among_index rows }

    go : (x : Diagnostic) (b : Bool) → (if b then (let o : Outcome (List Tuple) = Ok (union [] (keys_of rows)) in o) else Err x) ≡ Ok index → IsIndex rows index
    go x true i = subst (IsIndex rows) (is_ok (union [] (keys_of rows)) index i) whole
    go x false i = cc

pub parameter_is : (w : World) (widths : List ℕ) (p : KeyedParameter) (x : Source) (a : Bool) (ms : List NamedData) (rows : List Row) (all : All) (t : Table) → IsIndex rows p.index
    → data_of widths p a ms ≡ Ok all → values w p x rows all.0 ≡ Ok t → IsParameterOf p.index t
parameter_is w widths p x a ms rows all t h e k = values_keep w p x rows all.0 t h.among (said_keeps widths p a ms all h.once e) k
