-- A parameter that is bound has at each key what its data's row gives, or its source.
use Rattle.std.specs.Prelude.{◌≡◌, ◌+◌, ◌||◌, ◌&&◌, ℕ, Bool, true, false, cond, List, [], ◌∷◌, ◌++◌, length, map, take, slice_get, nat_lt, is_some, Option, None, Some, if◌then◌else◌, Ok, Err}
use Rattle.std.specs.List.{AllByRecursion, IsDistinct, flat_map, zip}
use Rattle.std.proofs.Common.{refl, ap, sym, ◌∙◌, subst, append_assoc, append-nil}
use Rattle.std.proofs.lemmas.List.{map-append}
use Rattle.std.proofs.lemmas.Map.Keys.{IsDistinct-head, IsDistinct-tail, IsDistinct-cons}
use Rattle.net_base.specs.declared.diagnostic.Language.{Language}
use Rattle.net_base.specs.declared.diagnostic.Language.TheVariants.{Data}
use Rattle.net_base.specs.declared.diagnostic.Span.{Span}
use Rattle.net_lex.specs.declared.token.Token.{Token}
use Rattle.net_sets.specs.declared.member.Member.{Member}
use Rattle.net_sets.specs.Limits.{tuples_limit}
use Rattle.net_sets.specs.Sets.{Tuple, same_tuple, has, at_key}
use Rattle.net_sets.proofs.Sames.{same_itself, same_turned}
use Rattle.net_data.specs.Rows.{DataRow, points, row_of}
use Rattle.net_tree.specs.Tree.{Braces, Phrase}
use Rattle.net_expr.specs.declared.indexing.Indexing.{Indexing}
use Rattle.net_expr.specs.declared.row.Row.{Row}
use Rattle.net_expr.specs.declared.world.Entry.{Entry}
use Rattle.net_expr.specs.declared.world.Entry.TheVariants.{Parameter}
use Rattle.net_expr.specs.Rows.{keys_of}
use Rattle.net_expr.specs.SetValues.{HasSets}
use Rattle.net_expr.specs.Values.{index}
use Rattle.net_expr.specs.Worlds.{World, key_count}
use Rattle.net_expr.proofs.KeysOnce.{have_distinct_keys}
use Rattle.net_expr.proofs.SetsGiven.{keeps_sets}
use Rattle.net_expr.proofs.Walked.{none_there}
use Rattle.net_base.specs.declared.diagnostic.Diagnostic.{Diagnostic}
use Rattle.net_bind.specs.declared.given.DataContent.{DataContent}
use Rattle.net_bind.specs.declared.given.DataContent.TheVariants as given
use Rattle.net_bind.specs.declared.given.NamedData.{NamedData}
use Rattle.net_tree.specs.Phrases.{is_becomes}
use Rattle.net_tree.specs.PhraseValues.{phrase_value}
use Rattle.net_bind.specs.BoundParameters.{placed, keyed, source_in, span_or, index_list, Source, source_text, source_at, from_source, insert_value, with_key, fit_values, untaken, data_of, valued_by, values, fill_table, with_data, bound_parameter}
use Rattle.net_bind.specs.Cells.{member_in, tuple_in}
use Rattle.net_base.specs.Outcomes.{Outcome, and_then, each}
use Rattle.net_bind.specs.ParameterValues.{rows_across, rows_given, row_value, values_given, default_given, IsValue, IsValueAt, IsValued}
use Rattle.net_bind.specs.Rows.{KeyedParameter, NamedParameter, named_as, Table, Taken, All, with_value, with_row, with_cell, with_group, across, pair_of, with_line, shaped, with_rows, taken, either, with_statement}
use Rattle.net_bind.specs.SetData.{cut, begins_at, doubled}
use Rattle.net_bind.proofs.RowsTaken.{then_ok, is_ok}
use Rattle.net_expr.specs.Indexings.{alone, by_keys, indexing_in}

-- ---- what data give

-- the values so far, and those of these rows behind them
abbrev pub Adds : Taken → Taken → List DataRow → Type 0
Adds t u rows = u.0 ≡ t.0 ++ map row_value rows

adds_none : (t u : Taken) → t ≡ u → Adds t u []
adds_none t u e = ap (λ (z : Taken). z.0) (sym e) ∙ sym (append-nil t.0)

adds_join : (t v u : Taken) (first later : List DataRow) → Adds t v first → Adds v u later → Adds t u (first ++ later)
adds_join t v u first later h k =
    k ∙ ap (λ l. l ++ map row_value later) h ∙ append_assoc t.0 (map row_value first) (map row_value later) ∙ ap (λ l. t.0 ++ l) (sym (map-append row_value first later))

each_adds : {A : Type 0} (f : A → Taken → Outcome Taken) (rows : A → List DataRow) → ((x : A) (t u : Taken) → f x t ≡ Ok u → Adds t u (rows x))
    → (xs : List A) (t u : Taken) → each f xs t ≡ Ok u → Adds t u (flat_map rows xs)
each_adds f rows adds [] t u e = adds_none t u (is_ok t u e)
each_adds f rows adds (x ∷ xs) t u e =
    then_ok (f x t) (each f xs) u e (λ v i k. adds_join t v u (rows x) (flat_map rows xs) (adds x t v i) (each_adds f rows adds xs v u k))

value_adds : (text : Language) (at : Span) (key : Tuple) (m : Member) (t u : Table) → with_value text at key m t ≡ Ok u → u ≡ t ++ (key, m) ∷ []
value_adds text at key m t u e = go _ (nat_lt (length t) tuples_limit) e
  where
    go : (x : Diagnostic) (b : Bool) → (if b then (let o : Outcome Table = Ok (t ++ (key, m) ∷ []) in o) else Err x) ≡ Ok u → u ≡ t ++ (key, m) ∷ []
    go x true i = sym (is_ok (t ++ (key, m) ∷ []) u i)
    go x false i = cc

row_adds : (p : NamedParameter) (key : List Token) (value : Token) (t u : Taken) → with_row p key value t ≡ Ok u → u.0 ≡ t.0 ++ (tuple_in key, member_in value) ∷ []
row_adds p key value t u e = go _ _ (at_key t.0 (tuple_in key)) (has p.index (tuple_in key)) e
  where
    next : Table → Outcome Taken
    next v = Ok (v, t.1 ++ value.span ∷ [])

    go : (x y : Diagnostic) (o : Option Member) (b : Bool)
        → (if is_some o then Err x else if b then and_then (with_value Data (begins_at value.span key) (tuple_in key) (member_in value) t.0) next else Err y) ≡ Ok u
        → u.0 ≡ t.0 ++ (tuple_in key, member_in value) ∷ []
    go x y (Some m) b l = cc
    go x y None false l = cc
    go x y None true l =
        then_ok (with_value Data (begins_at value.span key) (tuple_in key) (member_in value) t.0) next u l (λ v j r.
        ap (λ (z : Taken). z.0) (sym (is_ok (v, t.1 ++ value.span ∷ []) u r)) ∙ value_adds Data (begins_at value.span key) (tuple_in key) (member_in value) t.0 v j)

cell_adds : (p : NamedParameter) (key : List Token) (v : Option Token) (t u : Taken) → with_cell p key v t ≡ Ok u → Adds t u (row_of key v)
cell_adds p key None t u e = adds_none t u (is_ok t u e)
cell_adds p key (Some value) t u e = go (points value.kind) e
  where
    row : DataRow
    row = record { keys = key; value = value }

    go : (b : Bool) → (if b then (let o : Outcome Taken = Ok t in o) else with_row p key value t) ≡ Ok u → Adds t u (if b then [] else row ∷ [])
    go true i = adds_none t u (is_ok t u i)
    go false i = row_adds p key value t u i

across_adds : (p : NamedParameter) (turned : Bool) (row : Token) (cs cells : List Token) (t u : Taken) → across p turned row cs cells t ≡ Ok u
    → Adds t u (flat_map (λ pair. row_of (pair_of turned row pair.0) (Some pair.1)) (zip cs cells))
across_adds p turned row [] cells t u e = adds_none t u (is_ok t u e)
across_adds p turned row (c ∷ cs) [] t u e = adds_none t u (is_ok t u e)
across_adds p turned row (c ∷ cs) (cell ∷ cells) t u e =
    then_ok (with_cell p (pair_of turned row c) (Some cell) t) (across p turned row cs cells) u e (λ v i k.
    adds_join t v u (row_of (pair_of turned row c) (Some cell)) (flat_map (λ pair. row_of (pair_of turned row pair.0) (Some pair.1)) (zip cs cells))
    (cell_adds p (pair_of turned row c) (Some cell) t v i) (across_adds p turned row cs cells v u k))

line_adds : (p : NamedParameter) (turned : Bool) (columns line : List Token) (t u : Taken) → with_line p turned columns line t ≡ Ok u → Adds t u (rows_across turned columns line)
line_adds p turned columns [] t u e = adds_none t u (is_ok t u e)
line_adds p turned columns (row ∷ cells) t u e = across_adds p turned row columns cells t u e

rows_add : (p : NamedParameter) (size : ℕ) (g : DataContent) (t u : Taken) → with_rows p size g t ≡ Ok u → Adds t u (rows_given size g)
rows_add p size (given.Members ts) t u e = adds_none t u (is_ok t u e)
rows_add p size (given.Groups g) t u e =
    each_adds (with_group p size g.place) (λ group. row_of (take size group) (slice_get group (size + g.place)))
    (λ x b c i. cell_adds p (take size x) (slice_get x (size + g.place)) b c i) (cut (size + g.values) g.cells) t u e
rows_add p size (given.Grid g) t u e =
    each_adds (with_line p g.transposed g.columns) (rows_across g.transposed g.columns) (λ x b c i. line_adds p g.transposed g.columns x b c i) (cut (1 + length g.columns) g.cells) t u e

taken_adds : (widths : List ℕ) (p : NamedParameter) (size : ℕ) (g : DataContent) (b : Bool) (t u : Taken) → taken widths p size g b t ≡ Ok u → Adds t u (rows_given size g)
taken_adds widths p size g b t u e = then_ok (shaped widths size p.word g) (λ v. if b then doubled p.word else with_rows p size g t) u e (λ v i k. go b k)
  where
    go : (c : Bool) → (if c then doubled p.word else with_rows p size g t) ≡ Ok u → Adds t u (rows_given size g)
    go true k = cc
    go false k = rows_add p size g t u k

either_none : (c : Option Token) → either c None ≡ c
either_none None = refl
either_none (Some c) = refl

either_join : (a b c : Option Token) → either (either a b) c ≡ either a (either b c)
either_join None b c = refl
either_join (Some a) b c = refl

-- the rows of all statements, and the first default
pub record AddsAll (size : ℕ) (all more : All) (ms : List NamedData) : Type 0 where
  pub values : Adds all.0 more.0 (flat_map (λ (m : NamedData). rows_given size m.given) ms)
  pub default : more.1 ≡ either all.1 (default_given ms)

pub statements_add : (widths : List ℕ) (p : KeyedParameter) (size : ℕ) (a : Bool) (ms : List NamedData) (all more : All) → each (with_statement widths p size a) ms all ≡ Ok more → AddsAll size all more ms
statements_add widths p size a [] all more e =
    let same = is_ok all more e in
    record { values = adds_none all.0 more.0 (ap (λ (z : All). z.0) same); default = ap (λ (z : All). z.1) (sym same) ∙ sym (either_none all.1) }
statements_add widths p size a (m ∷ ms) all more e =
    then_ok (with_statement widths p size a m all) (each (with_statement widths p size a) ms) more e (λ one i k.
    let twice : Bool = a || (is_some m.default && is_some all.1) in
    let rest = statements_add widths p size a ms one more k in
    then_ok (taken widths (named_as m.word p) size m.given twice all.0) (λ t. Ok (t, either all.1 m.default)) one i (λ t j l.
    let same = is_ok (t, either all.1 m.default) one l in
    let first : Adds all.0 one.0 (rows_given size m.given) = subst (λ (z : All). Adds all.0 z.0 (rows_given size m.given)) same (taken_adds widths (named_as m.word p) size m.given twice all.0 t j) in
    record {
      values = adds_join all.0 one.0 more.0 (rows_given size m.given) (flat_map (λ (x : NamedData). rows_given size x.given) ms) first rest.values;
      default = rest.default ∙ ap (λ (z : All). either z.1 (default_given ms)) (sym same) ∙ either_join all.1 m.default (default_given ms);
    }))

-- ---- the value at a key

-- what a value more gives
abbrev then_at : Option Member → Option Member → Option Member
then_at None later = later
then_at (Some m) later = Some m

at_more : (t : Table) (k : Tuple) (m : Member) (key : Tuple) → at_key (t ++ (k, m) ∷ []) key ≡ then_at (at_key t key) (if same_tuple key k then Some m else None)
at_more [] k m key = refl
at_more (e ∷ t) k m key = go (same_tuple key e.0) (at_more t k m key)
  where
    go : (b : Bool) → at_key (t ++ (k, m) ∷ []) key ≡ then_at (at_key t key) (if same_tuple key k then Some m else None)
        → cond b (Some e.1) (at_key (t ++ (k, m) ∷ []) key) ≡ then_at (cond b (Some e.1) (at_key t key)) (if same_tuple key k then Some m else None)
    go true i = refl
    go false i = i

at_other : (t : Table) (k : Tuple) (m : Member) (key : Tuple) → same_tuple key k ≡ false → at_key (t ++ (k, m) ∷ []) key ≡ at_key t key
at_other t k m key apart = at_more t k m key ∙ ap (λ b. then_at (at_key t key) (if b then Some m else None)) apart ∙ none_after (at_key t key)
  where
    none_after : (o : Option Member) → then_at o None ≡ o
    none_after None = refl
    none_after (Some x) = refl

at_new : (t : Table) (k : Tuple) (m : Member) → at_key t k ≡ None → at_key (t ++ (k, m) ∷ []) k ≡ Some m
at_new t k m free = at_more t k m k ∙ ap (λ o. then_at o (if same_tuple k k then Some m else None)) free ∙ ap (λ b. if b then Some m else None) (same_itself k)

-- a key more: its value is there, and those of others are as they were
record IsOneMore (w : World) (x : Source) (r : Row) (t u : Table) : Type 0 where
  pub here : IsValue (at_key t r.key) (from_source w r.scope x) (at_key u r.key)
  pub others : (key : Tuple) → same_tuple key r.key ≡ false → at_key u key ≡ at_key t key

value_kept : (o found : Option Member) (later : Outcome (Option Member)) → found ≡ o → (o ≡ None → later ≡ Ok found) → IsValue o later found
value_kept None found later e k = k refl
value_kept (Some m) found later e k = e

found_one : (w : World) (text : Language) (at : Span) (x : Source) (r : Row) (m : Option Member) (t u : Table) → at_key t r.key ≡ None → from_source w r.scope x ≡ Ok m → insert_value text at r.key m t ≡ Ok u → IsOneMore w x r t u
found_one w text at x r None t u free gives e =
    let same = is_ok t u e in
    record {
      here = subst (λ o. IsValue o (from_source w r.scope x) (at_key u r.key)) (sym free) (gives ∙ ap Ok (sym (ap (λ z. at_key z r.key) (sym same) ∙ free)));
      others = λ key apart. ap (λ z. at_key z key) (sym same);
    }
found_one w text at x r (Some m) t u free gives e =
    let is = value_adds text at r.key m t u e in
    record {
      here = subst (λ o. IsValue o (from_source w r.scope x) (at_key u r.key)) (sym free) (gives ∙ ap Ok (sym (ap (λ z. at_key z r.key) is ∙ at_new t r.key m free)));
      others = λ key apart. ap (λ z. at_key z key) is ∙ at_other t r.key m key apart;
    }

key_one : (w : World) (at : Span) (x : Source) (r : Row) (t u : Table) → with_key w at x r t ≡ Ok u → IsOneMore w x r t u
key_one w at x r t u e = go (at_key t r.key) refl e
  where
    go : (o : Option Member) → at_key t r.key ≡ o
        → (if is_some o then (let a : Outcome Table = Ok t in a) else and_then (from_source w r.scope x) (λ m. insert_value (source_text x.1) (source_at at x) r.key m t)) ≡ Ok u → IsOneMore w x r t u
    go (Some m) i k =
        let same = is_ok t u k in
        record {
          here = subst (λ q. IsValue q (from_source w r.scope x) (at_key u r.key)) (sym i) (ap (λ z. at_key z r.key) (sym same) ∙ i);
          others = λ key apart. ap (λ z. at_key z key) (sym same);
        }
    go None i k =
        then_ok (from_source w r.scope x) (λ m. insert_value (source_text x.1) (source_at at x) r.key m t) u k (λ m j l.
        found_one w (source_text x.1) (source_at at x) x r m t u i j l)

-- each key has its value, and those of others are as they were
record AreFilled (w : World) (x : Source) (rows : List Row) (t u : Table) : Type 0 where
  pub each : AllByRecursion (λ (r : Row). IsValue (at_key t r.key) (from_source w r.scope x) (at_key u r.key)) rows
  pub others : (key : Tuple) → AllByRecursion (λ k. same_tuple key k ≡ false) (keys_of rows) → at_key u key ≡ at_key t key

-- a value that was there before a key more is there behind it
moved : (w : World) (x : Source) (k : Tuple) (t v u : Table) → ((key : Tuple) → same_tuple key k ≡ false → at_key v key ≡ at_key t key) → (rows : List Row) → AllByRecursion (λ y. same_tuple k y ≡ false) (keys_of rows)
    → AllByRecursion (λ (r : Row). IsValue (at_key v r.key) (from_source w r.scope x) (at_key u r.key)) rows → AllByRecursion (λ (r : Row). IsValue (at_key t r.key) (from_source w r.scope x) (at_key u r.key)) rows
moved w x k t v u same [] apart h = tt
moved w x k t v u same (r ∷ rows) apart h = (
  subst (λ o. IsValue o (from_source w r.scope x) (at_key u r.key)) (same r.key (same_turned r.key k ∙ apart.0)) h.0,
  moved w x k t v u same rows apart.1 h.1,
)

keys_filled : (w : World) (at : Span) (x : Source) (rows : List Row) (t u : Table) → IsDistinct same_tuple (keys_of rows) → each (with_key w at x) rows t ≡ Ok u → AreFilled w x rows t u
keys_filled w at x [] t u once e =
    let same = is_ok t u e in
    record { each = tt; others = λ key apart. ap (λ z. at_key z key) (sym same) }
keys_filled w at x (r ∷ rows) t u once e =
    then_ok (with_key w at x r t) (each (with_key w at x) rows) u e (λ v i k.
    let one = key_one w at x r t v i in
    let rest = keys_filled w at x rows v u (IsDistinct-tail same_tuple r.key (keys_of rows) once) k in
    record {
      each = (
        subst (λ found. IsValue (at_key t r.key) (from_source w r.scope x) found) (sym (rest.others r.key (IsDistinct-head same_tuple r.key (keys_of rows) once))) one.here,
        moved w x r.key t v u one.others rows (IsDistinct-head same_tuple r.key (keys_of rows) once) rest.each,
      );
      others = λ key apart. rest.others key apart.1 ∙ one.others key apart.0;
    })

values_filled : (w : World) (p : KeyedParameter) (x : Source) (rows : List Row) (said : Taken) (t : Table) → IsDistinct same_tuple (keys_of rows) → values w p x rows said ≡ Ok t → AreFilled w x rows said.0 t
values_filled w p x rows said t once e =
    then_ok (each (with_key w p.name.span x) rows said.0) (valued_by w p x rows said) t e (λ u i k.
    then_ok (fit_values w p (placed p x said u) rows) (λ v. Ok u) t k (λ v j l.
    subst (AreFilled w x rows said.0) (is_ok u t l) (keys_filled w p.name.span x rows said.0 u once i)))

-- ---- the parameter

pub keys_once : (w : World) (b : Option Braces) (i : Indexing) → HasSets w → indexing_in w b ≡ Ok i → IsDistinct same_tuple (keys_of i.rows)
keys_once w None i sets e = subst (λ (z : Indexing). IsDistinct same_tuple (keys_of z.rows)) (is_ok alone i e) (IsDistinct-cons same_tuple [] [] tt none_there)
keys_once w (Some b) i sets e =
    then_ok (index w [] b) (λ k. Ok (by_keys k)) i e (λ k j l.
    subst (λ (z : Indexing). IsDistinct same_tuple (keys_of z.rows)) (is_ok (by_keys k) i l) (have_distinct_keys w [] b k (keeps_sets w sets) j))

pub table_valued : (w : World) (ws : List ℕ) (p : KeyedParameter) (ms : List NamedData) (rows : List Row) (t : Table) → IsDistinct same_tuple (keys_of rows) → fill_table w ws p ms rows ≡ Ok t
    → AllByRecursion (IsValueAt w p.phrases (values_given (key_count p.keys) ms) ms t) rows
table_valued w ws p ms rows t once e =
    then_ok (data_of ws p (is_some (phrase_value is_becomes p.phrases)) ms) (λ all. values w p (source_in p all.1) rows all.0) t e (λ all i j.
    let adds = statements_add ws p (key_count p.keys) (is_some (phrase_value is_becomes p.phrases)) ms untaken all i in
    let fill_table = values_filled w p (source_in p all.1) rows all.0 t once j in
    let by : (given : Table) (x : Source) → Type 0 = λ given x. AllByRecursion (λ (r : Row). IsValue (at_key given r.key) (from_source w r.scope x) (at_key t r.key)) rows in
    subst (λ x. by (values_given (key_count p.keys) ms) x) (ap (source_in p) adds.default)
    (subst (λ given. by given (source_in p all.1)) adds.values fill_table.each))

pub are_valued : (w : World) (ws : List ℕ) (name : Token) (b : Option Braces) (ps : List Phrase) (ms : List NamedData) (e : Entry) → HasSets w → bound_parameter w ws name b ps ms ≡ Ok e → IsValued w b ps ms e
are_valued w ws name b ps ms e sets h =
    then_ok (indexing_in w b) _ e h (λ k i o.
    then_ok (index_list (span_or name.span b) k.rows) (λ index. with_data w ws (keyed name ps k index) ms k.rows) e o (λ index j l.
    then_ok (fill_table w ws (keyed name ps k index) ms k.rows) (λ t. Ok (Parameter k.count index t)) e l (λ t g d.
    record {
      indexing = k;
      indexed = i;
      index = index;
      table = t;
      is = sym (is_ok (Parameter k.count index t) e d);
      at = table_valued w ws (keyed name ps k index) ms k.rows t (keys_once w b k sets i) g;
    })))
