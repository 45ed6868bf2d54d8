-- A parameter that is bound with the data of the statements is the one that AMPL defines.
use Rattle.std.specs.Prelude.{◌≡◌, ◌⊎◌, ◌+◌, ◌≤◌, ◌||◌, ℕ, Bool, true, false, cond, List, [], ◌∷◌, length, map, nat_le, is_some, Option, None, Some, if◌then◌else◌, Ok, Err}
use Rattle.std.specs.List.{AllByRecursion, AllZip, IsDistinct}
use Rattle.std.proofs.Common.{refl, ap, sym, ◌∙◌, subst, arith, inl, inr}
use Rattle.std.proofs.lemmas.Bool.{true≢false}
use Rattle.net_base.specs.declared.diagnostic.Diagnostic.{Diagnostic}
use Rattle.net_base.specs.declared.diagnostic.Span.{Span}
use Rattle.net_base.specs.Outcomes.{Outcome, each}
use Rattle.net_lex.specs.declared.token.Token.{Token}
use Rattle.net_data.specs.declared.statement.Statement.{Statement}
use Rattle.net_data.specs.Rows.{DataRow}
use Rattle.net_sets.specs.declared.member.Member.{Member}
use Rattle.net_sets.specs.Limits.{tuples_limit}
use Rattle.net_sets.specs.Operations.{AreLong, union}
use Rattle.net_sets.specs.Sets.{Tuple, same_tuple, has, at_key}
use Rattle.net_sets.proofs.Sames.{tuple_decides}
use Rattle.net_tree.specs.Erasure.{indexing, phrase}
use Rattle.net_tree.specs.Phrases.{is_becomes, is_default}
use Rattle.net_tree.specs.Tree.{Braces, Phrase}
use Rattle.net_expr.specs.declared.indexing.Indexing.{Indexing}
use Rattle.net_expr.specs.declared.row.Row.{Row}
use Rattle.net_expr.specs.declared.world.Entry.{Entry}
use Rattle.net_expr.specs.declared.world.Entry.TheVariants.{Parameter}
use Rattle.net_expr.specs.Rows.{keys_of}
use Rattle.net_expr.specs.Sets.{counted}
use Rattle.net_expr.specs.SetValues.{HasSets}
use Rattle.net_expr.specs.Values.{index}
use Rattle.net_expr.specs.Worlds.{Name, World, key_count}
use Rattle.net_expr.proofs.Alike.{AreKeys, keys_long}
use Rattle.net_expr.proofs.Walked.{all_as}
use Rattle.net_meaning.proofs.Erased.{phrase_none}
use Rattle.net_bind.specs.declared.given.NamedData.{NamedData}
use Rattle.net_bind.specs.BoundParameters as bound
use Rattle.net_bind.specs.BoundParameters.{placed, keyed, span_or, index_list, source, with_key, fit_values, untaken, data_of, valued_by, fill_table, with_data, bound_parameter, keys_with}
use Rattle.net_bind.specs.Cells.{tuple_in}
use Rattle.net_bind.specs.DataFor.{data_for}
use Rattle.net_bind.specs.Names.{Declared}
use Rattle.net_bind.specs.ParameterValues.{IsParameterOf, row_value, values_given, default_given, IsValue, IsValueAt}
use Rattle.net_bind.specs.Rows.{KeyedParameter, Table, All}
use Rattle.net_bind.specs.Soundness.{ParametersAreSound}
use Rattle.net_bind.proofs.HeldParameters.{IsIndex, index_is, said_keeps, parameter_is}
use Rattle.net_bind.proofs.Products.{has_union}
use Rattle.net_bind.proofs.RowsTaken.{then_ok, is_ok}
use Rattle.net_bind.proofs.SoundGroups.{parameter_rows_whole}
use Rattle.net_bind.proofs.SoundChecks.{as_key, keys_are_indexed}
use Rattle.net_bind.proofs.SoundRows.{IsMember, rows_are, defaults_of, defaults_are, mentions_are}
use Rattle.net_bind.proofs.SoundTaken.{IsWhole, data_members, default_members, AreAccepted, are_accepted}
use Rattle.net_bind.proofs.SoundValues.{IsRead, row_read, first_of, default_is, value_is_meant, rows_fit}
use Rattle.net_bind.proofs.ValuesAt.{keys_once, table_valued, statements_add}
use Rattle.net_meaning.specs.OfTrees.{meant_entry, IsParameterValue}
use Rattle.net_tree.specs.PhraseValues.{phrase_value}
use Rattle.net_meaning.specs.Values.{Key}
use Rattle.net_meaning.specs.World as world
use Rattle.net_meaning.specs.World.{AreDataValues, mentions, data_rows, data_defaults}
use Rattle.net_expr.specs.Indexings.{alone, by_keys, indexing_in}

-- ---- keys

-- the keys of the rows, as the definitions name them
abbrev keys_at : World → List Row → List Tuple
keys_at w rows = world.keys_of (map (as_key w) rows)

keys_are : (w : World) (rows : List Row) → keys_at w rows ≡ keys_of rows
keys_are w [] = refl
keys_are w (r ∷ rows) = ap (λ (ks : List Tuple). r.key ∷ ks) (keys_are w rows)

all_keys : (w : World) (P : Key → Type 0) (rows : List Row) → AllByRecursion (λ (r : Row). P (as_key w r)) rows → AllByRecursion P (map (as_key w) rows)
all_keys w P [] h = tt
all_keys w P (r ∷ rows) h = (h.0, all_keys w P rows h.1)

rows_long : (n : ℕ) (rows : List Row) → AreLong n (keys_of rows) → AllByRecursion (λ (r : Row). length r.key ≡ n) rows
rows_long n [] h = tt
rows_long n (r ∷ rows) h = (h.0, rows_long n rows h.1)

lengths_are : (w : World) (b : Option Braces) (i : Indexing) → indexing_in w b ≡ Ok i → AreLong (key_count i.count) (keys_of i.rows)
lengths_are w None i e = subst (λ (z : Indexing). AreLong (key_count z.count) (keys_of z.rows)) (is_ok alone i e) (refl, tt)
lengths_are w (Some b) i e =
    then_ok (index w [] b) (λ k. Ok (by_keys k)) i e (λ k j l.
    subst (λ (z : Indexing). AreLong (key_count z.count) (keys_of z.rows)) (is_ok (by_keys k) i l) (go k.width k.rows (keys_long w [] b k j)))
  where
    go : (d : Option ℕ) (rows : List Row) → AreKeys d rows → AreLong (counted d) (keys_of rows)
    go None rows h = subst (λ (z : List Row). AreLong 1 (keys_of z)) (sym h) tt
    go (Some n) rows h = h

-- what holds of each tuple holds of one that is there
has_all : (P : Tuple → Type 0) (ts : List Tuple) (t : Tuple) → AllByRecursion P ts → has ts t ≡ true → P t
has_all P [] t h e = cc
has_all P (x ∷ ts) t h e = go (same_tuple t x) refl e (has_all P ts t h.1)
  where
    go : (b : Bool) → same_tuple t x ≡ b → (b || has ts t) ≡ true → (has ts t ≡ true → P t) → P t
    go true i f more = subst P (sym ((tuple_decides t x).0 i)) h.0
    go false i f more = more f

index_made : (at : Span) (rows : List Row) (index : List Tuple) → index_list at rows ≡ Ok index → union [] (keys_of rows) ≡ index
index_made at rows index e = go _ (nat_le (length (union [] (keys_of rows))) tuples_limit) e
  where
    go : (x : Diagnostic) (b : Bool) → (if b then (let o : Outcome (List Tuple) = Ok (union [] (keys_of rows)) in o) else Err x) ≡ Ok index → union [] (keys_of rows) ≡ index
    go x true i = is_ok (union [] (keys_of rows)) index i
    go x false i = cc

-- ---- rows of the data

abbrev subscripts_of : List DataRow → List Tuple
subscripts_of rows = map (λ (r : DataRow). tuple_in r.keys) rows

keys_given : (rows : List DataRow) → keys_with (map row_value rows) ≡ subscripts_of rows
keys_given [] = refl
keys_given (r ∷ rows) = ap (λ (ks : List Tuple). tuple_in r.keys ∷ ks) (keys_given rows)

all_read : (rows : List DataRow) → AllByRecursion IsRead rows → AllZip (λ (r : DataRow) key. AreDataValues r.keys key) rows (subscripts_of rows)
all_read [] h = tt
all_read (r ∷ rows) h = (h.0.members, all_read rows h.1)

all_inside : (P : Tuple → Type 0) (rows : List DataRow) → AllByRecursion (λ (e : Tuple × Member). P e.0) (map row_value rows) → AllByRecursion P (subscripts_of rows)
all_inside P [] h = tt
all_inside P (r ∷ rows) h = (h.0, all_inside P rows h.1)

rows_read : (size : ℕ) (keys : List Tuple) (rows : List DataRow) → AreLong size keys → AllByRecursion (IsWhole size) rows → AllByRecursion (λ t. has keys t ≡ true) (subscripts_of rows) → AllByRecursion IsRead rows
rows_read size keys [] l h k = tt
rows_read size keys (r ∷ rows) l h k = (row_read size r h.0 (has_all (λ t. length t ≡ size) keys (tuple_in r.keys) l k.0), rows_read size keys rows l h.1 k.1)

-- ---- the steps of binding

record IsBound (w : World) (ws : List ℕ) (name : Token) (b : Option Braces) (ps : List Phrase) (ms : List NamedData) (x : Entry) : Type 0 where
  pub keys : Indexing
  pub indexed : indexing_in w b ≡ Ok keys
  pub listed : List Tuple
  pub is_list : index_list (span_or name.span b) keys.rows ≡ Ok listed
  pub all : All
  pub said : data_of ws (keyed name ps keys listed) (is_some (phrase_value is_becomes ps)) ms ≡ Ok all
  pub table : Table
  pub fill : fill_table w ws (keyed name ps keys listed) ms keys.rows ≡ Ok table
  pub holds : bound.values w (keyed name ps keys listed) (source (phrase_value is_becomes ps) all.1 (phrase_value is_default ps)) keys.rows all.0 ≡ Ok table
  pub entry : x ≡ Parameter keys.count listed table

binds : (w : World) (ws : List ℕ) (name : Token) (b : Option Braces) (ps : List Phrase) (ms : List NamedData) (x : Entry) → bound_parameter w ws name b ps ms ≡ Ok x → IsBound w ws name b ps ms x
binds w ws name b ps ms x h =
    then_ok (indexing_in w b) _ x h (λ k i o.
    then_ok (index_list (span_or name.span b) k.rows) (λ index. with_data w ws (keyed name ps k index) ms k.rows) x o (λ index j l.
    then_ok (fill_table w ws (keyed name ps k index) ms k.rows) (λ t. Ok (Parameter k.count index t)) x l (λ t g d.
    then_ok (data_of ws (keyed name ps k index) (is_some (phrase_value is_becomes ps)) ms)
    (λ all. bound.values w (keyed name ps k index) (source (phrase_value is_becomes ps) all.1 (phrase_value is_default ps)) k.rows all.0) t g (λ all p q.
    record { keys = k; indexed = i; listed = index; is_list = j; all = all; said = p; table = t; fill = g; holds = q; entry = sym (is_ok (Parameter k.count index t) x d) }))))

table_fits : (w : World) (p : KeyedParameter) (x : bound.Source) (rows : List Row) (all : All) (t : Table) → bound.values w p x rows all.0 ≡ Ok t → fit_values w p (placed p x all.0 t) rows ≡ Ok tt
table_fits w p x rows all t e =
    then_ok (each (with_key w p.name.span x) rows all.0.0) (valued_by w p x rows all.0) t e (λ u i k.
    then_ok (fit_values w p (placed p x all.0 u) rows) (λ v. Ok u) t k (λ v j l.
    subst (λ z. fit_values w p (placed p x all.0 z) rows ≡ Ok tt) (is_ok u t l) j))

-- ---- the parameter

is_none : {A : Type 0} (o : Option A) → is_some o ≡ false → o ≡ None
is_none None e = refl
is_none (Some x) e = cc

all_valued : (w : World) → HasSets w → (ss : List Statement) (n : Name) (ps : List Phrase) (size : ℕ) (ms : List NamedData) (t : Table) → AllByRecursion IsRead (data_rows size n ss) → AllByRecursion IsMember (data_defaults n ss)
    → values_given size ms ≡ map row_value (data_rows size n ss) → default_given ms ≡ first_of (data_defaults n ss) → (rows : List Row) → AllByRecursion (IsValueAt w ps (values_given size ms) ms t) rows
    → AllByRecursion (λ (k : Key). IsParameterValue ss n ps size k (at_key t k.key)) (map (as_key w) rows)
all_valued w sets ss n ps size ms t h k e f [] v = tt
all_valued w sets ss n ps size ms t h k e f (r ∷ rows) v = (
  value_is_meant w sets ss n ps size r (at_key t r.key) h k
      (subst (λ said. IsValue (at_key said r.key) (bound.from_source w r.scope (source (phrase_value is_becomes ps) (first_of (data_defaults n ss)) (phrase_value is_default ps))) (at_key t r.key)) e
      (subst (λ c. IsValue (at_key (values_given size ms) r.key) (bound.from_source w r.scope (source (phrase_value is_becomes ps) c (phrase_value is_default ps))) (at_key t r.key)) f v.0)),
  all_valued w sets ss n ps size ms t h k e f rows v.1,
)

unassigned : (ps : List Phrase) (ds : Declared) (i : ℕ) (n : Name) (ss : List Statement) → (is_some (phrase_value is_becomes ps) ≡ false) ⊎ (data_for ds i n ss ≡ [])
    → (world.phrase_value is_becomes (map phrase ps) ≡ None) ⊎ (mentions n ss ≡ 0)
unassigned ps ds i n ss (inl e) = inl (phrase_none is_becomes ps (is_none (phrase_value is_becomes ps) e))
unassigned ps ds i n ss (inr e) = inr (sym (mentions_are ds i n ss) ∙ ap length e)

one_at_most : (ts : List Token) → length ts + 0 ≤ 1 → length ts ≤ 1
one_at_most ts h = omega (arith, h)

-- a table whose keys are all among these has no value elsewhere
none_elsewhere : (keys : List Tuple) (t : Table) (key : Tuple) → AllByRecursion (λ (e : Tuple × Member). has keys e.0 ≡ true) t → has keys key ≡ false → at_key t key ≡ None
none_elsewhere keys [] key h out = refl
none_elsewhere keys (e ∷ t) key h out = go (same_tuple key e.0) refl (none_elsewhere keys t key h.1 out)
  where
    go : (b : Bool) → same_tuple key e.0 ≡ b → at_key t key ≡ None → cond b (Some e.1) (at_key t key) ≡ None
    go true same more = absurd (true≢false (sym h.0 ∙ ap (has keys) (sym ((tuple_decides key e.0).0 same)) ∙ out))
    go false same more = more

-- what holds of a key of the index list holds of the keys
in_keys : (keys : List Tuple) (t : Table) → AllByRecursion (λ (e : Tuple × Member). has (union [] keys) e.0 ≡ true) t → AllByRecursion (λ (e : Tuple × Member). has keys e.0 ≡ true) t
in_keys keys t h = all_as (λ (e : Tuple × Member). has (union [] keys) e.0 ≡ true) (λ (e : Tuple × Member). has keys e.0 ≡ true) t (λ e k. sym (has_union [] keys e.0) ∙ k) h

pub parameters_are_sound : ParametersAreSound
parameters_are_sound w ws name b ps ds i ss x sets forms numerals no_sets h =
    let n : Name = name.text in
    let ms : List NamedData = data_for ds i n ss in
    let y : IsBound w ws name b ps ms x = binds w ws name b ps ms x h in
    let p : KeyedParameter = keyed name ps y.keys y.listed in
    let size : ℕ = key_count y.keys.count in
    let rows : List DataRow = data_rows size n ss in
    let keys : List Tuple = keys_at w y.keys.rows in
    let a : Bool = is_some (phrase_value is_becomes ps) in
    let s : bound.Source = source (phrase_value is_becomes ps) y.all.1 (phrase_value is_default ps) in
    let members = data_members ds i n ss forms numerals in
    let accepted : AreAccepted size a None ms = are_accepted ws p size a ms untaken y.all members y.said in
    let given : values_given size ms ≡ map row_value rows = ap (map row_value) (rows_are ds i size n ss no_sets) in
    let adds = statements_add ws p size a ms untaken y.all y.said in
    let same : keys ≡ keys_of y.keys.rows = keys_are w y.keys.rows in
    let list : y.listed ≡ union [] keys = sym (index_made (span_or name.span b) y.keys.rows y.listed y.is_list) ∙ ap (union []) (sym same) in
    let all_in : IsIndex y.keys.rows y.listed = index_is (span_or name.span b) y.keys.rows y.listed y.is_list in
    let reported : IsParameterOf y.listed (map row_value rows) = subst (IsParameterOf y.listed) (adds.values ∙ given) (said_keeps ws p a ms y.all all_in.once y.said) in
    let reported_in : IsParameterOf (union [] keys) (map row_value rows) = subst (λ l. IsParameterOf l (map row_value rows)) list reported in
    let held : IsParameterOf (union [] keys) y.table = subst (λ l. IsParameterOf l y.table) list (parameter_is w ws p s a ms y.keys.rows y.all y.table all_in y.said y.holds) in
    let long : AreLong size (keys_of y.keys.rows) = lengths_are w b y.keys y.indexed in
    let within : AllByRecursion (λ t. has keys t ≡ true) (subscripts_of rows) = all_inside (λ t. has keys t ≡ true) rows (in_keys keys (map row_value rows) reported_in.inside) in
    let reads : AllByRecursion IsRead rows =
    rows_read size keys rows (subst (AreLong size) (sym same) long) (subst (AllByRecursion (IsWhole size)) (rows_are ds i size n ss no_sets) accepted.rows) within in
    let tokens : AllByRecursion IsMember (data_defaults n ss) = subst (AllByRecursion IsMember) (defaults_are ds i n ss) (default_members ms members) in
    let valued = table_valued w ws p ms y.keys.rows y.table (keys_once w b y.keys sets y.indexed) y.fill in (
      at_key y.table,
      ap meant_entry y.entry,
      record {
        keys = map (as_key w) y.keys.rows;
        size = size;
        indexed = keys_are_indexed w b y.keys sets y.indexed;
        lengths = all_keys w (λ (k : Key). length k.key ≡ size) y.keys.rows (rows_long size y.keys.rows long);
        values = all_valued w sets ss n ps size ms y.table reads tokens given (default_is ms ∙ ap first_of (defaults_are ds i n ss)) y.keys.rows valued;
        elsewhere = λ key. none_elsewhere keys y.table key (in_keys keys y.table held.inside);
        fits = rows_fit w sets p (placed p s y.all.0 y.table) y.keys.rows tt (table_fits w p s y.keys.rows y.all y.table y.holds);
        whole = parameter_rows_whole ds i size n ss no_sets accepted.whole;
        subscripts = subscripts_of rows;
        read = all_read rows reads;
        inside = within;
        once = subst (IsDistinct same_tuple) (keys_given rows) reported.once;
        assigned = unassigned ps ds i n ss accepted.assigned;
        defaults = subst (λ (ts : List Token). length ts ≤ 1) (defaults_are ds i n ss) (one_at_most (defaults_of ms) accepted.defaults);
      },
    )
