-- A parameter without data to which a numeral gives its values: it has the same value at each key.
use Rattle.std.specs.Prelude.{◌≡◌, ◌<◌, ◌≤◌, ℕ, suc, Bool, true, false, List, [], ◌∷◌, ◌++◌, length, nat_le, nat_lt, is_some, Option, None, Some, if◌then◌else◌, Ok, Err}
use Rattle.std.specs.List.{AllByRecursion}
use Rattle.std.proofs.Common.{refl, ap, sym, ◌∙◌, arith}
use Rattle.std.proofs.lemmas.Bool.Decides.{nat_tests}
use Rattle.std.proofs.lemmas.List.{map-append, length-append}
use Rattle.net_base.specs.declared.diagnostic.Diagnostic.{Diagnostic}
use Rattle.net_base.specs.declared.diagnostic.Language.{Language}
use Rattle.net_base.specs.declared.diagnostic.Span.{Span}
use Rattle.net_base.specs.Outcomes.{Outcome, and_then, each}
use Rattle.net_sets.specs.declared.member.Member.{Member}
use Rattle.net_sets.specs.KeyValues.{same_for}
use Rattle.net_sets.specs.Limits.{tuples_limit}
use Rattle.net_sets.specs.Operations.{union}
use Rattle.net_sets.specs.Sets.{Tuple, has, added, at_key}
use Rattle.net_sets.proofs.Distinct.{put_last, stays}
use Rattle.net_sets.proofs.SameValues.{at_one_of}
use Rattle.net_sets.proofs.Unions.{grows}
use Rattle.net_tree.specs.Phrases.{is_becomes, is_default}
use Rattle.net_tree.specs.PhraseValues.{phrase_value}
use Rattle.net_tree.specs.Spans.{span_of}
use Rattle.net_tree.specs.Tree.{Tree}
use Rattle.net_expr.specs.declared.row.Row.{Row}
use Rattle.net_expr.specs.declared.world.Entry.{Entry}
use Rattle.net_expr.specs.declared.world.Entry.TheVariants.{Parameter}
use Rattle.net_expr.specs.Operators.{member}
use Rattle.net_expr.specs.Rows.{keys_of}
use Rattle.net_expr.specs.Worlds.{World, Scope}
use Rattle.net_bind.specs.BoundParameters.{Source, source, some, from_source, source_text, source_at, insert_value, with_key, placed, index_list, valued_by, values, with_data}
use Rattle.net_bind.specs.FromData.{are_constant, Fits, IsNumeral, IsGiven, IsSame}
use Rattle.net_bind.specs.Rows.{KeyedParameter, Table, Taken}
use Rattle.net_bind.proofs.FromData.{same_value, rows_fit}
use Rattle.net_bind.proofs.RowsTaken.{is_ok}

abbrev by : Tree → Source
by x = (Some x, None)

given_at : (w : World) (x : Tree) (m : Member) → IsNumeral w x m → (s : Scope) → from_source w s (by x) ≡ Ok (Some m)
given_at w x m h s = ap (λ o. and_then (and_then o (member (span_of x))) some) (same_value w s [] x h.numeral) ∙ ap (λ o. and_then o some) h.valued

as_many : (m : Member) (ks : List Tuple) → length (same_for m ks) ≡ length ks
as_many m [] = refl
as_many m (k ∷ ks) = ap suc (as_many m ks)

inserted : (text : Language) (at : Span) (key : Tuple) (m : Member) (ks : List Tuple) → length (ks ++ key ∷ []) ≤ tuples_limit → insert_value text at key (Some m) (same_for m ks) ≡ Ok (same_for m (ks ++ key ∷ []))
inserted text at key m ks few =
    let long = length-append ks (key ∷ []) in
    let same = as_many m ks in
    let room : nat_lt (length (same_for m ks)) tuples_limit ≡ true = grind (arith, nat_tests, few, long, same) in
    rw room (ap Ok (sym (map-append (λ (k : Tuple). (k, m)) ks (key ∷ []))))

-- the table after one key more
one_key : (w : World) (at : Span) (x : Tree) (m : Member) → IsNumeral w x m → (r : Row) (ks : List Tuple) → length (added ks r.key) ≤ tuples_limit → with_key w at (by x) r (same_for m ks) ≡ Ok (same_for m (added ks r.key))
one_key w at x m h r ks few = step (has ks r.key) refl
  where
    rest : Option Member → Outcome Table
    rest o = if is_some o then Ok (same_for m ks) else and_then (from_source w r.scope (by x)) (λ n. insert_value (source_text None) (source_at at (by x)) r.key n (same_for m ks))

    step : (b : Bool) → has ks r.key ≡ b → rest (at_key (same_for m ks) r.key) ≡ Ok (same_for m (added ks r.key))
    step true e = ap rest (at_one_of m ks r.key ∙ ap (λ b. if b then Some m else None) e) ∙ ap (λ ts. Ok (same_for m ts)) (sym (stays ks r.key e))
    step false e =
        let last = put_last ks r.key e in
        let long = ap length last in
        ap rest (at_one_of m ks r.key ∙ ap (λ b. if b then Some m else None) e)
        ∙ ap (λ o. and_then o (λ n. insert_value (source_text None) (source_at at (by x)) r.key n (same_for m ks))) (given_at w x m h r.scope)
        ∙ inserted (source_text None) (source_at at (by x)) r.key m ks (omega (arith, few, long))
        ∙ ap (λ ts. Ok (same_for m ts)) (sym last)

keys_given : (w : World) (at : Span) (x : Tree) (m : Member) → IsNumeral w x m → (rows : List Row) (ks : List Tuple) → length (union ks (keys_of rows)) ≤ tuples_limit
    → each (with_key w at (by x)) rows (same_for m ks) ≡ Ok (same_for m (union ks (keys_of rows)))
keys_given w at x m h [] ks few = refl
keys_given w at x m h (r ∷ rows) ks few =
    let more : length (union (added ks r.key) (keys_of rows)) ≤ tuples_limit = few in
    let next = grows (added ks r.key) (keys_of rows) in
    ap (λ o. and_then o (each (with_key w at (by x)) rows)) (one_key w at x m h r ks (omega (arith, more, next))) ∙ keys_given w at x m h rows (added ks r.key) more

all_same : (P : Member → Type 0) (m : Member) → P m → (ks : List Tuple) → AllByRecursion (λ row. P row.1) (same_for m ks)
all_same P m h [] = tt
all_same P m h (k ∷ ks) = (h, all_same P m h ks)

record IsListed (rows : List Row) (index : List Tuple) : Type 0 where
  pub is : index ≡ union [] (keys_of rows)
  pub few : length (union [] (keys_of rows)) ≤ tuples_limit

listed_as : (at : Span) (rows : List Row) (index : List Tuple) → index_list at rows ≡ Ok index → IsListed rows index
listed_as at rows index e = go _ (nat_le (length (union [] (keys_of rows))) tuples_limit) refl e
  where
    go : (x : Diagnostic) (b : Bool) → nat_le (length (union [] (keys_of rows))) tuples_limit ≡ b → (if b then (let o : Outcome (List Tuple) = Ok (union [] (keys_of rows)) in o) else Err x) ≡ Ok index → IsListed rows index
    go x true k i = record { is = sym (is_ok (union [] (keys_of rows)) index i); few = grind (arith, nat_tests, k) }
    go x false k i = cc

record IsBy (w : World) (s : Source) (m : Member) : Type 0 where
  pub expr : Tree
  pub is : s ≡ by expr
  pub numeral : IsNumeral w expr m

given_by : (w : World) (a b : Option Tree) (m : Member) → IsGiven w (source a None b).0 m → IsBy w (source a None b) m
given_by w (Some x) b m h = record { expr = x; is = refl; numeral = h }
given_by w None (Some x) m h = record { expr = x; is = refl; numeral = h }
given_by w None None m h = absurd h

pub given_everywhere : (w : World) (ws : List ℕ) (p : KeyedParameter) (rows : List Row) (m : Member) → are_constant p.phrases ≡ true → IsSame w p.phrases m → Fits w p m → (at : Span) → index_list at rows ≡ Ok p.index
    → with_data w ws p [] rows ≡ Ok (Parameter p.keys p.index (same_for m p.index))
given_everywhere w ws p rows m c h fits at listed =
    let none : Taken = ([], []) in
    let keys : List Tuple = union [] (keys_of rows) in
    let finish : Table → Outcome Entry = λ t. Ok (Parameter p.keys p.index t) in
    let from = given_by w (phrase_value is_becomes p.phrases) (phrase_value is_default p.phrases) m h in
    let index = listed_as at rows p.index listed in
    ap (λ s. and_then (values w p s rows none) finish) from.is
    ∙ ap (λ o. and_then (and_then o (valued_by w p (by from.expr) rows none)) finish) (keys_given w p.name.span from.expr m from.numeral rows [] index.few)
    ∙ ap (λ o. and_then (and_then o (λ u. Ok (same_for m keys))) finish) (rows_fit w p (placed p (by from.expr) none (same_for m keys)) rows c (all_same (Fits w p) m fits keys))
    ∙ ap (λ ts. Ok (Parameter p.keys p.index (same_for m ts))) (sym index.is)

pub nothing : {A : Type 0} (xs : List A) → length xs < 1 → xs ≡ []
nothing [] h = refl
nothing (x ∷ xs) h = absurd (omega (arith, h))
