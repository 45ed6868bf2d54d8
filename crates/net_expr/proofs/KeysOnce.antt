-- The keys of braces are distinct.
use Rattle.std.specs.Prelude.{◌≡◌, ◌||◌, ℕ, Bool, true, false, List, [], ◌∷◌, ◌++◌, length, nat_le, if◌then◌else◌, Ok}
use Rattle.std.specs.List.{AllByRecursion, IsDistinct}
use Rattle.std.proofs.Common.{refl, ap, sym, ◌∙◌, subst, append_assoc, append-nil}
use Rattle.std.proofs.lemmas.Map.Keys.{IsDistinct-head, IsDistinct-tail, IsDistinct-cons}
use Rattle.net_base.specs.declared.diagnostic.Span.{Span}
use Rattle.net_sets.specs.Limits.{tuples_limit}
use Rattle.net_sets.specs.Operations.{union}
use Rattle.net_sets.specs.Sets.{Tuple, same_tuple, has, added}
use Rattle.net_sets.proofs.Sames.{same_turned}
use Rattle.net_tree.specs.Spans.{span_between}
use Rattle.net_tree.specs.Tree.{Tree, empty, filled}
use Rattle.net_base.specs.declared.error_code.ErrorCode.TheVariants.{KindMismatch, Arity, TooMany}
use Rattle.net_expr.specs.declared.row.Keys.{Keys}
use Rattle.net_expr.specs.declared.row.Row.{Row}
use Rattle.net_expr.specs.declared.value.Value.{Value}
use Rattle.net_expr.specs.Items.{has_in, any_in, has_part, is_set, tuples_of, Opening, walking, listing, opened, open_with}
use Rattle.net_base.specs.Outcomes.{Outcome, and_then, rejected, each}
use Rattle.net_expr.specs.Rows.{start, onward, keep, filter_rows, width_of, keys, selected, no_keys, keys_of, rows_of, tuples_in, all_of, listed_as, listed}
use Rattle.net_expr.specs.SetValues.{HaveDistinctKeys}
use Rattle.net_expr.specs.Values.{value, values, walk, set_after, place, holds}
use Rattle.net_expr.specs.Widths.{width_by_form}
use Rattle.net_expr.specs.Worlds.{World, Scope}
use Rattle.net_expr.proofs.Parting.{then_ok, is_ok}
use Rattle.net_expr.proofs.Walked.{item_set, none_there, all_join, from_item}

-- ---- tuples that are listed

push_distinct : (ts : List Tuple) (t : Tuple) → IsDistinct same_tuple ts → has ts t ≡ false → IsDistinct same_tuple (ts ++ t ∷ [])
push_distinct [] t h e = IsDistinct-cons same_tuple t [] tt none_there
push_distinct (x ∷ ts) t h e = go (same_tuple t x) refl e (push_distinct ts t (IsDistinct-tail same_tuple x ts h))
  where
    go : (b : Bool) → same_tuple t x ≡ b → (b || has ts t) ≡ false → (has ts t ≡ false → IsDistinct same_tuple (ts ++ t ∷ [])) → IsDistinct same_tuple (x ∷ ts ++ t ∷ [])
    go true f k more = cc
    go false f k more = IsDistinct-cons same_tuple x (ts ++ t ∷ []) (all_join (λ y. same_tuple x y ≡ false) ts (t ∷ []) (IsDistinct-head same_tuple x ts h) (same_turned x t ∙ f, tt)) (more k)

added_distinct : (ts : List Tuple) (t : Tuple) → IsDistinct same_tuple ts → IsDistinct same_tuple (added ts t)
added_distinct ts t h = go (has ts t) refl
  where
    go : (b : Bool) → has ts t ≡ b → IsDistinct same_tuple (if b then ts else ts ++ t ∷ [])
    go true e = h
    go false e = push_distinct ts t h e

pub union_distinct : (ts us : List Tuple) → IsDistinct same_tuple ts → IsDistinct same_tuple (union ts us)
union_distinct ts [] h = h
union_distinct ts (u ∷ us) h = union_distinct (added ts u) us (added_distinct ts u h)

keys_are : (s : Scope) (ts : List Tuple) → keys_of (rows_of s ts) ≡ ts
keys_are s [] = refl
keys_are s (t ∷ ts) = ap (◌∷◌ t) (keys_are s ts)

listed_once : (at : Span) (s : Scope) (ts once : List Tuple) (k : Keys) → IsDistinct same_tuple once → listed_as at s ts once ≡ Ok k → IsDistinct same_tuple (keys_of k.rows)
listed_once at s [] once k h e = subst (λ (z : Keys). IsDistinct same_tuple (keys_of z.rows)) (is_ok no_keys k e) none_there
listed_once at s (t ∷ ts) once k h e = go (all_of (length t) ts) (nat_le (length once) tuples_limit) e
  where
    go : (b c : Bool) → (if b then (if c then (let o : Outcome Keys = Ok (keys (length t) (rows_of s once)) in o) else rejected TooMany at) else rejected Arity at) ≡ Ok k → IsDistinct same_tuple (keys_of k.rows)
    go true true i = subst (λ (z : Keys). IsDistinct same_tuple (keys_of z.rows)) (is_ok (keys (length t) (rows_of s once)) k i) (subst (IsDistinct same_tuple) (sym (keys_are s once)) h)
    go true false i = cc
    go false c i = cc

listing_once : (at : Span) (s : Scope) (conditioned : Bool) (vs : List Value) (k : Keys) → listed at s conditioned vs ≡ Ok k → IsDistinct same_tuple (keys_of k.rows)
listing_once at s conditioned vs k e =
    then_ok (if conditioned then rejected KindMismatch at else tuples_in at vs []) (λ ts. listed_as at s ts (union [] ts)) k e (λ ts h i. listed_once at s ts (union [] ts) k (union_distinct [] ts none_there) i)

-- ---- rows that are kept

keys_join : (xs ys : List Row) → keys_of (xs ++ ys) ≡ keys_of xs ++ keys_of ys
keys_join [] ys = refl
keys_join (x ∷ xs) ys = ap (◌∷◌ x.key) (keys_join xs ys)

all_without : (P : Tuple → Type 0) (xs : List Row) (r : Row) (ys : List Row) → AllByRecursion P (keys_of (xs ++ r ∷ ys)) → AllByRecursion P (keys_of (xs ++ ys))
all_without P [] r ys h = h.1
all_without P (x ∷ xs) r ys h = (h.0, all_without P xs r ys h.1)

without : (xs : List Row) (r : Row) (ys : List Row) → IsDistinct same_tuple (keys_of (xs ++ r ∷ ys)) → IsDistinct same_tuple (keys_of (xs ++ ys))
without [] r ys h = IsDistinct-tail same_tuple r.key (keys_of ys) h
without (x ∷ xs) r ys h =
    IsDistinct-cons same_tuple x.key (keys_of (xs ++ ys)) (all_without (λ t. same_tuple x.key t ≡ false) xs r ys (IsDistinct-head same_tuple x.key (keys_of (xs ++ r ∷ ys)) h)) (without xs r ys (IsDistinct-tail same_tuple x.key (keys_of (xs ++ r ∷ ys)) h))

kept_once : (test : Scope → Outcome Bool) (rows found left : List Row) → IsDistinct same_tuple (keys_of (found ++ rows)) → filter_rows test rows found ≡ Ok left → IsDistinct same_tuple (keys_of left)
kept_once test [] found left h e = subst (λ (l : List Row). IsDistinct same_tuple (keys_of l)) (append-nil found ∙ is_ok found left e) h
kept_once test (r ∷ rows) found left h e =
    then_ok (test r.scope) (λ b. filter_rows test rows (keep r found b)) left e (λ b i k. kept_once test rows (keep r found b) left (go b) k)
  where
    go : (b : Bool) → IsDistinct same_tuple (keys_of (keep r found b ++ rows))
    go true = subst (λ (l : List Row). IsDistinct same_tuple (keys_of l)) (sym (append_assoc found (r ∷ []) rows)) h
    go false = without found r rows h

selected_once : (by_form : Outcome ℕ) (test : Scope → Outcome Bool) (rows : List Row) (k : Keys) → IsDistinct same_tuple (keys_of rows) → selected by_form test rows ≡ Ok k → IsDistinct same_tuple (keys_of k.rows)
selected_once by_form test rows k h e =
    then_ok (width_of rows by_form) (λ n. and_then (filter_rows test rows []) (λ left. Ok (keys n left))) k e (λ n i j.
    then_ok (filter_rows test rows []) (λ left. Ok (keys n left)) k j (λ left l m.
    subst (λ (z : Keys). IsDistinct same_tuple (keys_of z.rows)) (is_ok (keys n left) k m) (kept_once test rows [] left h l)))

-- ---- braces

walking_is : (ts us : List Tuple) → (let o : Outcome Opening = Ok (walking ts) in o ≡ Ok (walking us)) → ts ≡ us
walking_is ts us e = let same : walking ts ≡ walking us = is_ok (walking ts) (walking us) e in cc

pub opened_set : (w : World) (s : Scope) (i : Tree) (at : Span) (any : Bool) (ts : List Tuple) → (if has_in i then and_then (set_after w s i) (λ us. Ok (walking us)) else and_then (value w s i) (opened at any)) ≡ Ok (walking ts)
    → (if has_in i then set_after w s i else and_then (value w s i) (tuples_of at)) ≡ Ok ts
opened_set w s i at any ts e = go (has_in i) e
  where
    by_value : (v : Value) → value w s i ≡ Ok v → opened at any v ≡ Ok (walking ts) → and_then (value w s i) (tuples_of at) ≡ Ok ts
    by_value v h k = ap (λ (o : Outcome Value). and_then o (tuples_of at)) h ∙ step (any || is_set v) k
      where
        step : (b : Bool) → (if b then and_then (tuples_of at v) (λ us. Ok (walking us)) else Ok (listing v)) ≡ Ok (walking ts) → tuples_of at v ≡ Ok ts
        step true j = then_ok (tuples_of at v) (λ us. Ok (walking us)) (walking ts) j (λ us l m. l ∙ ap (λ (z : List Tuple). let o : Outcome (List Tuple) = Ok z in o) (walking_is us ts m))
        step false j = let same : listing v ≡ walking ts = is_ok (listing v) (walking ts) j in cc

    go : (b : Bool) → (if b then and_then (set_after w s i) (λ us. Ok (walking us)) else and_then (value w s i) (opened at any)) ≡ Ok (walking ts) → (if b then set_after w s i else and_then (value w s i) (tuples_of at)) ≡ Ok ts
    go true h = then_ok (set_after w s i) (λ us. Ok (walking us)) (walking ts) h (λ us l m. l ∙ ap (λ (z : List Tuple). let o : Outcome (List Tuple) = Ok z in o) (walking_is us ts m))
    go false h = then_ok (value w s i) (opened at any) (walking ts) h (λ v l m. by_value v l m)

pub have_distinct_keys : HaveDistinctKeys
have_distinct_keys w s (empty o p c) k g e = go (has_part p) e
  where
    go : (b : Bool) → (if b then rejected KindMismatch (span_between o c) else Ok no_keys) ≡ Ok k → IsDistinct same_tuple (keys_of k.rows)
    go true h = cc
    go false h = subst (λ (z : Keys). IsDistinct same_tuple (keys_of z.rows)) (is_ok no_keys k h) none_there
have_distinct_keys w s (filled o i is p c) k g e = then_ok opening rest k e (λ x h j. go x h j)
  where
    at : Span
    at = span_between o c

    opening : Outcome Opening
    opening = if has_in i then and_then (set_after w s i) (λ ts. Ok (walking ts)) else and_then (value w s i) (opened at (any_in is))

    from_tuples : List Tuple → Outcome Keys
    from_tuples ts = and_then (each (onward (place w i) (walk at w is) (start s)) ts []) (selected (width_by_form at w s i is) (λ q. holds at w q p))

    from_value : Value → Outcome Keys
    from_value v = and_then (values w s is (v ∷ [])) (listed at s (has_part p))

    rest : Opening → Outcome Keys
    rest = open_with from_tuples from_value

    go : (x : Opening) → opening ≡ Ok x → open_with from_tuples from_value x ≡ Ok k → IsDistinct same_tuple (keys_of k.rows)
    go (walking ts) h j =
        then_ok (each (onward (place w i) (walk at w is) (start s)) ts []) (selected (width_by_form at w s i is) (λ q. holds at w q p)) k j (λ rows l m.
        selected_once (width_by_form at w s i is) (λ q. holds at w q p) rows k (from_item at w g i is (start s) ts rows (item_set w s i at ts g (opened_set w s i at (any_in is) ts h)) l) m)
    go (listing v) h j = then_ok (values w s is (v ∷ [])) (listed at s (has_part p)) k j (λ vs l m. listing_once at s (has_part p) vs k m)
