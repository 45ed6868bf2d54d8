-- The keys of braces have as many members as their width says.
use Rattle.std.specs.Prelude.{◌≡◌, ℕ, Bool, true, false, List, [], ◌∷◌, ◌++◌, length, nat_eq, nat_le, nat_lt, Option, None, Some, if◌then◌else◌, Ok}
use Rattle.std.specs.List.{AllByRecursion}
use Rattle.std.proofs.Common.{refl, ap, sym, ◌∙◌, subst}
use Rattle.std.proofs.lemmas.Bool.{eqb-true}
use Rattle.net_base.specs.declared.diagnostic.Span.{Span}
use Rattle.net_sets.specs.Limits.{tuples_limit}
use Rattle.net_sets.specs.Operations.{AreLong, union}
use Rattle.net_sets.specs.Sets.{Tuple, has, added}
use Rattle.net_tree.specs.Spans.{span_between}
use Rattle.net_tree.specs.Tree.{Links, Braces, empty, filled, none, link}
use Rattle.net_base.specs.declared.error_code.ErrorCode.TheVariants.{KindMismatch, Arity, TooMany}
use Rattle.net_expr.specs.declared.row.Keys.{Keys}
use Rattle.net_expr.specs.declared.row.PartialRow.{PartialRow}
use Rattle.net_expr.specs.declared.row.Row.{Row}
use Rattle.net_expr.specs.declared.value.Value.{Value}
use Rattle.net_expr.specs.Items.{has_in, any_in, has_part, tuples_of, Opening, walking, listing, opened, open_with}
use Rattle.net_base.specs.Outcomes.{Outcome, and_then, rejected, each}
use Rattle.net_expr.specs.Rows.{start, go_on, onward, same_arity, finished_key, keep, filter_rows, width_of, keys, selected, no_keys, keys_of, rows_of, tuples_in, all_of, listed_as, listed}
use Rattle.net_expr.specs.Values.{value, values, index, walk, set_after, place, holds}
use Rattle.net_expr.specs.Widths.{width_by_form}
use Rattle.net_expr.specs.Worlds.{World, Scope}
use Rattle.net_expr.proofs.Parting.{then_ok, is_ok}
use Rattle.net_expr.proofs.Walked.{all_join}

-- the keys have the width that is said; `{}` has none
abbrev pub AreKeys : Option ℕ → List Row → Type 0
AreKeys None rows = rows ≡ []
AreKeys (Some n) rows = AreLong n (keys_of rows)

pub all_added : (P : Tuple → Type 0) (ts : List Tuple) (t : Tuple) → AllByRecursion P ts → P t → AllByRecursion P (added ts t)
all_added P ts t h k = go (has ts t)
  where
    go : (b : Bool) → AllByRecursion P (if b then ts else ts ++ t ∷ [])
    go true = h
    go false = all_join P ts (t ∷ []) h (k, tt)

pub all_union : (P : Tuple → Type 0) (ts us : List Tuple) → AllByRecursion P ts → AllByRecursion P us → AllByRecursion P (union ts us)
all_union P ts [] h k = h
all_union P ts (u ∷ us) h k = all_union P (added ts u) us (all_added P ts u h k.0) k.1

-- rows of one length
pub record AreAlike (rows : List Row) : Type 0 where
  pub width : ℕ
  pub long : AreLong width (keys_of rows)

keys_join : (xs ys : List Row) → keys_of (xs ++ ys) ≡ keys_of xs ++ keys_of ys
keys_join [] ys = refl
keys_join (x ∷ xs) ys = ap (◌∷◌ x.key) (keys_join xs ys)

row_more : (found : List Row) (key : Tuple) (s : Scope) → AreAlike found → same_arity key found ≡ true → AreAlike (found ++ (record { key = key; scope = s }) ∷ [])
row_more [] key s h e = record { width = length key; long = (refl, tt) }
row_more (r ∷ found) key s h e =
    record {
      width = h.width;
      long = subst (AreLong h.width) (sym (keys_join (r ∷ found) ((record { key = key; scope = s }) ∷ []))) (all_join (λ t. length t ≡ h.width) (keys_of (r ∷ found)) (key ∷ []) h.long (sym (eqb-true (length r.key) (length key) e) ∙ h.long.0, tt));
    }

row_alike : (at : Span) (s : Scope) (o : Option Tuple) (found rows : List Row) → AreAlike found → finished_key at s o found ≡ Ok rows → AreAlike rows
row_alike at s None found rows h e = cc
row_alike at s (Some key) found rows h e = go (same_arity key found) (nat_lt (length found) tuples_limit) refl e
  where
    go : (b c : Bool) → same_arity key found ≡ b → (if b then (if c then (let o : Outcome (List Row) = Ok (found ++ (record { key = key; scope = s }) ∷ []) in o) else rejected TooMany at) else rejected Arity at) ≡ Ok rows → AreAlike rows
    go true true f k = subst AreAlike (is_ok (found ++ (record { key = key; scope = s }) ∷ []) rows k) (row_more found key s h f)
    go true false f k = cc
    go false c f k = cc

pub each_alike : (lead : Tuple → PartialRow → Outcome (Option PartialRow)) (next : PartialRow → List Row → Outcome (List Row)) → ((q : PartialRow) (found rows : List Row) → AreAlike found → next q found ≡ Ok rows → AreAlike rows) → (p : PartialRow) (ts : List Tuple) (found rows : List Row)
    → AreAlike found → each (onward lead next p) ts found ≡ Ok rows → AreAlike rows
each_alike lead next step p [] found rows h e = subst AreAlike (is_ok found rows e) h
each_alike lead next step p (t ∷ ts) found rows h e =
    then_ok (onward lead next p t found) (each (onward lead next p) ts) rows e (λ mid i k. each_alike lead next step p ts mid rows (one mid i) k)
  where
    one : (mid : List Row) → onward lead next p t found ≡ Ok mid → AreAlike mid
    one mid i = then_ok (lead t p) (go_on next found) mid i (λ o l m. by_place o m)
      where
        by_place : (o : Option PartialRow) → go_on next found o ≡ Ok mid → AreAlike mid
        by_place None m = subst AreAlike (is_ok found mid m) h
        by_place (Some q) m = step q found mid h m

pub walk_alike : (at : Span) (w : World) (l : Links) (p : PartialRow) (found rows : List Row) → AreAlike found → walk at w l p found ≡ Ok rows → AreAlike rows
walk_alike at w none p found rows h e = row_alike at p.scope p.key found rows h e
walk_alike at w (link o i is) p found rows h e =
    then_ok (if has_in i then set_after w p.scope i else and_then (value w p.scope i) (tuples_of at)) (λ ts. each (onward (place w i) (walk at w is) p) ts found) rows e (λ ts j k.
    each_alike (place w i) (walk at w is) (λ q f r a b. walk_alike at w is q f r a b) p ts found rows h k)

kept_long : (n : ℕ) (test : Scope → Outcome Bool) (rows found left : List Row) → AreLong n (keys_of rows) → AreLong n (keys_of found) → filter_rows test rows found ≡ Ok left → AreLong n (keys_of left)
kept_long n test [] found left h k e = subst (λ (l : List Row). AreLong n (keys_of l)) (is_ok found left e) k
kept_long n test (r ∷ rows) found left h k e =
    then_ok (test r.scope) (λ b. filter_rows test rows (keep r found b)) left e (λ b i j. kept_long n test rows (keep r found b) left h.1 (go b) j)
  where
    go : (b : Bool) → AreLong n (keys_of (keep r found b))
    go true = subst (AreLong n) (sym (keys_join found (r ∷ []))) (all_join (λ t. length t ≡ n) (keys_of found) (r.key ∷ []) k (h.0, tt))
    go false = k

selected_long : (by_form : Outcome ℕ) (test : Scope → Outcome Bool) (rows : List Row) (k : Keys) → AreAlike rows → selected by_form test rows ≡ Ok k → AreKeys k.width k.rows
selected_long by_form test rows k h e =
    then_ok (width_of rows by_form) (λ n. and_then (filter_rows test rows []) (λ left. Ok (keys n left))) k e (λ n i j.
    then_ok (filter_rows test rows []) (λ left. Ok (keys n left)) k j (λ left l m.
    subst (λ (z : Keys). AreKeys z.width z.rows) (is_ok (keys n left) k m) (kept_long n test rows [] left (long rows h n i) tt l)))
  where
    long : (rows : List Row) → AreAlike rows → (n : ℕ) → width_of rows by_form ≡ Ok n → AreLong n (keys_of rows)
    long [] a n i = tt
    long (r ∷ rows) a n i = let same : length r.key ≡ n = is_ok (length r.key) n i in subst (λ (m : ℕ). AreLong m (keys_of (r ∷ rows))) (sym a.long.0 ∙ same) a.long

listed_long : (at : Span) (s : Scope) (ts : List Tuple) (k : Keys) → listed_as at s ts (union [] ts) ≡ Ok k → AreKeys k.width k.rows
listed_long at s [] k e = subst (λ (z : Keys). AreKeys z.width z.rows) (is_ok no_keys k e) refl
listed_long at s (t ∷ ts) k e = go (all_of (length t) ts) (nat_le (length (union [] (t ∷ ts))) tuples_limit) refl e
  where
    keys_are : (ts : List Tuple) → keys_of (rows_of s ts) ≡ ts
    keys_are [] = refl
    keys_are (t ∷ ts) = ap (◌∷◌ t) (keys_are ts)

    all_long : (n : ℕ) (ts : List Tuple) → all_of n ts ≡ true → AreLong n ts
    all_long n [] f = tt
    all_long n (u ∷ us) f = step (nat_eq (length u) n) refl f (all_long n us)
      where
        step : (b : Bool) → nat_eq (length u) n ≡ b → (if b then all_of n us else false) ≡ true → (all_of n us ≡ true → AreLong n us) → AreLong n (u ∷ us)
        step true i j more = (eqb-true (length u) n i, more j)
        step false i j more = cc

    go : (b c : Bool) → all_of (length t) ts ≡ b → (if b then (if c then (let o : Outcome Keys = Ok (keys (length t) (rows_of s (union [] (t ∷ ts)))) in o) else rejected TooMany at) else rejected Arity at) ≡ Ok k → AreKeys k.width k.rows
    go true true f i =
        subst (λ (z : Keys). AreKeys z.width z.rows) (is_ok (keys (length t) (rows_of s (union [] (t ∷ ts)))) k i)
        (subst (AreLong (length t)) (sym (keys_are (union [] (t ∷ ts)))) (all_union (λ u. length u ≡ length t) [] (t ∷ ts) tt (refl, all_long (length t) ts f)))
    go true false f i = cc
    go false c f i = cc

-- the keys of braces
pub keys_long : (w : World) (s : Scope) (b : Braces) (k : Keys) → index w s b ≡ Ok k → AreKeys k.width k.rows
keys_long w s (empty o p c) k e = go (has_part p) e
  where
    go : (b : Bool) → (if b then rejected KindMismatch (span_between o c) else Ok no_keys) ≡ Ok k → AreKeys k.width k.rows
    go true h = cc
    go false h = subst (λ (z : Keys). AreKeys z.width z.rows) (is_ok no_keys k h) refl
keys_long w s (filled o i is p c) k e = then_ok opening (open_with from_tuples from_value) k e (λ x h j. go x j)
  where
    at : Span
    at = span_between o c

    opening : Outcome Opening
    opening = if has_in i then and_then (set_after w s i) (λ ts. Ok (walking ts)) else and_then (value w s i) (opened at (any_in is))

    from_tuples : List Tuple → Outcome Keys
    from_tuples ts = and_then (each (onward (place w i) (walk at w is) (start s)) ts []) (selected (width_by_form at w s i is) (λ q. holds at w q p))

    from_value : Value → Outcome Keys
    from_value v = and_then (values w s is (v ∷ [])) (listed at s (has_part p))

    no_rows : AreAlike []
    no_rows = record { width = 0; long = tt }

    go : (x : Opening) → open_with from_tuples from_value x ≡ Ok k → AreKeys k.width k.rows
    go (walking ts) j =
        then_ok (each (onward (place w i) (walk at w is) (start s)) ts []) (selected (width_by_form at w s i is) (λ q. holds at w q p)) k j (λ rows l m.
        selected_long (width_by_form at w s i is) (λ q. holds at w q p) rows k (each_alike (place w i) (walk at w is) (λ q f r a b. walk_alike at w is q f r a b) (start s) ts [] rows no_rows l) m)
    go (listing v) j =
        then_ok (values w s is (v ∷ [])) (listed at s (has_part p)) k j (λ vs l m.
        then_ok (if has_part p then rejected KindMismatch at else tuples_in at vs []) (λ ts. listed_as at s ts (union [] ts)) k m (λ ts q r. listed_long at s ts k r))
