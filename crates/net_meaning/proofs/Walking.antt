-- The keys that walks find are those to which items lead.
use Rattle.std.specs.Prelude.{◌≡◌, ◌+◌, ℕ, Bool, true, false, List, [], ◌∷◌, ◌++◌, map, length, nat_eq, nat_le, nat_lt, Option, None, Some, if◌then◌else◌, ℤ, IfOk, ⊤}
use Rattle.std.specs.List.{AllByRecursion, AllZip}
use Rattle.std.proofs.Common.{refl, ap, sym, ◌∙◌, subst, inl, inr, append_assoc, append-nil, arith}
use Rattle.std.proofs.lemmas.Bool.{eqb-true}
use Rattle.std.proofs.lemmas.List.{map-append}
use Rattle.net_base.specs.declared.diagnostic.Span.{Span}
use Rattle.net_base.specs.Outcomes.{Outcome, and_then, each}
use Rattle.net_sets.specs.declared.member.Member.{Member}
use Rattle.net_sets.specs.Limits.{arity_limit, tuples_limit}
use Rattle.net_sets.specs.Operations.{union}
use Rattle.net_sets.specs.Sets.{Tuple, same_member, same_tuple}
use Rattle.net_tree.specs.Tree.{Tree, leaf}
use Rattle.net_expr.specs.declared.row.PartialRow.{PartialRow}
use Rattle.net_expr.specs.declared.row.Row.{Row}
use Rattle.net_expr.specs.declared.row.Keys.{Keys}
use Rattle.net_expr.specs.declared.value.Value.{Value as Found}
use Rattle.net_expr.specs.declared.value.Value.TheVariants as found
use Rattle.net_expr.specs.Items.{needed, new_dummy}
use Rattle.net_expr.specs.Operators.{longer}
use Rattle.net_expr.specs.Rows.{bind, matches_member, matches_tuple, matches_as_tuple, match_component, match_whole, if_fits, go_on, onward, same_arity, finished_key, keep, filter_rows, width_of, selected, as_set, keys_of, rows_of, tuple_in, tuples_in, all_of, listed_as, listed}
use Rattle.net_expr.specs.Worlds.{Name, World, Scope}
use Rattle.net_expr.proofs.Distinct.{IsLong}
use Rattle.net_meaning.specs.Laws.{meaning_of}
use Rattle.net_meaning.specs.Operators.{Value, One, Several, Many, IsTuple, HaveOneDimension}
use Rattle.net_meaning.specs.Operators as meaning
use Rattle.net_meaning.specs.OfTrees.{env_with}
use Rattle.net_meaning.specs.Values.{Key, Whether, Filters, Continues, FromEach, Matches, MatchesWhole}
use Rattle.net_meaning.proofs.Giving.{gives_then, gives_any, gives_if, gives_as}

abbrev no_key : Option Key
no_key = None

-- a key so far, which is cut where it has more than four members
abbrev pub Cuts : Option Tuple → Tuple → Type 0
Cuts None t = ⊤
Cuts (Some u) t = u ≡ t

pub cut_longer : (t : Tuple) (o : Option Tuple) (k : Tuple) → Cuts o k → Cuts (longer t o) (k ++ t)
cut_longer t None k c = tt
cut_longer t (Some u) k c = go (nat_le (length u + length t) arity_limit)
  where
    go : (b : Bool) → Cuts (if b then Some (u ++ t) else None) (k ++ t)
    go true = ap (λ (z : Tuple). z ++ t) c
    go false = tt

module _ (af : Name → Option (Tuple → ℤ)) (yf : ℤ) (w : World) where
  abbrev pub key_at : Scope → Tuple → Key
  key_at s k = record { key = k; env = env_with af yf w s }

  abbrev pub as_key : Row → Key
  as_key r = key_at r.scope r.key

  -- a place stands for a key, and no place for none
  abbrev pub PlaceIs : (Option Key → Type 0) → Option PartialRow → Type 0
  PlaceIs R None = R None
  PlaceIs R (Some q) = (k : Tuple) × Cuts q.key k × R (Some (key_at q.scope k))

  -- from any key that the place stands for, what comes out is told by R
  abbrev pub Steps : (Key → Option Key → Type 0) → (PartialRow → Outcome (Option PartialRow)) → Type 0
  Steps R next = (q : PartialRow) (k : Tuple) → Cuts q.key k → IfOk (next q) (PlaceIs (R (key_at q.scope k)))

  -- a component
  pub meets : (at : Span) (o : Option Name) (own : Outcome Found) (Own : Value → Type 0) (m : Member) (p : PartialRow) (k : Tuple) → Cuts p.key k → IfOk own (λ v. Own (meaning_of v))
      → (Rest : Key → Option Key → Type 0) (next : PartialRow → Outcome (Option PartialRow)) → Steps Rest next
      → IfOk (and_then (match_component at o own m p) (if_fits next)) (PlaceIs (Matches (key_at p.scope k) o Own m Rest))
  meets at (Some name) own Own m p k c h Rest next rest = rest (bind name m p) (k ++ m ∷ []) (cut_longer (m ∷ []) p.key k c)
  meets at None own Own m p k c h Rest next rest =
      gives_then (λ o. (u : Member) × Own (One u) × (o ≡ (if same_member u m then Some p else None))) _ (and_then own (matches_member at m p)) (if_fits next)
      (gives_then (λ v. Own (meaning_of v)) _ own (matches_member at m p) h member)
      (λ o (u, g, e). subst (λ z. IfOk (if_fits next z) (PlaceIs (Matches (key_at p.scope k) None Own m Rest))) (sym e) (go u g (same_member u m) refl))
    where
      member : (v : Found) → Own (meaning_of v) → IfOk (matches_member at m p v) (λ o. (u : Member) × Own (One u) × (o ≡ (if same_member u m then Some p else None)))
      member (found.One u) g = (u, g, refl)
      member (found.Several t) g = tt
      member (found.Many d ts) g = tt
      member (found.Truth b) g = tt

      fitting : (u : Member) → Own (One u) → same_member u m ≡ true → (o : Option PartialRow) → PlaceIs (Rest (key_at p.scope k)) o → PlaceIs (Matches (key_at p.scope k) None Own m Rest) o
      fitting u g e None r = (u, g, subst (λ b. Whether b (Rest (key_at p.scope k) None) (no_key ≡ None)) (sym e) r)
      fitting u g e (Some q) (j, d, r) = (j, d, (u, g, subst (λ b. Whether b (Rest (key_at p.scope k) (Some (key_at q.scope j))) (Some (key_at q.scope j) ≡ None)) (sym e) r))

      go : (u : Member) → Own (One u) → (b : Bool) → same_member u m ≡ b → IfOk (if_fits next (if b then Some p else None)) (PlaceIs (Matches (key_at p.scope k) None Own m Rest))
      go u g true e = gives_as _ _ (next p) (fitting u g e) (rest p k c)
      go u g false e = (u, g, subst (λ b. Whether b (Rest (key_at p.scope k) None) (no_key ≡ None)) (sym e) refl)

  -- a new dummy index alone takes a tuple of one component
  abbrev pub FitsAlone : Option Name → Tuple → Type 0
  FitsAlone None t = ⊤
  FitsAlone (Some n) t = length t ≡ 1

  pub fits_alone : (s : Scope) (x : Tree) (t : Tuple) → IsLong (needed x) t → FitsAlone (new_dummy w s x) t
  fits_alone s (leaf k) t h = go (new_dummy w s (leaf k))
    where
      go : (o : Option Name) → FitsAlone o t
      go None = tt
      go (Some n) = h
  fits_alone s _ t h = tt

  -- what stands alone
  pub meets_whole : (at : Span) (o : Option Name) (own : Outcome Found) (Own : Value → Type 0) (t : Tuple) (p : PartialRow) (k : Tuple) → FitsAlone o t → Cuts p.key k → IfOk own (λ v. Own (meaning_of v))
      → IfOk (match_whole at o own t p) (PlaceIs (MatchesWhole (key_at p.scope k) o Own t))
  meets_whole at (Some name) own Own [] p k f c h = absurd (let l = f in omega arith)
  meets_whole at (Some name) own Own (m ∷ []) p k f c h = (k ++ m ∷ [], cut_longer (m ∷ []) p.key k c, refl)
  meets_whole at (Some name) own Own (m ∷ n ∷ ms) p k f c h = absurd (let l = f in omega arith)
  meets_whole at None own Own t p k f c h = gives_then (λ v. Own (meaning_of v)) _ own (matches_as_tuple at t p) h whole
    where
      result : (v : Found) (u : Tuple) → Own (meaning_of v) → IsTuple (meaning_of v) u → length u ≡ length t → (b : Bool) → same_tuple u t ≡ b → PlaceIs (MatchesWhole (key_at p.scope k) None Own t) (if b then Some p else None)
      result v u g i l true e = (k, c, (meaning_of v, u, g, i, l, subst (λ b. Whether b (Some (key_at p.scope k) ≡ Some (key_at p.scope k)) (Some (key_at p.scope k) ≡ None)) (sym e) refl))
      result v u g i l false e = (meaning_of v, u, g, i, l, subst (λ b. Whether b (no_key ≡ Some (key_at p.scope k)) (no_key ≡ None)) (sym e) refl)

      tuple : (v : Found) (u : Tuple) → Own (meaning_of v) → IsTuple (meaning_of v) u → IfOk (matches_tuple at t p u) (PlaceIs (MatchesWhole (key_at p.scope k) None Own t))
      tuple v u g i = gives_if _ (nat_eq (length u) (length t)) _ _ (λ e. result v u g i (eqb-true (length u) (length t) e) (same_tuple u t) refl) (λ e. tt)

      whole : (v : Found) → Own (meaning_of v) → IfOk (matches_as_tuple at t p v) (PlaceIs (MatchesWhole (key_at p.scope k) None Own t))
      whole (found.One m) g = tuple (found.One m) (m ∷ []) g (meaning.one m)
      whole (found.Several u) g = tuple (found.Several u) u g (meaning.several u)
      whole (found.Many d ts) g = tt
      whole (found.Truth b) g = tt

  -- rows behind others are the keys that R tells
  abbrev pub Adds : (List Key → Type 0) → List Row → List Row → Type 0
  Adds R found rows = (new : List Row) × (rows ≡ found ++ new) × R (map as_key new)

  abbrev pub Walked : (Key → List Key → Type 0) → (PartialRow → List Row → Outcome (List Row)) → Type 0
  Walked Next next = (q : PartialRow) (k : Tuple) → Cuts q.key k → (found : List Row) → IfOk (next q found) (Adds (Next (key_at q.scope k)) found)

  goes_on : (Next : Key → List Key → Type 0) (next : PartialRow → List Row → Outcome (List Row)) → Walked Next next → (R : Option Key → Type 0) (found : List Row) (o : Option PartialRow) → PlaceIs R o
      → IfOk (go_on next found o) (Adds (λ keys. (r : Option Key) × R r × Continues Next r keys) found)
  goes_on Next next h R found None r = ([], sym (append-nil found), (None, r, refl))
  goes_on Next next h R found (Some q) (k, c, r) = gives_as _ _ (next q found) (λ rows (new, e, n). (new, e, (Some (key_at q.scope k), r, n))) (h q k c found)

  pub from_each : (Long : Tuple → Type 0) (Place' : Tuple → Option Key → Type 0) (place : Tuple → PartialRow → Outcome (Option PartialRow)) (Next : Key → List Key → Type 0) (next : PartialRow → List Row → Outcome (List Row)) (p : PartialRow)
      → ((t : Tuple) → Long t → IfOk (place t p) (PlaceIs (Place' t))) → Walked Next next → (ts : List Tuple) (found : List Row) → AllByRecursion Long ts → IfOk (each (onward place next p) ts found) (Adds (FromEach Place' Next ts) found)
  from_each Long Place' place Next next p h k [] found l = ([], sym (append-nil found), refl)
  from_each Long Place' place Next next p h k (t ∷ ts) found long =
      gives_then (Adds (λ keys. (r : Option Key) × Place' t r × Continues Next r keys) found) _ (onward place next p t found) _
      (gives_then (PlaceIs (Place' t)) _ (place t p) (go_on next found) (h t long.0) (goes_on Next next k (Place' t) found))
      (λ mid (new, e, (r, i, j)).
      gives_as _ _ (each (onward place next p) ts mid) (λ rows (more, f, l).
      (new ++ more, f ∙ ap (λ (z : List Row). z ++ more) e ∙ append_assoc found new more, (r, map as_key new, map as_key more, i, j, l, map-append as_key new more)))
      (from_each Long Place' place Next next p h k ts mid long.1))

  pub row_is : (at : Span) (s : Scope) (o : Option Tuple) (k : Tuple) → Cuts o k → (found : List Row) → IfOk (finished_key at s o found) (Adds (λ keys. keys ≡ key_at s k ∷ []) found)
  row_is at s None k c found = tt
  row_is at s (Some u) k c found =
      gives_if _ (same_arity u found) _ _ (λ e. gives_if _ (nat_lt (length found) tuples_limit) _ _ (λ f. ((record { key = u; scope = s }) ∷ [], refl, ap (λ (z : Tuple). key_at s z ∷ []) c)) (λ f. tt)) (λ e. tt)

  -- the rows at which a condition holds
  pub keeps : (P : Key → Bool → Type 0) (test : Scope → Outcome Bool) → ((r : Row) → IfOk (test r.scope) (P (as_key r))) → (rows found : List Row) → IfOk (filter_rows test rows found) (Adds (Filters P (map as_key rows)) found)
  keeps P test h [] found = ([], sym (append-nil found), refl)
  keeps P test h (r ∷ rows) found = gives_then (P (as_key r)) _ (test r.scope) _ (h r) (go (λ others. keeps P test h rows others))
    where
      go : ((others : List Row) → IfOk (filter_rows test rows others) (Adds (Filters P (map as_key rows)) others)) → (b : Bool) → P (as_key r) b → IfOk (filter_rows test rows (keep r found b)) (Adds (Filters P (map as_key (r ∷ rows))) found)
      go rest true i = gives_as _ _ (filter_rows test rows (found ++ r ∷ [])) (λ left (new, e, j). (r ∷ new, e ∙ append_assoc found (r ∷ []) new, (map as_key new, j, inl (i, refl)))) (rest (found ++ r ∷ []))
      go rest false i = gives_as _ _ (filter_rows test rows found) (λ left (new, e, j). (new, e, (map as_key new, j, inr (i, refl)))) (rest found)

  pub selected_is : (P : Key → Bool → Type 0) (by_form : Outcome ℕ) (test : Scope → Outcome Bool) → ((r : Row) → IfOk (test r.scope) (P (as_key r))) → (rows : List Row)
      → IfOk (selected by_form test rows) (λ k. Filters P (map as_key rows) (map as_key k.rows))
  selected_is P by_form test h rows =
      gives_any _ (width_of rows by_form) _ (λ n e. gives_then _ _ (filter_rows test rows []) _ (keeps P test h rows []) (λ left (new, f, j). subst (λ z. Filters P (map as_key rows) (map as_key z)) (sym f) j))

  -- members and tuples that are listed
  tuple_in_is : (at : Span) (v : Found) → IfOk (tuple_in at v) (IsTuple (meaning_of v))
  tuple_in_is at (found.One m) = meaning.one m
  tuple_in_is at (found.Several t) = meaning.several t
  tuple_in_is at (found.Many d ts) = tt
  tuple_in_is at (found.Truth b) = tt

  tuples_in_are : (at : Span) (vs : List Found) (found : List Tuple) → IfOk (tuples_in at vs found) (λ ts. (new : List Tuple) × (ts ≡ found ++ new) × AllZip IsTuple (map meaning_of vs) new)
  tuples_in_are at [] found = ([], sym (append-nil found), tt)
  tuples_in_are at (v ∷ vs) found =
      gives_then (IsTuple (meaning_of v)) _ (tuple_in at v) _ (tuple_in_is at v) (λ t i.
      gives_as _ _ (tuples_in at vs (found ++ t ∷ [])) (λ ts (new, e, all). (t ∷ new, e ∙ append_assoc found (t ∷ []) new, (i, all))) (tuples_in_are at vs (found ++ t ∷ [])))

  rows_are : (s : Scope) (ts : List Tuple) → map as_key (rows_of s ts) ≡ map (λ t. key_at s t) ts
  rows_are s [] = refl
  rows_are s (t ∷ ts) = ap (λ (z : List Key). key_at s t ∷ z) (rows_are s ts)

  all_long : (n : ℕ) (ts : List Tuple) → all_of n ts ≡ true → AllByRecursion (λ t. length t ≡ n) ts
  all_long n [] e = tt
  all_long n (u ∷ us) e = step (nat_eq (length u) n) refl e (all_long n us)
    where
      step : (b : Bool) → nat_eq (length u) n ≡ b → (if b then all_of n us else false) ≡ true → (all_of n us ≡ true → AllByRecursion (λ t. length t ≡ n) us) → AllByRecursion (λ t. length t ≡ n) (u ∷ us)
      step true i j more = (eqb-true (length u) n i, more j)
      step false i j more = cc

  listed_as_is : (at : Span) (s : Scope) (ts : List Tuple) → IfOk (listed_as at s ts (union [] ts)) (λ k. HaveOneDimension ts × (map as_key k.rows ≡ map (λ t. key_at s t) (union [] ts)))
  listed_as_is at s [] = ((0, tt), refl)
  listed_as_is at s (t ∷ ts) =
      gives_if _ (all_of (length t) ts) _ _ (λ e. gives_if _ (nat_le (length (union [] (t ∷ ts))) tuples_limit) _ _ (λ f. ((length t, (refl, all_long (length t) ts e)), rows_are s (union [] (t ∷ ts)))) (λ f. tt)) (λ e. tt)

  pub listed_is : (at : Span) (s : Scope) (conditioned : Bool) (vs : List Found) → IfOk (listed at s conditioned vs) (λ k. (conditioned ≡ false) × (ts : List Tuple) × AllZip IsTuple (map meaning_of vs) ts × HaveOneDimension ts × (map as_key k.rows ≡ map (λ t. key_at s t) (union [] ts)))
  listed_is at s true vs = tt
  listed_is at s false vs =
      gives_then _ _ (tuples_in at vs []) _ (tuples_in_are at vs []) (λ ts (new, e, all).
      gives_as _ _ (listed_as at s ts (union [] ts)) (λ k f. (refl, ts, subst (AllZip IsTuple (map meaning_of vs)) (sym e) all, f.0, f.1)) (listed_as_is at s ts))

  pub keys_are : (rows : List Row) → map (λ k. k.key) (map as_key rows) ≡ keys_of rows
  keys_are [] = refl
  keys_are (r ∷ rows) = ap (λ (z : List Tuple). r.key ∷ z) (keys_are rows)

  pub as_set_is : (at : Span) (k : Keys) → IfOk (as_set at k) (λ v. meaning_of v ≡ Many (union [] (map (λ q. q.key) (map as_key k.rows))))
  as_set_is at k = gives_if _ (nat_le (length (union [] (keys_of k.rows))) tuples_limit) _ _ (λ e. ap (λ ts. Many (union [] ts)) (sym (keys_are k.rows))) (λ e. tt)
