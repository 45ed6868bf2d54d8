-- What an expression is evaluated to is its value.
use Rattle.std.specs.Prelude.{◌≡◌, ◌||◌, ℕ, Bool, true, false, List, [], ◌∷◌, ◌++◌, map, length, Option, None, Some, if◌then◌else◌, Ok, IfOk, ℤ, pos}
use Rattle.std.specs.List.{AllByRecursion, AllZip}
use Rattle.std.proofs.Common.{refl, ap, sym, ◌∙◌, subst, inl, inr, append_assoc, append-nil, arith}
use Rattle.net_base.specs.declared.diagnostic.Span.{Span}
use Rattle.net_base.specs.Outcomes.{Outcome, and_then, each}
use Rattle.net_sets.specs.Sets.{Tuple}
use Rattle.net_lex.specs.declared.token.Token.{Token}
use Rattle.net_tree.specs.Erasure.{expressions}
use Rattle.net_tree.specs.Items.{is_in}
use Rattle.net_tree.specs.Operations.{operation, reduction, is_minus, has_minus, is_outflow}
use Rattle.net_tree.specs.Role.{role_of}
use Rattle.net_tree.specs.Spans.{span_of, span_between, braces_span}
use Rattle.net_tree.specs.Tree.{Tree, Links, Part, Braces, leaf, indexed, parens, tuple, negated, braced, signed, reduced, chain, choice, net, none, link, absent, part, empty, filled}
use Rattle.net_expr.specs.declared.row.PartialRow.{PartialRow}
use Rattle.net_expr.specs.declared.row.Row.{Row}
use Rattle.net_expr.specs.declared.value.Value.{Value as Found}
use Rattle.net_expr.specs.declared.value.Value.TheVariants as found
use Rattle.net_expr.specs.Items as items
use Rattle.net_expr.specs.Items.{begins_range, has_in, any_in, has_part, needed, fits_needed, chosen, tuples_of, is_set, Opening, walking, listing, opened, open_with}
use Rattle.net_expr.specs.Numbers as numbers
use Rattle.net_expr.specs.Numbers.{turned, sized, range_of}
use Rattle.net_expr.specs.Operators.{truth, tuple_of}
use Rattle.net_expr.specs.Rows.{start, with_key, onward, selected, listed, as_set, reduce}
use Rattle.net_expr.specs.SetValues.{HasSets}
use Rattle.net_expr.specs.Values.{token_value, value, otherwise, values, chained, index, walk, set_after, place, left_place, places, holds, with_sign}
use Rattle.net_expr.specs.Widths.{width_by_form}
use Rattle.net_expr.specs.Worlds.{Name, World, Scope, bound, name_at}
use Rattle.net_expr.specs.Walks.{joined}
use Rattle.net_expr.proofs.Alike.{AreAlike, each_alike, walk_alike}
use Rattle.net_expr.proofs.Distinct.{IsLong, LongIn}
use Rattle.net_expr.proofs.KeysOnce.{opened_set}
use Rattle.net_expr.proofs.SetsGiven.{IsSetValue, gives, keeps_sets}
use Rattle.net_expr.proofs.Walked.{item_set as found_set}
use Rattle.net_expr.proofs.Walking.{chained-step}
use Rattle.net_meaning.specs.OfTrees.{env_with, env_of, new_dummy, AreOperandValues, IsItemSet, IsAbsent, IsValue, IsElse, AreValues, IsChain, AreKeys, HasTruth, Iterates, IsSetAfterIn, Extends, Agrees, AllAgree}
use Rattle.net_meaning.specs.Laws.{meaning_of, IsArcFree, AreArcFree, IsPartArcFree, AreBracesArcFree, EvaluationIsSoundWith, EvaluationIsSound, KeysAreSound}
use Rattle.net_meaning.specs.OfTrees as meant
use Rattle.net_meaning.specs.Operators.{Value, Many, Truth, number, Combines, IsTuple, IsRangeOf, HaveOneDimension}
use Rattle.net_meaning.specs.Values as meaning
use Rattle.net_meaning.specs.Values.{Matches, MatchesWhole, Env, Key, Whether, IsArcOr, Denotes, IsLeaf, AreMembers}
use Rattle.net_meaning.proofs.Erased.{begins_range_is, new_dummy_is, item_set, operand_values, size_is}
use Rattle.net_meaning.proofs.Giving.{gives_then, gives_with, gives_if, gives_as, gives_both, gives_ok}
use Rattle.net_meaning.proofs.Naming.{leaf_is, name_is, tuple_is}
use Rattle.net_meaning.proofs.Operating.{number_is, truth_is, sized_is, joins, is_set as is_set_value}
use Rattle.net_meaning.proofs.Reducing.{reduce_is}
use Rattle.net_meaning.proofs.Spanning.{span_is}
use Rattle.net_meaning.proofs.Walking.{Cuts, cut_longer, key_at, as_key, PlaceIs, meets, meets_whole, Adds, Walked, from_each, row_is, selected_is, listed_is, as_set_is, keys_are, fits_alone}

module _ (af : Name → Option (Tuple → ℤ)) (yf : ℤ) where
  -- the values of some operands behind others
  abbrev Operands : World → Scope → Links → List Found → List Found → Type 0
  Operands w s l before vs = (us : List Found) × (vs ≡ before ++ us) × AreValues (env_with af yf w s) l (map meaning_of us)

  -- the value of an operand and those of the others
  abbrev FromFirst : World → Scope → Tree → Links → List Found → Type 0
  FromFirst w s x l vs = (v : Found) × (us : List Found) × IsValue (env_with af yf w s) x (meaning_of v) × AreValues (env_with af yf w s) l (map meaning_of us) × (vs ≡ v ∷ us)

  first_of : (w : World) (s : Scope) (x : Tree) (l : Links) → IfOk (value w s x) (λ v. IsValue (env_with af yf w s) x (meaning_of v)) → ((before : List Found) → IfOk (values w s l before) (Operands w s l before))
      → IfOk (and_then (value w s x) (λ v. values w s l (v ∷ []))) (FromFirst w s x l)
  first_of w s x l h k =
      gives_then (λ v. IsValue (env_with af yf w s) x (meaning_of v)) _ (value w s x) _ h (λ v i. gives_as _ _ (values w s l (v ∷ [])) (λ vs (us, e, j). (v, us, i, j, e)) (k (v ∷ [])))

  members_of : (at : Span) (w : World) (s : Scope) (x : Tree) (l : Links) (vs : List Found) → FromFirst w s x l vs → IfOk (tuple_of at vs) (AreMembers (IsValue (env_with af yf w s) x) (AreValues (env_with af yf w s) l))
  members_of at w s x l vs (v, us, i, j, e) = gives_as _ _ (tuple_of at vs) (λ t f. (meaning_of v, map meaning_of us, i, j, sym (ap (map meaning_of) e) ∙ f)) (tuple_is at vs)

  chosen_is : (at : Span) (n : Option ℕ) (v : Found) → IfOk (chosen at n v) (λ ts. meaning_of v ≡ Many ts)
  chosen_is at n (found.Many d ts) = gives_if _ (fits_needed d n) _ _ (λ e. refl) (λ e. tt)
  chosen_is at n (found.One m) = tt
  chosen_is at n (found.Several t) = tt
  chosen_is at n (found.Truth b) = tt

  tuples_are : (at : Span) (v : Found) → IfOk (tuples_of at v) (λ ts. meaning_of v ≡ Many ts)
  tuples_are at (found.Many d ts) = refl
  tuples_are at (found.One m) = tt
  tuples_are at (found.Several t) = tt
  tuples_are at (found.Truth b) = tt

  signed_is : (at : Span) (minus : Bool) (v : Found) → IfOk (with_sign at minus v) (λ u. (n : _) × (meaning_of v ≡ number n) × (meaning_of u ≡ number (turned minus n)))
  signed_is at minus v = gives_then _ _ (numbers.number at v) _ (number_is at v) (λ n e. gives_as _ _ (sized at (turned minus n)) (λ u f. (n, e, f)) (sized_is at (turned minus n)))

  still_zero : (b : Bool) → turned b (pos 0) ≡ pos 0
  still_zero true = refl
  still_zero false = refl

  is_true : (w : World) (s : Scope) (x : Tree) (at : Span) → IfOk (value w s x) (λ v. IsValue (env_with af yf w s) x (meaning_of v)) → IfOk (and_then (value w s x) (truth at)) (λ b. IsValue (env_with af yf w s) x (Truth b))
  is_true w s x at h = gives_then (λ v. IsValue (env_with af yf w s) x (meaning_of v)) _ (value w s x) (truth at) h (λ v i. gives_as _ _ (truth at v) (λ b e. subst (IsValue (env_with af yf w s) x) e i) (truth_is at v))

  choice_is : (w : World) (s : Scope) (x y : Tree) (p : Part) (b : Bool) → IsValue (env_with af yf w s) x (Truth b) → IfOk (value w s y) (λ v. IsValue (env_with af yf w s) y (meaning_of v)) → IfOk (otherwise w s p) (λ v. IsElse (env_with af yf w s) p (meaning_of v))
      → IfOk (if b then value w s y else otherwise w s p) (λ v. (c : Bool) × IsValue (env_with af yf w s) x (Truth c) × Whether c (IsValue (env_with af yf w s) y (meaning_of v)) (IsElse (env_with af yf w s) p (meaning_of v)))
  choice_is w s x y p true h i j = gives_as _ _ (value w s y) (λ v m. (true, h, m)) i
  choice_is w s x y p false h i j = gives_as _ _ (otherwise w s p) (λ v m. (false, h, m)) j

  chain_is : (w : World) (s : Scope) (n : ℕ) (x : Tree) (l : Links) (v : Found) → IsValue (env_with af yf w s) x (meaning_of v) → (b : Bool)
      → ((before : List Found) → IfOk (values w s l before) (Operands w s l before)) → IfOk (chained (span_of (chain n x l)) w s l v) (λ u. IsChain (env_with af yf w s) (meaning_of v) l (meaning_of u))
      → IfOk (if b then and_then (values w s l (v ∷ [])) (range_of (span_of (chain n x l))) else chained (span_of (chain n x l)) w s l v)
      (λ u. (z : Value) × IsValue (env_with af yf w s) x z × Whether b (meaning.HasRange (AreOperandValues (env_with af yf w s) l) z (meaning_of u)) (IsChain (env_with af yf w s) z l (meaning_of u)))
  chain_is w s n x l v h true i j =
      gives_then (Operands w s l (v ∷ [])) _ (values w s l (v ∷ [])) (range_of (span_of (chain n x l))) (i (v ∷ [])) (λ vs (us, e, all).
      gives_as _ _ (range_of (span_of (chain n x l)) vs) (λ u (ts, r, f). (meaning_of v, h, (map meaning_of us, ts, operand_values (env_with af yf w s) l (map meaning_of us) all, subst (λ zs. IsRangeOf (map meaning_of zs) ts) e r, f))) (span_is (span_of (chain n x l)) vs))
  chain_is w s n x l v h false i j = gives_as _ _ (chained (span_of (chain n x l)) w s l v) (λ u m. (meaning_of v, h, m)) j

  placed_is : (w : World) (n : ℕ) (x : Tree) (o : _) (y : Tree) (t : Tuple) (q : PartialRow) (k : Tuple) → Cuts q.key k → (b : Bool)
      → (b ≡ true → IfOk (left_place (span_of (chain n x (link o y none))) w x (value w q.scope x) t q) (PlaceIs af yf w (Agrees (key_at af yf w q.scope k) x (IsValue (env_with af yf w q.scope) x) t)))
      → IfOk (if b then left_place (span_of (chain n x (link o y none))) w x (value w q.scope x) t q else Ok (Some (with_key t q)))
      (PlaceIs af yf w (λ r. Whether b (Agrees (key_at af yf w q.scope k) x (IsValue (env_with af yf w q.scope) x) t r) (r ≡ Some (meaning.extended (key_at af yf w q.scope k) t))))
  placed_is w n x o y t q k cut true h = gives_as _ _ (left_place (span_of (chain n x (link o y none))) w x (value w q.scope x) t q) go (h refl)
    where
      go : (o : Option PartialRow) → PlaceIs af yf w (Agrees (key_at af yf w q.scope k) x (IsValue (env_with af yf w q.scope) x) t) o
          → PlaceIs af yf w (λ r. Whether true (Agrees (key_at af yf w q.scope k) x (IsValue (env_with af yf w q.scope) x) t r) (r ≡ Some (meaning.extended (key_at af yf w q.scope k) t))) o
      go None i = i
      go (Some z) i = i
  placed_is w n x o y t q k cut false h = (k ++ t, cut_longer t q.key k cut, refl)

  -- the set of an item
  set_is : (w : World) (s : Scope) (i : Tree) (at : Span) (b : Bool) → has_in i ≡ b → IfOk (value w s i) (λ v. IsValue (env_with af yf w s) i (meaning_of v)) → (has_in i ≡ true → IfOk (set_after w s i) (IsSetAfterIn (env_with af yf w s) i))
      → IfOk (if b then set_after w s i else and_then (value w s i) (tuples_of at)) (λ ts. Whether b (IsSetAfterIn (env_with af yf w s) i ts) (IsValue (env_with af yf w s) i (Many ts)))
  set_is w s i at true e h k = k e
  set_is w s i at false e h k = gives_then (λ v. IsValue (env_with af yf w s) i (meaning_of v)) _ (value w s i) (tuples_of at) h (λ v j. gives_as _ _ (tuples_of at v) (λ ts f. subst (IsValue (env_with af yf w s) i) f j) (tuples_are at v))

  -- the tuples of an item's set have as many components as its left side
  long_items : (w : World) → HasSets w → (s : Scope) (i : Tree) (at : Span) (ts : List Tuple) → (if has_in i then set_after w s i else and_then (value w s i) (tuples_of at)) ≡ Ok ts → AllByRecursion (LongIn i) ts
  long_items w g s i at ts e = let set = found_set w s i at ts (keeps_sets w g) e in set.fits

  item_is : (at : Span) (w : World) → HasSets w → (o : _) (i : Tree) (is : Links) (q : PartialRow) (k : Tuple) → Cuts q.key k → (before : List Row)
      → IfOk (value w q.scope i) (λ v. IsValue (env_with af yf w q.scope) i (meaning_of v)) → (has_in i ≡ true → IfOk (set_after w q.scope i) (IsSetAfterIn (env_with af yf w q.scope) i))
      → ((t : Tuple) → LongIn i t → IfOk (place w i t q) (PlaceIs af yf w (Extends (key_at af yf w q.scope k) i t))) → Walked af yf w (λ z. Iterates z is) (walk at w is)
      → IfOk (walk at w (link o i is) q before) (Adds af yf w (Iterates (key_at af yf w q.scope k) (link o i is)) before)
  item_is at w g o i is q k cut before h set lead next =
      gives_with (IsItemSet i (IsSetAfterIn (env_with af yf w q.scope) i) (IsValue (env_with af yf w q.scope) i)) _ (if has_in i then set_after w q.scope i else and_then (value w q.scope i) (tuples_of at)) _
      (gives_as _ _ (if has_in i then set_after w q.scope i else and_then (value w q.scope i) (tuples_of at)) (item_set i (IsSetAfterIn (env_with af yf w q.scope) i) (IsValue (env_with af yf w q.scope) i)) (set_is w q.scope i at (has_in i) refl h set))
      (λ ts e j. gives_as _ _ (each (onward (place w i) (walk at w is) q) ts before) (λ rows (new, e, f). (new, e, (ts, j, f)))
      (from_each af yf w (LongIn i) (Extends (key_at af yf w q.scope k) i) (place w i) (λ z. Iterates z is) (walk at w is) q lead next ts before (long_items w g q.scope i at ts e)))

  -- what the first item of braces opens
  abbrev Opens : World → Scope → Tree → Opening → Type 0
  Opens w s i (walking ts) = IsItemSet i (IsSetAfterIn (env_with af yf w s) i) (IsValue (env_with af yf w s) i) ts
  Opens w s i (listing v) = IsValue (env_with af yf w s) i (meaning_of v)

  opens : (at : Span) (w : World) (s : Scope) (i : Tree) (indexing : Bool) → IfOk (value w s i) (λ v. IsValue (env_with af yf w s) i (meaning_of v)) → (has_in i ≡ true → IfOk (set_after w s i) (IsSetAfterIn (env_with af yf w s) i))
      → IfOk (if has_in i then and_then (set_after w s i) (λ ts. Ok (walking ts)) else and_then (value w s i) (opened at indexing)) (Opens w s i)
  opens at w s i indexing h k = go (has_in i) refl
    where
      at_set : (b : Bool) → has_in i ≡ b → (ts : List Tuple) → Whether b (IsSetAfterIn (env_with af yf w s) i ts) (IsValue (env_with af yf w s) i (Many ts)) → IsItemSet i (IsSetAfterIn (env_with af yf w s) i) (IsValue (env_with af yf w s) i) ts
      at_set b e ts j =
          item_set i (IsSetAfterIn (env_with af yf w s) i) (IsValue (env_with af yf w s) i) ts (subst (λ c. Whether c (IsSetAfterIn (env_with af yf w s) i ts) (IsValue (env_with af yf w s) i (Many ts))) (sym e) j)

      opening : has_in i ≡ false → (v : Found) → IsValue (env_with af yf w s) i (meaning_of v) → IfOk (opened at indexing v) (Opens w s i)
      opening e v j =
          gives_if _ (indexing || is_set v) _ _ (λ f. gives_then (λ ts. meaning_of v ≡ Many ts) _ (tuples_of at v) _ (tuples_are at v) (λ ts g. at_set false e ts (subst (IsValue (env_with af yf w s) i) g j))) (λ f. j)

      go : (b : Bool) → has_in i ≡ b → IfOk (if b then and_then (set_after w s i) (λ ts. Ok (walking ts)) else and_then (value w s i) (opened at indexing)) (Opens w s i)
      go true e = gives_then (IsSetAfterIn (env_with af yf w s) i) _ (set_after w s i) _ (k e) (λ ts j. at_set true e ts j)
      go false e = gives_then (λ v. IsValue (env_with af yf w s) i (meaning_of v)) _ (value w s i) (opened at indexing) h (opening e)

  unsaid : (p : Part) → has_part p ≡ false → IsAbsent p
  unsaid absent e = tt
  unsaid (part m x) e = cc

  filled_is : (w : World) → HasSets w → (s : Scope) (o : Token) (i : Tree) (is : Links) (p : Part) (c : Token)
      → IfOk (value w s i) (λ v. IsValue (env_with af yf w s) i (meaning_of v)) → (has_in i ≡ true → IfOk (set_after w s i) (IsSetAfterIn (env_with af yf w s) i))
      → ((t : Tuple) → LongIn i t → (q : PartialRow) (k : Tuple) → Cuts q.key k → IfOk (place w i t q) (PlaceIs af yf w (Extends (key_at af yf w q.scope k) i t))) → Walked af yf w (λ z. Iterates z is) (walk (span_between o c) w is)
      → ((before : List Found) → IfOk (values w s is before) (Operands w s is before)) → ((r : Row) → IfOk (holds (span_between o c) w r.scope p) (HasTruth p (as_key af yf w r)))
      → IfOk (index w s (filled o i is p c)) (λ k. AreKeys (env_with af yf w s) (filled o i is p c) (map (as_key af yf w) k.rows))
  filled_is w g s o i is p c h set lead next operands test =
      gives_with (Opens w s i) _ (if has_in i then and_then (set_after w s i) (λ ts. Ok (walking ts)) else and_then (value w s i) (opened (span_between o c) (any_in is))) _
      (opens (span_between o c) w s i (any_in is) h set) keys
    where
      alike : (rows : List Row) → AreAlike rows → HaveOneDimension (map (λ q. q.key) (map (as_key af yf w) rows))
      alike rows a = (a.width, subst (AllByRecursion (λ (t : Tuple). length t ≡ a.width)) (sym (keys_are af yf w rows)) a.long)

      keys : (z : Opening) → (if has_in i then and_then (set_after w s i) (λ ts. Ok (walking ts)) else and_then (value w s i) (opened (span_between o c) (any_in is))) ≡ Ok z → Opens w s i z
          → IfOk (open_with (λ ts. and_then (each (onward (place w i) (walk (span_between o c) w is) (start s)) ts []) (selected (width_by_form (span_between o c) w s i is) (λ q. holds (span_between o c) w q p)))
          (λ v. and_then (values w s is (v ∷ [])) (listed (span_between o c) s (has_part p))) z) (λ k. AreKeys (env_with af yf w s) (filled o i is p c) (map (as_key af yf w) k.rows))
      keys (walking ts) l j =
          gives_with (Adds af yf w (meaning.FromEach (Extends (key_at af yf w s []) i) (λ z. Iterates z is) ts) []) _ (each (onward (place w i) (walk (span_between o c) w is) (start s)) ts []) _
          (from_each af yf w (LongIn i) (Extends (key_at af yf w s []) i) (place w i) (λ z. Iterates z is) (walk (span_between o c) w is) (start s) (λ t long. lead t long (start s) [] refl) next ts [] (long_items w g s i (span_between o c) ts (opened_set w s i (span_between o c) (any_in is) ts l)))
          (λ rows same (new, e, f).
          gives_as _ _ (selected (width_by_form (span_between o c) w s i is) (λ q. holds (span_between o c) w q p) rows) (λ k m. inl (map (as_key af yf w) rows, (ts, j, subst (λ z. meaning.FromEach (Extends (key_at af yf w s []) i) (λ z. Iterates z is) ts (map (as_key af yf w) z)) (sym e) f), alike rows (each_alike (place w i) (walk (span_between o c) w is) (λ q f r a b. walk_alike (span_between o c) w is q f r a b) (start s) ts [] rows (record { width = 0; long = tt }) same), m))
          (selected_is af yf w (HasTruth p) (width_by_form (span_between o c) w s i is) (λ q. holds (span_between o c) w q p) test rows))
      keys (listing v) l j =
          gives_then (Operands w s is (v ∷ [])) _ (values w s is (v ∷ [])) _ (operands (v ∷ [])) (λ vs (us, e, all).
          gives_as _ _ (listed (span_between o c) s (has_part p) vs) (λ k (f, ts, tuples, d, g). inr ((meaning_of v, map meaning_of us, ts, j, all, subst (λ zs. AllZip IsTuple (map meaning_of zs) ts) e tuples, d, g), unsaid p f)) (listed_is af yf w (span_between o c) s (has_part p) vs))

  -- a tuple agrees with an expression if it is as long and the components agree
  in_whole : (w : World) (R : Option Key → Type 0) (L : Type 0) (o : Outcome (Option PartialRow)) → L → IfOk o (PlaceIs af yf w R) → IfOk o (PlaceIs af yf w (λ r. L × R r))
  in_whole w R L o l h = gives_as (PlaceIs af yf w R) (PlaceIs af yf w (λ r. L × R r)) o go h
    where
      go : (p : Option PartialRow) → PlaceIs af yf w R p → PlaceIs af yf w (λ r. L × R r) p
      go None i = (l, i)
      go (Some q) (k, cut, i) = (k, cut, (l, i))

  rest_long : (l : Links) (ms : Tuple) → length ms ≡ items.size l → length ms ≡ meaning.size (expressions l)
  rest_long l ms e = e ∙ size_is l

  -- a range or a chain, as the code tells them apart
  range_or_chain : (e : Env) (a : Value) (l : Links) (v : Value) → Whether (begins_range l) (meaning.HasRange (AreOperandValues e l) a v) (IsChain e a l v)
      → Whether (meant.begins_range l) (meaning.HasRange (AreOperandValues e l) a v) (IsChain e a l v)
  range_or_chain e a l v h = subst (λ b. Whether b (meaning.HasRange (AreOperandValues e l) a v) (IsChain e a l v)) (begins_range_is l) h

  -- what holds of the dummy index that the code finds holds of the one that is meant
  as_dummy : (w : World) (s : Scope) (x : Tree) (R : Option Name → Type 0) → R (items.new_dummy w s x) → R (new_dummy (env_with af yf w s) x)
  as_dummy w s x R h = subst R (new_dummy_is af yf w s x) h

  -- the value of an expression; if it is a set, its tuples are distinct and have its dimension
  with_set : (w : World) → HasSets w → (s : Scope) (x : Tree) → IfOk (value w s x) (λ v. IsValue (env_with af yf w s) x (meaning_of v)) → IfOk (value w s x) (λ v. IsValue (env_with af yf w s) x (meaning_of v) × IsSetValue v)
  with_set w g s x h = gives_both (λ v. IsValue (env_with af yf w s) x (meaning_of v)) IsSetValue (value w s x) h (is_set_value (value w s x) (gives w g s x))

  mutual
    means : (w : World) → HasSets w → (s : Scope) (t : Tree) → IsArcFree af yf t → IfOk (value w s t) (λ v. IsValue (env_with af yf w s) t (meaning_of v))
    means w g s (leaf t) z = gives_as _ _ (token_value w s t (role_of t)) (λ v h. subst (λ r. IsArcOr r [] (meaning_of v) (IsLeaf (env_with af yf w s) t.kind t.text (meaning_of v))) (sym z) h) (leaf_is af yf w s t)
    means w g s (indexed n o x l c) z =
        gives_then (FromFirst w s x l) _ (and_then (value w s x) (λ v. values w s l (v ∷ []))) _ (first_of w s x l (means w g s x z.1) (λ before. means_values w g s l before z.2)) (λ vs h.
        gives_then (AreMembers (IsValue (env_with af yf w s) x) (AreValues (env_with af yf w s) l)) _ (tuple_of (span_of (indexed n o x l c)) vs) _ (members_of (span_of (indexed n o x l c)) w s x l vs h) (λ key i.
        gives_as _ _ (name_at (span_of (indexed n o x l c)) w n.text (bound s n.text) key) (λ v j. (key, i, subst (λ r. IsArcOr r key (meaning_of v) (Denotes (env_with af yf w s) n.text key (meaning_of v))) (sym z.0) j)) (name_is af yf (span_of (indexed n o x l c)) w s n.text key)))
    means w g s (parens o x c) z = means w g s x z
    means w g s (tuple o x l c) z =
        gives_then (FromFirst w s x l) _ (and_then (value w s x) (λ v. values w s l (v ∷ []))) _ (first_of w s x l (means w g s x z.0) (λ before. means_values w g s l before z.1)) (λ vs h.
        gives_then (AreMembers (IsValue (env_with af yf w s) x) (AreValues (env_with af yf w s) l)) _ (tuple_of (span_of (tuple o x l c)) vs) _ (members_of (span_of (tuple o x l c)) w s x l vs h) (λ t i. (t, i, refl)))
    means w g s (negated n o x c) z =
        gives_then (λ b. IsValue (env_with af yf w s) x (Truth b)) _ (and_then (value w s x) (truth (span_of (negated n o x c)))) _ (is_true w s x (span_of (negated n o x c)) (means w g s x z)) (λ b h. (b, h, refl))
    means w g s (braced b) z =
        gives_then (λ k. AreKeys (env_with af yf w s) b (map (as_key af yf w) k.rows)) _ (index w s b) _ (means_keys w g s b z) (λ k h. gives_as _ _ (as_set (braces_span b) k) (λ v e. (map (as_key af yf w) k.rows, h, e)) (as_set_is af yf w (braces_span b) k))
    means w g s (signed t x) z =
        gives_then (λ v. IsValue (env_with af yf w s) x (meaning_of v)) _ (value w s x) _ (means w g s x z) (λ v h.
        gives_as _ _ (with_sign (span_of (signed t x)) (is_minus t) v) (λ u (n, e, f). (n, subst (IsValue (env_with af yf w s) x) e h, f)) (signed_is (span_of (signed t x)) (is_minus t) v))
    means w g s (reduced r b x) z =
        gives_then (λ k. AreKeys (env_with af yf w s) b (map (as_key af yf w) k.rows)) _ (index w s b) _ (means_keys w g s b z.0) (λ k h.
        gives_as _ _ (reduce (span_of (reduced r b x)) (reduction r) (λ q. value w q x) k) (λ v (ns, n, all, red, e). (map (as_key af yf w) k.rows, ns, n, h, all, red, e))
        (reduce_is (span_of (reduced r b x)) (reduction r) (λ q. value w q x) (as_key af yf w) (λ (k : Key) v. IsValue k.env x v) (λ row. means w g row.scope x z.1) k))
    means w g s (chain n x l) z =
        gives_then (λ v. IsValue (env_with af yf w s) x (meaning_of v) × IsSetValue v) _ (value w s x) _ (with_set w g s x (means w g s x z.0)) (λ v h.
        gives_as _ _ (if begins_range l then and_then (values w s l (v ∷ [])) (range_of (span_of (chain n x l))) else chained (span_of (chain n x l)) w s l v) (λ u (a, i, j). (a, i, range_or_chain (env_with af yf w s) a l (meaning_of u) j))
        (chain_is w s n x l v h.0 (begins_range l) (λ before. means_values w g s l before z.1) (means_chained (span_of (chain n x l)) w g s l v h.1 z.1)))
    means w g s (choice i x t y p) z =
        gives_then (λ b. IsValue (env_with af yf w s) x (Truth b)) _ (and_then (value w s x) (truth (span_of (choice i x t y p)))) _ (is_true w s x (span_of (choice i x t y p)) (means w g s x z.0))
        (λ b h. choice_is w s x y p b h (means w g s y z.1) (means_else w g s p z.2))
    means w g s (net t u) z = ap number (sym (ap (λ m. turned (has_minus t) (turned (is_outflow u) m)) z ∙ ap (turned (has_minus t)) (still_zero (is_outflow u)) ∙ still_zero (has_minus t)))

    means_else : (w : World) → HasSets w → (s : Scope) (p : Part) → IsPartArcFree af yf p → IfOk (otherwise w s p) (λ v. IsElse (env_with af yf w s) p (meaning_of v))
    means_else w g s absent z = refl
    means_else w g s (part m x) z = means w g s x z

    means_values : (w : World) → HasSets w → (s : Scope) (l : Links) (before : List Found) → AreArcFree af yf l → IfOk (values w s l before) (Operands w s l before)
    means_values w g s none before z = ([], sym (append-nil before), refl)
    means_values w g s (link o x l) before z =
        gives_then (λ v. IsValue (env_with af yf w s) x (meaning_of v)) _ (value w s x) _ (means w g s x z.0) (λ v h.
        gives_as _ _ (values w s l (before ++ v ∷ [])) (λ vs (us, e, j). (v ∷ us, e ∙ append_assoc before (v ∷ []) us, (meaning_of v, map meaning_of us, h, j, refl))) (means_values w g s l (before ++ v ∷ []) z.1))

    means_chained : (at : Span) (w : World) → HasSets w → (s : Scope) (l : Links) (v : Found) → IsSetValue v → AreArcFree af yf l → IfOk (chained at w s l v) (λ u. IsChain (env_with af yf w s) (meaning_of v) l (meaning_of u))
    means_chained at w g s none v i z = refl
    means_chained at w g s (link o x l) v i z =
        subst (λ r. IfOk r (λ u. IsChain (env_with af yf w s) (meaning_of v) (link o x l) (meaning_of u))) (sym (chained-step at w s o x l v))
        (gives_then (λ u. Combines (operation o) (meaning_of v) (IsValue (env_with af yf w s) x) (meaning_of u) × IsSetValue u) _ (joined at (operation o) (value w s x) v) (chained at w s l) (joins (operation o) at (value w s x) (IsValue (env_with af yf w s) x) v i (with_set w g s x (means w g s x z.0)))
        (λ r h. gives_as _ _ (chained at w s l r) (λ u j. (meaning_of r, h.0, j)) (means_chained at w g s l r h.1 z.1)))

    means_keys : (w : World) → HasSets w → (s : Scope) (b : Braces) → AreBracesArcFree af yf b → IfOk (index w s b) (λ k. AreKeys (env_with af yf w s) b (map (as_key af yf w) k.rows))
    means_keys w g s (empty o p c) z = gives_if _ (has_part p) _ _ (λ e. tt) (λ e. (refl, unsaid p e))
    means_keys w g s (filled o i is p c) z =
        filled_is w g s o i is p c (means w g s i z.0) (means_set w g s i z.0) (λ t long q k cut. means_place w g i t q k cut long z.0) (λ q k cut before. means_walk (span_between o c) w g is q k cut before z.1) (λ before. means_values w g s is before z.1) (λ row. means_holds (span_between o c) w g row.scope row.key p z.2)

    means_walk : (at : Span) (w : World) → HasSets w → (l : Links) (q : PartialRow) (k : Tuple) → Cuts q.key k → (before : List Row) → AreArcFree af yf l → IfOk (walk at w l q before) (Adds af yf w (Iterates (key_at af yf w q.scope k) l) before)
    means_walk at w g none q k cut before z = row_is af yf w at q.scope q.key k cut before
    means_walk at w g (link o i is) q k cut before z =
        item_is at w g o i is q k cut before (means w g q.scope i z.0) (means_set w g q.scope i z.0) (λ t long. means_place w g i t q k cut long z.0) (λ q k cut before. means_walk at w g is q k cut before z.1)

    means_set : (w : World) → HasSets w → (s : Scope) (i : Tree) → IsArcFree af yf i → has_in i ≡ true → IfOk (set_after w s i) (IsSetAfterIn (env_with af yf w s) i)
    means_set w g s (chain n x (link o y none)) z h =
        gives_then (λ v. IsValue (env_with af yf w s) y (meaning_of v)) _ (value w s y) _ (means w g s y z.1.0) (λ v i.
        gives_as _ _ (chosen (span_of (chain n x (link o y none))) (needed x) v) (λ ts e. subst (IsValue (env_with af yf w s) y) e i) (chosen_is (span_of (chain n x (link o y none))) (needed x) v))
    means_set w g s _ z h = cc

    means_place : (w : World) → HasSets w → (i : Tree) (t : Tuple) (q : PartialRow) (k : Tuple) → Cuts q.key k → LongIn i t → IsArcFree af yf i → IfOk (place w i t q) (PlaceIs af yf w (Extends (key_at af yf w q.scope k) i t))
    means_place w g (chain n x (link o y none)) t q k cut long z =
        placed_is w n x o y t q k cut (is_in (operation o)) (λ e. means_left (span_of (chain n x (link o y none))) w g x t q k cut (long e) z.0 (means w g q.scope x z.0))
    means_place w g _ t q k cut long z = (k ++ t, cut_longer t q.key k cut, refl)

    means_left : (at : Span) (w : World) → HasSets w → (x : Tree) (t : Tuple) (q : PartialRow) (k : Tuple) → Cuts q.key k → IsLong (needed x) t → IsArcFree af yf x → IfOk (value w q.scope x) (λ v. IsValue (env_with af yf w q.scope) x (meaning_of v))
        → IfOk (left_place at w x (value w q.scope x) t q) (PlaceIs af yf w (Agrees (key_at af yf w q.scope k) x (IsValue (env_with af yf w q.scope) x) t))
    means_left at w g (tuple o x l c) [] q k cut long z h = absurd (let e = long in omega arith)
    means_left at w g (tuple o x l c) (m ∷ ms) q k cut long z h =
        in_whole w (Matches (key_at af yf w q.scope k) (new_dummy (env_with af yf w q.scope) x) (IsValue (env_with af yf w q.scope) x) m (λ r. AllAgree r l ms)) _ _ (rest_long l ms (omega (arith, long)))
        (as_dummy w q.scope x (λ d. IfOk (left_place at w (tuple o x l c) (value w q.scope (tuple o x l c)) (m ∷ ms) q) (PlaceIs af yf w (Matches (key_at af yf w q.scope k) d (IsValue (env_with af yf w q.scope) x) m (λ r. AllAgree r l ms))))
        (meets af yf w (span_of (tuple o x l c)) (items.new_dummy w q.scope x) (value w q.scope x) (IsValue (env_with af yf w q.scope) x) m q k cut (means w g q.scope x z.0) (λ r. AllAgree r l ms) (places (span_of (tuple o x l c)) w l ms)
        (λ r j cut. means_places (span_of (tuple o x l c)) w g l ms r j cut (omega (arith, long)) z.1)))
    means_left at w g x t q k cut long z h =
        as_dummy w q.scope x (λ d. IfOk (left_place at w x (value w q.scope x) t q) (PlaceIs af yf w (MatchesWhole (key_at af yf w q.scope k) d (IsValue (env_with af yf w q.scope) x) t)))
        (meets_whole af yf w at (items.new_dummy w q.scope x) (value w q.scope x) (IsValue (env_with af yf w q.scope) x) t q k (fits_alone af yf w q.scope x t long) cut h)

    means_places : (at : Span) (w : World) → HasSets w → (l : Links) (ms : Tuple) (q : PartialRow) (k : Tuple) → Cuts q.key k → length ms ≡ items.size l → AreArcFree af yf l → IfOk (places at w l ms q) (PlaceIs af yf w (AllAgree (key_at af yf w q.scope k) l ms))
    means_places at w g none [] q k cut long z = (k, cut, refl)
    means_places at w g none (m ∷ ms) q k cut long z = absurd (let e = long in omega arith)
    means_places at w g (link o x l) [] q k cut long z = absurd (let e = long in omega arith)
    means_places at w g (link o x l) (m ∷ ms) q k cut long z =
        as_dummy w q.scope x (λ d. IfOk (places at w (link o x l) (m ∷ ms) q) (PlaceIs af yf w (Matches (key_at af yf w q.scope k) d (IsValue (env_with af yf w q.scope) x) m (λ r. AllAgree r l ms))))
        (meets af yf w at (items.new_dummy w q.scope x) (value w q.scope x) (IsValue (env_with af yf w q.scope) x) m q k cut (means w g q.scope x z.0) (λ r. AllAgree r l ms) (places at w l ms)
        (λ r j cut. means_places at w g l ms r j cut (omega (arith, long)) z.1))

    means_holds : (at : Span) (w : World) → HasSets w → (s : Scope) (k : Tuple) (p : Part) → IsPartArcFree af yf p → IfOk (holds at w s p) (HasTruth p (key_at af yf w s k))
    means_holds at w g s k absent z = refl
    means_holds at w g s k (part m x) z = is_true w s x at (means w g s x z)

  pub key_is_sound : (at : Span) (w : World) → HasSets w → (s : Scope) (x : Tree) (l : Links) → IsArcFree af yf x → AreArcFree af yf l
      → IfOk (and_then (and_then (value w s x) (λ v. values w s l (v ∷ []))) (λ vs. tuple_of at vs)) (AreMembers (IsValue (env_with af yf w s) x) (AreValues (env_with af yf w s) l))
  key_is_sound at w g s x l y z =
      gives_then (FromFirst w s x l) _ (and_then (value w s x) (λ v. values w s l (v ∷ []))) _ (first_of w s x l (means w g s x y) (λ before. means_values w g s l before z)) (λ vs h. members_of at w s x l vs h)

  pub braces_are_sound : (w : World) → HasSets w → (s : Scope) (b : Braces) → AreBracesArcFree af yf b → IfOk (index w s b) (λ k. AreKeys (env_with af yf w s) b (map (as_key af yf w) k.rows))
  braces_are_sound = means_keys

  pub truth_is_sound : (w : World) → HasSets w → (s : Scope) (x : Tree) (at : Span) → IsArcFree af yf x → IfOk (and_then (value w s x) (truth at)) (λ b. IsValue (env_with af yf w s) x (Truth b))
  truth_is_sound w g s x at z = is_true w s x at (means w g s x z)

  pub value_is_sound : (w : World) → HasSets w → (s : Scope) (t : Tree) → IsArcFree af yf t → IfOk (value w s t) (λ v. IsValue (env_with af yf w s) t (meaning_of v))
  value_is_sound = means

mutual
  pub netless : (t : Tree) → IsArcFree (λ n. None) (pos 0) t
  netless (leaf t) = refl
  netless (indexed n o x l c) = (refl, netless x, all_netless l)
  netless (parens o x c) = netless x
  netless (tuple o x l c) = (netless x, all_netless l)
  netless (negated n o x c) = netless x
  netless (braced b) = braces_netless b
  netless (signed t x) = netless x
  netless (reduced r b x) = (braces_netless b, netless x)
  netless (chain n x l) = (netless x, all_netless l)
  netless (choice i x t z p) = (netless x, netless z, part_netless p)
  netless (net s t) = refl

  pub all_netless : (l : Links) → AreArcFree (λ n. None) (pos 0) l
  all_netless none = tt
  all_netless (link o x l) = (netless x, all_netless l)

  part_netless : (p : Part) → IsPartArcFree (λ n. None) (pos 0) p
  part_netless absent = tt
  part_netless (part m x) = netless x

  braces_netless : (b : Braces) → AreBracesArcFree (λ n. None) (pos 0) b
  braces_netless (empty o p c) = part_netless p
  braces_netless (filled o i is p c) = (netless i, all_netless is, part_netless p)

pub evaluation_is_sound_with : EvaluationIsSoundWith
evaluation_is_sound_with af yf w s t v g z e = gives_ok (λ v. IsValue (env_with af yf w s) t (meaning_of v)) (value w s t) v (means af yf w g s t z) e

pub evaluation_is_sound : EvaluationIsSound
evaluation_is_sound w s t v g e = evaluation_is_sound_with (λ n. None) (pos 0) w s t v g (netless t) e

pub keys_are_sound : KeysAreSound
keys_are_sound w s b k g e = gives_ok (λ k. AreKeys (env_of w s) b (map (as_key (λ n. None) (pos 0) w) k.rows)) (index w s b) k (means_keys (λ n. None) (pos 0) w g s b (braces_netless b)) e
