-- What items of braces and reductions are refused for stands at the place that they are given.
use Rattle.std.specs.Prelude.{ℕ, Bool, ◌||◌, List, [], ◌∷◌, ◌++◌, length, nat_eq, nat_le, nat_lt, Option, None, Some, if◌then◌else◌, ℤ}
use Rattle.net_base.specs.declared.diagnostic.Span.{Span}
use Rattle.net_base.specs.Outcomes.{Outcome}
use Rattle.net_sets.specs.Sets.{Tuple}
use Rattle.net_sets.specs.Limits.{tuples_limit}
use Rattle.net_sets.specs.Operations.{union}
use Rattle.net_sets.specs.declared.member.Member.{Member}
use Rattle.net_tree.specs.declared.operator.Reduction.{Reduction}
use Rattle.net_tree.specs.declared.operator.Reduction.TheVariants.{Sum, Min, Max}
use Rattle.net_expr.specs.declared.row.Keys.{Keys}
use Rattle.net_expr.specs.declared.row.PartialRow.{PartialRow}
use Rattle.net_expr.specs.declared.row.Row.{Row}
use Rattle.net_expr.specs.declared.value.Value.{Value}
use Rattle.net_expr.specs.declared.value.Value.TheVariants.{One, Several, Many, Truth}
use Rattle.net_expr.specs.Items.{fits_needed, chosen, tuples_of, is_set, Opening, walking, listing, opened, open_with}
use Rattle.net_expr.specs.Numbers.{number, gathered}
use Rattle.net_expr.specs.Rows.{matches_member, matches_tuple, matches_as_tuple, match_component, bound_first, match_whole, if_fits, go_on, onward, same_arity, add_row, finished_key, finished, keep, filter_rows, width_of, selected, keys_of, as_set, tuple_in, tuples_in, all_of, listed_as, listed, gathered_over, nothing_reduced, reduced_to, reduce}
use Rattle.net_expr.specs.Worlds.{Name, Scope}
use Rattle.net_base.specs.Places.{Places, Finds, Model}
use Rattle.net_base.proofs.Found.{finds_then, finds_if}
use Rattle.net_expr.proofs.OperatorFaults.{finds_number, finds_sized}

module _ (P : Places) (at : Span) (h : P Model at) where
  pub finds_chosen : (n : Option ℕ) (v : Value) → Finds P (chosen at n v)
  finds_chosen n (Many d ts) = finds_if P (fits_needed d n) _ _ tt h
  finds_chosen n (One m) = h
  finds_chosen n (Several t) = h
  finds_chosen n (Truth b) = h

  pub finds_tuples_of : (v : Value) → Finds P (tuples_of at v)
  finds_tuples_of (Many d ts) = tt
  finds_tuples_of (One m) = h
  finds_tuples_of (Several t) = h
  finds_tuples_of (Truth b) = h

  pub finds_opened : (indexing : Bool) (v : Value) → Finds P (opened at indexing v)
  finds_opened indexing v = finds_if P (indexing || is_set v) _ _ (finds_then P (tuples_of at v) _ (finds_tuples_of v) (λ ts. tt)) tt

  pub finds_agrees : (m : Member) (p : PartialRow) (v : Value) → Finds P (matches_member at m p v)
  finds_agrees m p (One v) = tt
  finds_agrees m p (Several t) = h
  finds_agrees m p (Many d ts) = h
  finds_agrees m p (Truth b) = h

  finds_agrees_whole : (t : Tuple) (p : PartialRow) (v : Tuple) → Finds P (matches_tuple at t p v)
  finds_agrees_whole t p v = finds_if P (nat_eq (length v) (length t)) _ _ tt h

  finds_agrees_as : (t : Tuple) (p : PartialRow) (v : Value) → Finds P (matches_as_tuple at t p v)
  finds_agrees_as t p (One v) = finds_agrees_whole t p (v ∷ [])
  finds_agrees_as t p (Several v) = finds_agrees_whole t p v
  finds_agrees_as t p (Many d ts) = h
  finds_agrees_as t p (Truth b) = h

  pub finds_fitted : (name : Option Name) (own : Outcome Value) → Finds P own → (m : Member) (p : PartialRow) → Finds P (match_component at name own m p)
  finds_fitted (Some name) own k m p = tt
  finds_fitted None own k m p = finds_then P own (matches_member at m p) k (finds_agrees m p)

  finds_bound_first : (name : Name) (t : Tuple) (p : PartialRow) → Finds P (bound_first name t p)
  finds_bound_first name [] p = tt
  finds_bound_first name (m ∷ ms) p = tt

  pub finds_fitted_alone : (name : Option Name) (own : Outcome Value) → Finds P own → (t : Tuple) (p : PartialRow) → Finds P (match_whole at name own t p)
  finds_fitted_alone (Some name) own k t p = finds_bound_first name t p
  finds_fitted_alone None own k t p = finds_then P own (matches_as_tuple at t p) k (finds_agrees_as t p)

  finds_add_row : (s : Scope) (key : Tuple) (found : List Row) → Finds P (add_row at s key found)
  finds_add_row s key found = finds_if P (same_arity key found) _ _ (finds_if P (nat_lt (length found) tuples_limit) _ _ tt h) h

  pub finds_finished : (p : PartialRow) (found : List Row) → Finds P (finished at p found)
  finds_finished p found = by_key p.key
    where
      by_key : (key : Option Tuple) → Finds P (finished_key at p.scope key found)
      by_key None = h
      by_key (Some key) = finds_add_row p.scope key found

  pub finds_as_set : (k : Keys) → Finds P (as_set at k)
  finds_as_set k = finds_if P (nat_le (length (union [] (keys_of k.rows))) tuples_limit) _ _ tt h

  finds_tuple_in : (v : Value) → Finds P (tuple_in at v)
  finds_tuple_in (One m) = tt
  finds_tuple_in (Several t) = tt
  finds_tuple_in (Many d ts) = h
  finds_tuple_in (Truth b) = h

  finds_tuples_in : (vs : List Value) (found : List Tuple) → Finds P (tuples_in at vs found)
  finds_tuples_in [] found = tt
  finds_tuples_in (v ∷ vs) found = finds_then P (tuple_in at v) _ (finds_tuple_in v) (λ t. finds_tuples_in vs (found ++ t ∷ []))

  finds_listed_as : (s : Scope) (ts once : List Tuple) → Finds P (listed_as at s ts once)
  finds_listed_as s [] once = tt
  finds_listed_as s (t ∷ ts) once = finds_if P (all_of (length t) ts) _ _ (finds_if P (nat_le (length once) tuples_limit) _ _ tt h) h

  pub finds_listed : (s : Scope) (conditioned : Bool) (vs : List Value) → Finds P (listed at s conditioned vs)
  finds_listed s conditioned vs =
      finds_then P (if conditioned then _ else tuples_in at vs []) _ (finds_if P conditioned _ (tuples_in at vs []) h (finds_tuples_in vs [])) (λ ts. finds_listed_as s ts (union [] ts))

  finds_gathered : (r : Reduction) (body : Scope → Outcome Value) → ((s : Scope) → Finds P (body s)) → (rows : List Row) (so_far : Option ℤ) → Finds P (gathered_over at r body rows so_far)
  finds_gathered r body k [] so_far = tt
  finds_gathered r body k (row ∷ rows) so_far =
      finds_then P (body row.scope) _ (k row.scope) (λ v. finds_then P (number at v) _ (finds_number P at h v) (λ n. finds_gathered r body k rows (Some (gathered r so_far n))))

  finds_nothing : (r : Reduction) → Finds P (nothing_reduced at r)
  finds_nothing Sum = tt
  finds_nothing Min = h
  finds_nothing Max = h

  finds_reduced_to : (r : Reduction) (o : Option ℤ) → Finds P (reduced_to at r o)
  finds_reduced_to r None = finds_nothing r
  finds_reduced_to r (Some n) = finds_sized P at h n

  pub finds_reduce : (r : Reduction) (body : Scope → Outcome Value) → ((s : Scope) → Finds P (body s)) → (k : Keys) → Finds P (reduce at r body k)
  finds_reduce r body j k = finds_then P (gathered_over at r body k.rows None) (reduced_to at r) (finds_gathered r body j k.rows None) (finds_reduced_to r)

module _ (P : Places) where
  pub finds_if_fits : (next : PartialRow → Outcome (Option PartialRow)) → ((p : PartialRow) → Finds P (next p)) → (p : Option PartialRow) → Finds P (if_fits next p)
  finds_if_fits next k None = tt
  finds_if_fits next k (Some p) = k p

  finds_go_on : (next : PartialRow → List Row → Outcome (List Row)) → ((p : PartialRow) (found : List Row) → Finds P (next p found)) → (found : List Row) (p : Option PartialRow) → Finds P (go_on next found p)
  finds_go_on next k found None = tt
  finds_go_on next k found (Some p) = k p found

  pub finds_onward : (place : Tuple → PartialRow → Outcome (Option PartialRow)) (next : PartialRow → List Row → Outcome (List Row)) → ((t : Tuple) (p : PartialRow) → Finds P (place t p))
      → ((p : PartialRow) (found : List Row) → Finds P (next p found)) → (p : PartialRow) (t : Tuple) (found : List Row) → Finds P (onward place next p t found)
  finds_onward place next j k p t found = finds_then P (place t p) (go_on next found) (j t p) (finds_go_on next k found)

  pub finds_open_with : {A : Type 0} (walk : List Tuple → Outcome A) (list : Value → Outcome A) → ((ts : List Tuple) → Finds P (walk ts)) → ((v : Value) → Finds P (list v))
      → (o : Opening) → Finds P (open_with walk list o)
  finds_open_with walk list j k (walking ts) = j ts
  finds_open_with walk list j k (listing v) = k v

  finds_kept : (holds : Scope → Outcome Bool) → ((s : Scope) → Finds P (holds s)) → (rows found : List Row) → Finds P (filter_rows holds rows found)
  finds_kept holds k [] found = tt
  finds_kept holds k (r ∷ rows) found = finds_then P (holds r.scope) _ (k r.scope) (λ b. finds_kept holds k rows (keep r found b))

  finds_width_of : (rows : List Row) (by_form : Outcome ℕ) → Finds P by_form → Finds P (width_of rows by_form)
  finds_width_of [] by_form k = k
  finds_width_of (r ∷ rows) by_form k = tt

  pub finds_selected : (by_form : Outcome ℕ) (holds : Scope → Outcome Bool) → Finds P by_form → ((s : Scope) → Finds P (holds s)) → (rows : List Row) → Finds P (selected by_form holds rows)
  finds_selected by_form holds j k rows =
      finds_then P (width_of rows by_form) _ (finds_width_of rows by_form j) (λ n. finds_then P (filter_rows holds rows []) _ (finds_kept holds k rows []) (λ left. tt))
