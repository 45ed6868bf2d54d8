-- What numbers, operators and names are refused for stands at the place that they are given.
use Rattle.std.specs.Prelude.{ℕ, ◌+◌, Bool, true, false, ◌&&◌, List, [], ◌∷◌, length, nat_eq, nat_le, int_lt, Option, None, Some, ℤ, pos}
use Rattle.net_base.specs.declared.diagnostic.Span.{Span}
use Rattle.net_base.specs.declared.diagnostic.Detail.{Detail}
use Rattle.net_base.specs.Outcomes.{Outcome, and_then}
use Rattle.net_sets.specs.Sets.{Tuple}
use Rattle.net_sets.specs.Limits.{arity_limit, tuples_limit}
use Rattle.net_sets.specs.Operations.{union, widest, product, difference, intersection, symmetric_difference}
use Rattle.net_sets.specs.Ranges.{range_size}
use Rattle.net_sets.specs.declared.member.Member.{Member}
use Rattle.net_sets.specs.declared.member.Member.TheVariants as member
use Rattle.net_tree.specs.declared.operator.BinOp.{BinOp}
use Rattle.net_tree.specs.declared.operator.BinOp.TheVariants as op
use Rattle.net_expr.specs.declared.value.Value.{Value}
use Rattle.net_expr.specs.declared.value.Value.TheVariants.{One, Several, Many, Truth}
use Rattle.net_expr.specs.declared.world.Entry.{Entry}
use Rattle.net_expr.specs.declared.world.Entry.TheVariants.{Set, Parameter}
use Rattle.net_expr.specs.Limits.{is_small}
use Rattle.net_expr.specs.Numbers.{sized, number, plus, less, times, quotient, remainder, divides, are_small, step, size, range, range_of}
use Rattle.net_expr.specs.Operators.{of_numbers, of_two, compared, same, of_sets, crossed, belongs, contained, truth, as_truth, as_denial, apply, decided, short_enough, members_after, tuple_of, longer}
use Rattle.net_expr.specs.Operators as operators
use Rattle.net_expr.specs.Sets.{counted, shared, fits, within_size, set_of, cross, membership, inclusion}
use Rattle.net_expr.specs.Worlds.{Name, World, key_count, entry_of, missing, value_at, entry_at, name_at}
use Rattle.net_base.specs.Places.{Places, Finds, Model}
use Rattle.net_base.proofs.Found.{finds_then, finds_if}

module _ (P : Places) (at : Span) (h : P Model at) where
  pub finds_sized : (n : ℤ) → Finds P (sized at n)
  finds_sized n = finds_if P (is_small n) _ _ tt h

  pub finds_number : (v : Value) → Finds P (number at v)
  finds_number (One (member.Number n)) = tt
  finds_number (One (member.Name t)) = h
  finds_number (Several t) = h
  finds_number (Many d ts) = h
  finds_number (Truth b) = h

  finds_quotient : (a b : ℤ) → Finds P (quotient at a b)
  finds_quotient a b = finds_if P (divides a b) _ _ tt h

  finds_remainder : (a b : ℤ) → Finds P (remainder at a b)
  finds_remainder a b = finds_if P (divides a b) _ _ tt h

  finds_range : (a b c : ℤ) → Finds P (range at a b c)
  finds_range a b c =
      finds_then P (step at c) _ (finds_if P (int_lt c (pos 1)) _ _ h tt) (λ u. finds_then P (size at a b c) _ (finds_if P (are_small a b c) _ _ tt h) (λ v.
      finds_if P (nat_le (range_size a b c) tuples_limit) _ _ tt h))

  pub finds_range_of : (vs : List Value) → Finds P (range_of at vs)
  finds_range_of [] = h
  finds_range_of (x ∷ []) = h
  finds_range_of (x ∷ y ∷ []) = finds_then P (number at x) _ (finds_number x) (λ a. finds_then P (number at y) _ (finds_number y) (λ b. finds_range a b (pos 1)))
  finds_range_of (x ∷ y ∷ z ∷ []) =
      finds_then P (number at x) _ (finds_number x) (λ a. finds_then P (number at y) _ (finds_number y) (λ b. finds_then P (number at z) (range at a b) (finds_number z) (finds_range a b)))
  finds_range_of (x ∷ y ∷ z ∷ u ∷ vs) = h

  finds_within_size : (d : ℕ) (ts : List Tuple) → Finds P (within_size at d ts)
  finds_within_size d ts = finds_if P (nat_le (length ts) tuples_limit) _ _ tt h

  finds_set_of : (d : Option ℕ) (ts : List Tuple) → Finds P (set_of at d ts)
  finds_set_of None ts = h
  finds_set_of (Some d) ts = finds_within_size d ts

  finds_cross : (d : Option ℕ) (xs : List Tuple) (e : Option ℕ) (ys : List Tuple) → Finds P (cross at d xs e ys)
  finds_cross d xs e ys =
      finds_if P (nat_le (counted d + counted e) arity_limit && nat_le (widest xs + widest ys) arity_limit) _ _ (finds_if P (nat_le (length (product xs ys)) tuples_limit) _ _ tt h) h

  finds_among : (t : Tuple) (d : Option ℕ) (ts : List Tuple) → Finds P (membership at t d ts)
  finds_among t d ts = finds_if P (fits d (length t)) _ _ tt h

  finds_inside : (d : Option ℕ) (xs ys : List Tuple) → Finds P (inclusion at d xs ys)
  finds_inside None xs ys = h
  finds_inside (Some d) xs ys = tt

  finds_numbers : (f : ℤ → ℤ → Outcome Value) → ((a b : ℤ) → Finds P (f a b)) → (x y : Value) → Finds P (of_numbers at f x y)
  finds_numbers f k x y = finds_then P (number at x) _ (finds_number x) (λ a. finds_then P (number at y) (f a) (finds_number y) (k a))

  pub finds_compared : (holds : ℤ → ℤ → Bool) (x y : Value) → Finds P (compared at holds x y)
  finds_compared holds x y = finds_numbers _ (λ a b. tt) x y

  pub finds_same : (x y : Value) → Finds P (same at x y)
  finds_same (One a) (One b) = tt
  finds_same (One a) (Several t) = h
  finds_same (One a) (Many d ts) = h
  finds_same (One a) (Truth b) = h
  finds_same (Several t) y = h
  finds_same (Many d ts) y = h
  finds_same (Truth b) y = h

  finds_of_sets : (f : List Tuple → List Tuple → List Tuple) (x y : Value) → Finds P (of_sets at f x y)
  finds_of_sets f (Many d xs) (Many e ys) = finds_set_of (shared d e) (f xs ys)
  finds_of_sets f (Many d xs) (One m) = h
  finds_of_sets f (Many d xs) (Several t) = h
  finds_of_sets f (Many d xs) (Truth b) = h
  finds_of_sets f (One m) y = h
  finds_of_sets f (Several t) y = h
  finds_of_sets f (Truth b) y = h

  finds_crossed : (x y : Value) → Finds P (crossed at x y)
  finds_crossed (Many d xs) (Many e ys) = finds_cross d xs e ys
  finds_crossed (Many d xs) (One m) = h
  finds_crossed (Many d xs) (Several t) = h
  finds_crossed (Many d xs) (Truth b) = h
  finds_crossed (One m) y = h
  finds_crossed (Several t) y = h
  finds_crossed (Truth b) y = h

  pub finds_belongs : (x y : Value) → Finds P (belongs at x y)
  finds_belongs (One m) (Many d ts) = finds_among (m ∷ []) d ts
  finds_belongs (One m) (One n) = h
  finds_belongs (One m) (Several t) = h
  finds_belongs (One m) (Truth b) = h
  finds_belongs (Several t) (Many d ts) = finds_among t d ts
  finds_belongs (Several t) (One n) = h
  finds_belongs (Several t) (Several u) = h
  finds_belongs (Several t) (Truth b) = h
  finds_belongs (Many d ts) y = h
  finds_belongs (Truth b) y = h

  finds_contained : (x y : Value) → Finds P (contained at x y)
  finds_contained (Many d xs) (Many e ys) = finds_inside (shared d e) xs ys
  finds_contained (Many d xs) (One m) = h
  finds_contained (Many d xs) (Several t) = h
  finds_contained (Many d xs) (Truth b) = h
  finds_contained (One m) y = h
  finds_contained (Several t) y = h
  finds_contained (Truth b) y = h

  pub finds_truth : (v : Value) → Finds P (truth at v)
  finds_truth (Truth b) = tt
  finds_truth (One m) = h
  finds_truth (Several t) = h
  finds_truth (Many d ts) = h

  finds_as_truth : (o : Outcome Bool) → Finds P o → Finds P (as_truth o)
  finds_as_truth o k = finds_then P o _ k (λ b. tt)

  finds_as_denial : (o : Outcome Bool) → Finds P o → Finds P (as_denial o)
  finds_as_denial o k = finds_then P o _ k (λ b. tt)

  finds_both : (x y : Value) → Finds P (and_then (truth at x) (λ b. truth at y))
  finds_both x y = finds_then P (truth at x) _ (finds_truth x) (λ b. finds_truth y)

  pub finds_apply : (f : BinOp) (x y : Value) → Finds P (apply f at x y)
  finds_apply op.Plus x y = finds_numbers (plus at) (λ a b. finds_sized _) x y
  finds_apply op.Minus x y = finds_numbers (less at) (λ a b. finds_sized _) x y
  finds_apply op.Times x y = finds_numbers (times at) (λ a b. finds_sized _) x y
  finds_apply op.Div x y = finds_numbers (quotient at) finds_quotient x y
  finds_apply op.Mod x y = finds_numbers (remainder at) finds_remainder x y
  finds_apply op.Cross x y = finds_crossed x y
  finds_apply op.Inter x y = finds_of_sets intersection x y
  finds_apply op.Union x y = finds_of_sets union x y
  finds_apply op.Diff x y = finds_of_sets difference x y
  finds_apply op.Symdiff x y = finds_of_sets symmetric_difference x y
  finds_apply op.Equal x y = finds_as_truth (same at x y) (finds_same x y)
  finds_apply op.Unequal x y = finds_as_denial (same at x y) (finds_same x y)
  finds_apply op.Less x y = finds_compared _ x y
  finds_apply op.AtMost x y = finds_compared _ x y
  finds_apply op.Greater x y = finds_compared _ x y
  finds_apply op.AtLeast x y = finds_compared _ x y
  finds_apply op.In x y = finds_as_truth (belongs at x y) (finds_belongs x y)
  finds_apply op.NotIn x y = finds_as_denial (belongs at x y) (finds_belongs x y)
  finds_apply op.Within x y = finds_as_truth (contained at x y) (finds_contained x y)
  finds_apply op.NotWithin x y = finds_as_denial (contained at x y) (finds_contained x y)
  finds_apply op.And x y = finds_as_truth _ (finds_both x y)
  finds_apply op.Or x y = finds_as_truth _ (finds_both x y)
  finds_apply op.Range x y = h
  finds_apply op.Other x y = h

  pub finds_decided : (f : BinOp) (x : Value) → Finds P (decided f at x)
  finds_decided op.And x = finds_then P (truth at x) _ (finds_truth x) (λ b. tt)
  finds_decided op.Or x = finds_then P (truth at x) _ (finds_truth x) (λ b. tt)
  finds_decided _ x = tt

  finds_short : (t : Option Tuple) → Finds P (short_enough at t)
  finds_short None = h
  finds_short (Some t) = tt

  pub finds_member : (v : Value) → Finds P (operators.member at v)
  finds_member (One m) = tt
  finds_member (Several t) = h
  finds_member (Many d ts) = h
  finds_member (Truth b) = h

  finds_members : (vs : List Value) (key : Option Tuple) → Finds P (members_after at vs key)
  finds_members [] key = finds_short key
  finds_members (v ∷ vs) key = finds_then P (operators.member at v) _ (finds_member v) (λ m. finds_members vs (longer (m ∷ []) key))

  pub finds_tuple_of : (vs : List Value) → Finds P (tuple_of at vs)
  finds_tuple_of vs = finds_members vs (Some [])

  finds_missing : (d : Detail) (listed : Bool) → Finds P (missing at d listed)
  finds_missing d true = h
  finds_missing d false = h

  finds_value_at : (d : Detail) (m : Option Member) (listed : Bool) → Finds P (value_at at d m listed)
  finds_value_at d (Some m) listed = tt
  finds_value_at d None listed = finds_missing d listed

  finds_entry_at : (name : Name) (e : Option Entry) (key : Tuple) → Finds P (entry_at at name e key)
  finds_entry_at name None key = h
  finds_entry_at name (Some (Set d ts)) [] = tt
  finds_entry_at name (Some (Set d ts)) (m ∷ ms) = h
  finds_entry_at name (Some (Parameter n keys values)) key = finds_if P (nat_eq (length key) (key_count n)) _ _ (finds_value_at _ _ _) h

  pub finds_name_at : (w : World) (name : Name) (m : Option Member) (key : Tuple) → Finds P (name_at at w name m key)
  finds_name_at w name None key = finds_entry_at name (entry_of w name) key
  finds_name_at w name (Some m) [] = tt
  finds_name_at w name (Some m) (k ∷ ks) = h
