-- Operators give values with the texts of their operands.
use Rattle.std.specs.Prelude.{ℕ, Bool, true, false, not, List, [], ◌∷◌, ◌++◌, map, if◌then◌else◌, ℤ}
use Rattle.std.specs.List.{AllByRecursion, AllZip}
use Rattle.std.proofs.Common.{subst, sym, inl, inr}
use Rattle.net_base.proofs.Elements.{all_append, all_filter}
use Rattle.net_sets.specs.Operations.{union, difference, product, joined_to}
use Rattle.net_sets.specs.Ranges.{singles}
use Rattle.net_sets.specs.Sets.{Tuple, has, added}
use Rattle.net_tree.specs.declared.operator.BinOp.{BinOp}
use Rattle.net_meaning.specs.Operators.{Value, One, IsTuple, one, several, IsResult, IsRangeOf, to, by, Combines}
use Rattle.net_meaning.specs.Operators as make
use Rattle.net_meaning.specs.Texts.{MemberHolds, TupleHolds, TuplesHold, ValueHolds}

module _ (P : List ℕ → Type 0) where
  -- ---- sets

  added_holds : (all : List Tuple) (t : Tuple) → TuplesHold P all → TupleHolds P t → TuplesHold P (added all t)
  added_holds all t h k = go (has all t)
    where
      go : (b : Bool) → TuplesHold P (if b then all else all ++ t ∷ [])
      go true = h
      go false = all_append (TupleHolds P) all (t ∷ []) h (k, tt)

  pub union_holds : (xs ys : List Tuple) → TuplesHold P xs → TuplesHold P ys → TuplesHold P (union xs ys)
  union_holds xs [] h k = h
  union_holds xs (y ∷ ys) h k = union_holds (added xs y) ys (added_holds xs y h k.0) k.1

  joined_holds : (x : Tuple) (ys : List Tuple) → TupleHolds P x → TuplesHold P ys → TuplesHold P (joined_to x ys)
  joined_holds x [] h k = tt
  joined_holds x (y ∷ ys) h k = (all_append (MemberHolds P) x y h k.0, joined_holds x ys h k.1)

  product_holds : (xs ys : List Tuple) → TuplesHold P xs → TuplesHold P ys → TuplesHold P (product xs ys)
  product_holds [] ys h k = tt
  product_holds (x ∷ xs) ys h k = all_append (TupleHolds P) (joined_to x ys) (product xs ys) (joined_holds x ys h.0 k) (product_holds xs ys h.1 k)

  difference_holds : (xs ys : List Tuple) → TuplesHold P xs → TuplesHold P (difference xs ys)
  difference_holds xs ys h = all_filter (TupleHolds P) (λ t. not (has ys t)) xs h

  -- ---- operators

  pub result_holds : (o : BinOp) (u v x : Value) → ValueHolds P u → ValueHolds P v → IsResult o u v x → ValueHolds P x
  result_holds o u v x h k (make.cross xs ys) = union_holds [] (product xs ys) tt (product_holds xs ys h k)
  result_holds o u v x h k (make.union xs ys d) = union_holds xs ys h k
  result_holds o u v x h k (make.inter xs ys d) = all_filter (TupleHolds P) (has ys) xs h
  result_holds o u v x h k (make.diff xs ys d) = difference_holds xs ys h
  result_holds o u v x h k (make.symdiff xs ys d) = all_append (TupleHolds P) (difference xs ys) (difference ys xs) (difference_holds xs ys h) (difference_holds ys xs k)
  result_holds o u v x h k (make.plus a b) = tt
  result_holds o u v x h k (make.minus a b) = tt
  result_holds o u v x h k (make.times a b) = tt
  result_holds o u v x h k (make.quotient a b l) = tt
  result_holds o u v x h k (make.remainder a b l) = tt
  result_holds o u v x h k (make.less a b) = tt
  result_holds o u v x h k (make.at_most a b) = tt
  result_holds o u v x h k (make.greater a b) = tt
  result_holds o u v x h k (make.at_least a b) = tt
  result_holds o u v x h k (make.equal a b) = tt
  result_holds o u v x h k (make.unequal a b) = tt
  result_holds o u v x h k (make.is_in a t ts i d) = tt
  result_holds o u v x h k (make.is_not_in a t ts i d) = tt
  result_holds o u v x h k (make.within xs ys d) = tt
  result_holds o u v x h k (make.not_within xs ys d) = tt
  result_holds o u v x h k (make.and_both b) = tt
  result_holds o u v x h k (make.or_other b) = tt

  pub combined_holds : (o : BinOp) (u v : Value) (Right : Value → Type 0) → ValueHolds P u → ((z : Value) → Right z → ValueHolds P z) → Combines o u Right v → ValueHolds P v
  combined_holds o u v Right h k (inl (s, e)) = subst (ValueHolds P) (sym e) h
  combined_holds o u v Right h k (inr (z, r, i)) = result_holds o u z v h (k z r) i

  -- ---- tuples and ranges

  pub tuple_holds : (v : Value) (t : Tuple) → ValueHolds P v → IsTuple v t → TupleHolds P t
  tuple_holds v t h (one m) = (h, tt)
  tuple_holds v t h (several u) = h

  abbrev pub ValuesHold : List Value → Type 0
  ValuesHold vs = AllByRecursion (ValueHolds P) vs

  pub tuples_hold : (vs : List Value) (ts : List Tuple) → ValuesHold vs → AllZip IsTuple vs ts → TuplesHold P ts
  tuples_hold [] [] h z = tt
  tuples_hold [] (t ∷ ts) h z = absurd z
  tuples_hold (v ∷ vs) [] h z = absurd z
  tuples_hold (v ∷ vs) (t ∷ ts) h z = (tuple_holds v t h.0 z.0, tuples_hold vs ts h.1 z.1)

  -- the components of a tuple are the values of the operands
  pub members_hold : (t : Tuple) → ValuesHold (map (λ m. One m) t) → TupleHolds P t
  members_hold [] h = tt
  members_hold (m ∷ t) h = (h.0, members_hold t h.1)

  singles_hold : (ns : List ℤ) → TuplesHold P (singles ns)
  singles_hold [] = tt
  singles_hold (n ∷ ns) = ((tt, tt), singles_hold ns)

  pub range_holds : (vs : List Value) (ts : List Tuple) → IsRangeOf vs ts → TuplesHold P ts
  range_holds vs ts (to a b us r) = subst (TuplesHold P) (sym r.tuples) (singles_hold _)
  range_holds vs ts (by a b c us r) = subst (TuplesHold P) (sym r.tuples) (singles_hold _)
