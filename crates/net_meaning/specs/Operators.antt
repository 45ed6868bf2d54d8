-- Values, and the results of operators. An operation that is an error, such as a division by zero, has no result.
use Rattle.std.specs.Prelude.{◌≡◌, ◌⊎◌, ◌↔◌, ◌<◌, ◌/◌, ◌%◌, ℕ, Bool, true, false, not, List, [], ◌∷◌, ◌++◌, length, ℤ, pos, ◌+ℤ◌, ◌-ℤ◌, ◌*ℤ◌, ◌≤ℤ◌, int_lt, int_le}
use Rattle.std.specs.List.{AllByRecursion}
use Rattle.net_normal.specs.Sums.{sum_of}
use Rattle.net_sets.specs.declared.member.Member.{Member}
use Rattle.net_sets.specs.declared.member.Member.TheVariants as member
use Rattle.net_sets.specs.Operations as sets
use Rattle.net_sets.specs.Operations.{difference, intersection, symmetric_difference, product, is_within}
use Rattle.net_sets.specs.Ranges.{singles, numbers_by}
use Rattle.net_sets.specs.Sets.{Tuple, same_member, has}
use Rattle.net_tree.specs.declared.operator.BinOp.{BinOp}
use Rattle.net_tree.specs.declared.operator.BinOp.TheVariants as op
use Rattle.net_tree.specs.declared.operator.Reduction.{Reduction}
use Rattle.net_tree.specs.declared.operator.Reduction.TheVariants.{Sum, Min, Max}

-- the value of an expression: a number or a string (`One`), a tuple, a set (the list of its distinct tuples), or true or false
pub data Value : Type 0 where
  One : Member → Value
  Several : Tuple → Value
  Many : List Tuple → Value
  Truth : Bool → Value

-- a number as a value
abbrev pub number : ℤ → Value
number n = One (member.Number n)

-- the value is this tuple; a number or a string counts as a tuple of one component
pub data IsTuple : Value → Tuple → Type 0 where
  one : (m : Member) → IsTuple (One m) (m ∷ [])
  several : (t : Tuple) → IsTuple (Several t) t

-- the tuples all have the same number of components
abbrev pub HaveOneDimension : List Tuple → Type 0
HaveOneDimension ts = (d : ℕ) × AllByRecursion (λ t. length t ≡ d) ts

-- `IsResult o u v x`: the operator o applied to u and v gives x. Operators on sets, except `cross`, have a result only if the tuples of both
-- operands have the same number of components. The empty set fits every operand. `div` and `mod` have no result if an operand is negative.
pub data IsResult : BinOp → Value → Value → Value → Type 0 where
  plus : (a b : ℤ) → IsResult op.Plus (number a) (number b) (number (a +ℤ b))
  minus : (a b : ℤ) → IsResult op.Minus (number a) (number b) (number (a -ℤ b))
  times : (a b : ℤ) → IsResult op.Times (number a) (number b) (number (a *ℤ b))
  quotient : (a b : ℕ) → 0 < b → IsResult op.Div (number (pos a)) (number (pos b)) (number (pos (a / b)))
  remainder : (a b : ℕ) → 0 < b → IsResult op.Mod (number (pos a)) (number (pos b)) (number (pos (a % b)))
  less : (a b : ℤ) → IsResult op.Less (number a) (number b) (Truth (int_lt a b))
  at_most : (a b : ℤ) → IsResult op.AtMost (number a) (number b) (Truth (int_le a b))
  greater : (a b : ℤ) → IsResult op.Greater (number a) (number b) (Truth (int_lt b a))
  at_least : (a b : ℤ) → IsResult op.AtLeast (number a) (number b) (Truth (int_le b a))
  equal : (a b : Member) → IsResult op.Equal (One a) (One b) (Truth (same_member a b))
  unequal : (a b : Member) → IsResult op.Unequal (One a) (One b) (Truth (not (same_member a b)))
  is_in : (v : Value) (t : Tuple) (ts : List Tuple) → IsTuple v t → HaveOneDimension (t ∷ ts) → IsResult op.In v (Many ts) (Truth (has ts t))
  is_not_in : (v : Value) (t : Tuple) (ts : List Tuple) → IsTuple v t → HaveOneDimension (t ∷ ts) → IsResult op.NotIn v (Many ts) (Truth (not (has ts t)))
  within : (xs ys : List Tuple) → HaveOneDimension (xs ++ ys) → IsResult op.Within (Many xs) (Many ys) (Truth (is_within xs ys))
  not_within : (xs ys : List Tuple) → HaveOneDimension (xs ++ ys) → IsResult op.NotWithin (Many xs) (Many ys) (Truth (not (is_within xs ys)))
  cross : (xs ys : List Tuple) → IsResult op.Cross (Many xs) (Many ys) (Many (sets.union [] (product xs ys)))
  union : (xs ys : List Tuple) → HaveOneDimension (xs ++ ys) → IsResult op.Union (Many xs) (Many ys) (Many (sets.union xs ys))
  inter : (xs ys : List Tuple) → HaveOneDimension (xs ++ ys) → IsResult op.Inter (Many xs) (Many ys) (Many (intersection xs ys))
  diff : (xs ys : List Tuple) → HaveOneDimension (xs ++ ys) → IsResult op.Diff (Many xs) (Many ys) (Many (difference xs ys))
  symdiff : (xs ys : List Tuple) → HaveOneDimension (xs ++ ys) → IsResult op.Symdiff (Many xs) (Many ys) (Many (symmetric_difference xs ys))
  and_both : (b : Bool) → IsResult op.And (Truth true) (Truth b) (Truth b)
  or_other : (b : Bool) → IsResult op.Or (Truth false) (Truth b) (Truth b)

-- `and` and `or` short-circuit: the left operand alone can determine the result
pub data ShortCircuits : BinOp → Value → Type 0 where
  and_false : ShortCircuits op.And (Truth false)
  or_true : ShortCircuits op.Or (Truth true)

-- the number occurs in the list
abbrev pub IsAmong : List ℤ → ℤ → Type 0
IsAmong [] n = ⊥
IsAmong (m ∷ ns) n = (m ≡ n) ⊎ IsAmong ns n

-- `sum`, `min` and `max` of a list of numbers; the empty list has no minimum and no maximum
abbrev pub Reduces : Reduction → List ℤ → ℤ → Type 0
Reduces Sum ns n = n ≡ sum_of ns
Reduces Min ns n = IsAmong ns n × AllByRecursion (λ m. n ≤ℤ m) ns
Reduces Max ns n = IsAmong ns n × AllByRecursion (λ m. m ≤ℤ n) ns

-- `a .. b by c` with a positive step c: the numbers a, a + c, a + 2c, .. up to b
pub record IsRange (a b c : ℤ) (ts : List Tuple) : Type 0 where
  pub count : ℕ
  pub positive : pos 1 ≤ℤ c
  pub inside : (k : ℕ) → (k < count) ↔ ((a +ℤ (pos k *ℤ c)) ≤ℤ b)
  pub tuples : ts ≡ singles (numbers_by a c count)

-- the operands of a range, which are two or three numbers, and the set that they give
pub data IsRangeOf : List Value → List Tuple → Type 0 where
  to : (a b : ℤ) (ts : List Tuple) → IsRange a b (pos 1) ts → IsRangeOf (number a ∷ number b ∷ []) ts
  by : (a b c : ℤ) (ts : List Tuple) → IsRange a b c ts → IsRangeOf (number a ∷ number b ∷ number c ∷ []) ts

-- `Combines o u Right v`: o applied to u and to a right operand, whose value is given by Right, gives v. If the left operand determines
-- the result, the right operand needs no value.
abbrev pub Combines : BinOp → Value → (Value → Type 0) → Value → Type 0
Combines o u Right v = (ShortCircuits o u × (v ≡ u)) ⊎ ((z : Value) × Right z × IsResult o u z v)
