-- What operators make is what they are to make.
use Rattle.std.specs.Prelude.{◌≡◌, ◌+◌, ◌&&◌, ℕ, zero, suc, Bool, true, false, not, List, [], ◌∷◌, ◌++◌, length, nat_le, int_le, Option, None, Some, Ok, Err, IfOk, ℤ, pos, negsuc}
use Rattle.std.specs.List.{AllByRecursion}
use Rattle.std.proofs.Common.{refl, sym, subst, arith, inl, inr}
use Rattle.std.proofs.lemmas.Bool.{eqb-true}
use Rattle.net_base.specs.declared.diagnostic.Span.{Span}
use Rattle.net_base.specs.Outcomes.{Outcome, and_then}
use Rattle.net_sets.specs.declared.member.Member.{Member}
use Rattle.net_sets.specs.declared.member.Member.TheVariants as member
use Rattle.net_sets.specs.Sets.{Tuple, same_member, has}
use Rattle.net_sets.specs.Limits.{arity_limit, tuples_limit}
use Rattle.net_sets.specs.Operations.{union, difference, intersection, symmetric_difference, product, widest, is_within}
use Rattle.net_tree.specs.declared.operator.BinOp.{BinOp}
use Rattle.net_tree.specs.declared.operator.BinOp.TheVariants as op
use Rattle.net_expr.specs.declared.value.Value.{Value as Found}
use Rattle.net_expr.specs.declared.value.Value.TheVariants as found
use Rattle.net_expr.specs.Limits.{is_small}
use Rattle.net_expr.specs.Numbers as numbers
use Rattle.net_expr.specs.Numbers.{sized, divides}
use Rattle.net_expr.specs.Operators.{of_numbers, same, of_sets, crossed, belongs, contained, truth, as_truth, as_denial, apply, decided}
use Rattle.net_expr.specs.SetValues.{IsSetOf}
use Rattle.net_expr.specs.Sets as sets
use Rattle.net_expr.specs.Sets.{counted, shared, set_of, fits}
use Rattle.net_expr.specs.Values.{either}
use Rattle.net_expr.specs.Walks.{joined}
use Rattle.net_expr.proofs.SetsGiven.{IsSetValue, Gives, meet, gives_apply}
use Rattle.net_expr.proofs.Walked.{all_join}
use Rattle.net_meaning.specs.Laws.{meaning_of}
use Rattle.net_meaning.specs.Operators.{Value, Truth, Many, One, Several, number, IsTuple, HaveOneDimension, IsResult, ShortCircuits, Combines}
use Rattle.net_meaning.specs.Operators as meaning
use Rattle.net_meaning.proofs.Giving.{gives_then, gives_if, gives_as, gives_both}

-- what a set operator or `in` requires
in_one_dimension : (d : Option ℕ) (t : Tuple) (ts : List Tuple) → IsSetOf d ts → fits d (length t) ≡ true → HaveOneDimension (t ∷ ts)
in_one_dimension None t ts h e = (length t, (refl, subst (AllByRecursion (λ (u : Tuple). length u ≡ length t)) (sym h) tt))
in_one_dimension (Some d) t ts h e = (d, (sym (eqb-true d (length t) e), h.1))

both_in_one : (d e : Option ℕ) (n : ℕ) (xs ys : List Tuple) → IsSetOf d xs → IsSetOf e ys → shared d e ≡ Some n → HaveOneDimension (xs ++ ys)
both_in_one d e n xs ys h k s = let both = meet d e n xs ys h k s in (n, all_join (λ (t : Tuple). length t ≡ n) xs ys both.0.1 both.1.1)

pub is_set : (o : Outcome Found) → Gives o → IfOk o IsSetValue
is_set (Ok v) h = h
is_set (Err r) h = tt

abbrev Made : BinOp → Found → Found → Found → Type 0
Made f x y v = IsResult f (meaning_of x) (meaning_of y) (meaning_of v)

pub number_is : (at : Span) (v : Found) → IfOk (numbers.number at v) (λ n. meaning_of v ≡ number n)
number_is at (found.One (member.Number n)) = refl
number_is at (found.One (member.Name t)) = tt
number_is at (found.Several t) = tt
number_is at (found.Many d ts) = tt
number_is at (found.Truth b) = tt

pub truth_is : (at : Span) (v : Found) → IfOk (truth at v) (λ b. meaning_of v ≡ Truth b)
truth_is at (found.Truth b) = refl
truth_is at (found.One m) = tt
truth_is at (found.Several t) = tt
truth_is at (found.Many d ts) = tt

pub sized_is : (at : Span) (n : ℤ) → IfOk (sized at n) (λ v. meaning_of v ≡ number n)
sized_is at n = gives_if _ (is_small n) _ _ (λ e. refl) (λ e. tt)

of_two : (f : BinOp) (at : Span) (g : ℤ → ℤ → Outcome Found) (x y : Found) → ((a b : ℤ) → IfOk (g a b) (λ v. IsResult f (number a) (number b) (meaning_of v))) → IfOk (of_numbers at g x y) (Made f x y)
of_two f at g x y h =
    gives_then (λ a. meaning_of x ≡ number a) (Made f x y) (numbers.number at x) _ (number_is at x) (λ a p.
    gives_then (λ b. meaning_of y ≡ number b) (Made f x y) (numbers.number at y) (g a) (number_is at y) (λ b q.
    gives_as (λ v. IsResult f (number a) (number b) (meaning_of v)) (Made f x y) (g a b) (λ v m. rw (p, q) m) (h a b)))

of_sized : (f : BinOp) (at : Span) (n a b : ℤ) → IsResult f (number a) (number b) (number n) → IfOk (sized at n) (λ v. IsResult f (number a) (number b) (meaning_of v))
of_sized f at n a b h = gives_as (λ v. meaning_of v ≡ number n) (λ v. IsResult f (number a) (number b) (meaning_of v)) (sized at n) (λ v e. rw e h) (sized_is at n)

not_both : (b : Bool) → (b && false) ≡ true → ⊥
not_both true e = cc
not_both false e = cc

quotient_is : (at : Span) (a b : ℤ) → IfOk (numbers.quotient at a b) (λ v. IsResult op.Div (number a) (number b) (meaning_of v))
quotient_is at (pos a) (pos (suc b)) = gives_if (λ v. IsResult op.Div (number (pos a)) (number (pos (suc b))) (meaning_of v)) (divides (pos a) (pos (suc b))) _ _ (λ e. meaning.quotient a (suc b) (omega arith)) (λ e. tt)
quotient_is at (pos a) (pos zero) = gives_if (λ v. IsResult op.Div (number (pos a)) (number (pos 0)) (meaning_of v)) (int_le (pos 0) (pos a) && false) _ _ (λ e. absurd (not_both _ e)) (λ e. tt)
quotient_is at (pos a) (negsuc b) = gives_if (λ v. IsResult op.Div (number (pos a)) (number (negsuc b)) (meaning_of v)) (int_le (pos 0) (pos a) && false) _ _ (λ e. absurd (not_both _ e)) (λ e. tt)
quotient_is at (negsuc a) b = tt

remainder_is : (at : Span) (a b : ℤ) → IfOk (numbers.remainder at a b) (λ v. IsResult op.Mod (number a) (number b) (meaning_of v))
remainder_is at (pos a) (pos (suc b)) = gives_if (λ v. IsResult op.Mod (number (pos a)) (number (pos (suc b))) (meaning_of v)) (divides (pos a) (pos (suc b))) _ _ (λ e. meaning.remainder a (suc b) (omega arith)) (λ e. tt)
remainder_is at (pos a) (pos zero) = gives_if (λ v. IsResult op.Mod (number (pos a)) (number (pos 0)) (meaning_of v)) (int_le (pos 0) (pos a) && false) _ _ (λ e. absurd (not_both _ e)) (λ e. tt)
remainder_is at (pos a) (negsuc b) = gives_if (λ v. IsResult op.Mod (number (pos a)) (number (negsuc b)) (meaning_of v)) (int_le (pos 0) (pos a) && false) _ _ (λ e. absurd (not_both _ e)) (λ e. tt)
remainder_is at (negsuc a) b = tt

of_members : (at : Span) (x y : Found) → IfOk (same at x y) (λ b. (m : Member) × (n : Member) × (meaning_of x ≡ One m) × (meaning_of y ≡ One n) × (b ≡ same_member m n))
of_members at (found.One a) (found.One b) = (a, b, refl, refl, refl)
of_members at (found.One a) (found.Several t) = tt
of_members at (found.One a) (found.Many d ts) = tt
of_members at (found.One a) (found.Truth b) = tt
of_members at (found.Several t) y = tt
of_members at (found.Many d ts) y = tt
of_members at (found.Truth b) y = tt

of_truth : (P : Found → Type 0) (o : Outcome Bool) → IfOk o (λ b. P (found.Truth b)) → IfOk (as_truth o) P
of_truth P o h = gives_then (λ b. P (found.Truth b)) P o _ h (λ b p. p)

of_denial : (P : Found → Type 0) (o : Outcome Bool) → IfOk o (λ b. P (found.Truth (not b))) → IfOk (as_denial o) P
of_denial P o h = gives_then (λ b. P (found.Truth (not b))) P o _ h (λ b p. p)

of_both : (f : BinOp) (at : Span) (g : List Tuple → List Tuple → List Tuple) → ((xs ys : List Tuple) → HaveOneDimension (xs ++ ys) → IsResult f (Many xs) (Many ys) (Many (g xs ys))) → (x y : Found) → IsSetValue x → IsSetValue y → IfOk (of_sets at g x y) (Made f x y)
of_both f at g h (found.Many d xs) (found.Many e ys) i j = go (shared d e) refl
  where
    go : (o : Option ℕ) → shared d e ≡ o → IfOk (set_of at o (g xs ys)) (λ v. IsResult f (Many xs) (Many ys) (meaning_of v))
    go None s = tt
    go (Some n) s = gives_if _ (nat_le (length (g xs ys)) tuples_limit) _ _ (λ l. h xs ys (both_in_one d e n xs ys i j s)) (λ l. tt)
of_both f at g h (found.Many d xs) (found.One m) i j = tt
of_both f at g h (found.Many d xs) (found.Several t) i j = tt
of_both f at g h (found.Many d xs) (found.Truth b) i j = tt
of_both f at g h (found.One m) y i j = tt
of_both f at g h (found.Several t) y i j = tt
of_both f at g h (found.Truth b) y i j = tt

of_cross : (at : Span) (x y : Found) → IfOk (crossed at x y) (Made op.Cross x y)
of_cross at (found.Many d xs) (found.Many e ys) =
    gives_if _ (nat_le (counted d + counted e) arity_limit && nat_le (widest xs + widest ys) arity_limit) _ _
    (λ i. gives_if _ (nat_le (length (product xs ys)) tuples_limit) _ _ (λ j. meaning.cross xs ys) (λ j. tt)) (λ i. tt)
of_cross at (found.Many d xs) (found.One m) = tt
of_cross at (found.Many d xs) (found.Several t) = tt
of_cross at (found.Many d xs) (found.Truth b) = tt
of_cross at (found.One m) y = tt
of_cross at (found.Several t) y = tt
of_cross at (found.Truth b) y = tt

-- a member or tuple, and a set
of_belonging : (at : Span) (x y : Found) → IsSetValue y → IfOk (belongs at x y) (λ b. (t : Tuple) × (ts : List Tuple) × IsTuple (meaning_of x) t × HaveOneDimension (t ∷ ts) × (meaning_of y ≡ Many ts) × (b ≡ has ts t))
of_belonging at (found.One m) (found.Many d ts) h = gives_if _ (fits d 1) _ _ (λ e. (m ∷ [], ts, meaning.one m, in_one_dimension d (m ∷ []) ts h e, refl, refl)) (λ e. tt)
of_belonging at (found.Several t) (found.Many d ts) h = gives_if _ (fits d (length t)) _ _ (λ e. (t, ts, meaning.several t, in_one_dimension d t ts h e, refl, refl)) (λ e. tt)
of_belonging at (found.One m) (found.One n) h = tt
of_belonging at (found.One m) (found.Several t) h = tt
of_belonging at (found.One m) (found.Truth b) h = tt
of_belonging at (found.Several t) (found.One n) h = tt
of_belonging at (found.Several t) (found.Several u) h = tt
of_belonging at (found.Several t) (found.Truth b) h = tt
of_belonging at (found.Many d ts) y h = tt
of_belonging at (found.Truth b) y h = tt

of_containing : (at : Span) (x y : Found) → IsSetValue x → IsSetValue y → IfOk (contained at x y) (λ b. (xs : List Tuple) × (ys : List Tuple) × HaveOneDimension (xs ++ ys) × (meaning_of x ≡ Many xs) × (meaning_of y ≡ Many ys) × (b ≡ is_within xs ys))
of_containing at (found.Many d xs) (found.Many e ys) i j = go (shared d e) refl
  where
    go : (o : Option ℕ) → shared d e ≡ o → IfOk (sets.inclusion at o xs ys) (λ b. (us : List Tuple) × (vs : List Tuple) × HaveOneDimension (us ++ vs) × (Many xs ≡ Many us) × (Many ys ≡ Many vs) × (b ≡ is_within us vs))
    go None s = tt
    go (Some n) s = (xs, ys, both_in_one d e n xs ys i j s, refl, refl, refl)
of_containing at (found.Many d xs) (found.One m) i j = tt
of_containing at (found.Many d xs) (found.Several t) i j = tt
of_containing at (found.Many d xs) (found.Truth b) i j = tt
of_containing at (found.One m) y i j = tt
of_containing at (found.Several t) y i j = tt
of_containing at (found.Truth b) y i j = tt

-- what an operator makes, where the left side does not decide
pub makes : (f : BinOp) (at : Span) (x y : Found) → IsSetValue x → IsSetValue y → decided f at x ≡ Ok None → IfOk (apply f at x y) (Made f x y)
makes op.Plus at x y h k u = of_two op.Plus at (numbers.plus at) x y (λ a b. of_sized op.Plus at _ a b (meaning.plus a b))
makes op.Minus at x y h k u = of_two op.Minus at (numbers.less at) x y (λ a b. of_sized op.Minus at _ a b (meaning.minus a b))
makes op.Times at x y h k u = of_two op.Times at (numbers.times at) x y (λ a b. of_sized op.Times at _ a b (meaning.times a b))
makes op.Div at x y h k u = of_two op.Div at (numbers.quotient at) x y (quotient_is at)
makes op.Mod at x y h k u = of_two op.Mod at (numbers.remainder at) x y (remainder_is at)
makes op.Cross at x y h k u = of_cross at x y
makes op.Inter at x y h k u = of_both op.Inter at intersection meaning.inter x y h k
makes op.Union at x y h k u = of_both op.Union at union meaning.union x y h k
makes op.Diff at x y h k u = of_both op.Diff at difference meaning.diff x y h k
makes op.Symdiff at x y h k u = of_both op.Symdiff at symmetric_difference meaning.symdiff x y h k
makes op.Equal at x y h k u = of_truth (Made op.Equal x y) (same at x y) (gives_as _ _ (same at x y) (λ b (m, n, e, f, g). rw (e, f, g) (meaning.equal m n)) (of_members at x y))
makes op.Unequal at x y h k u = of_denial (Made op.Unequal x y) (same at x y) (gives_as _ _ (same at x y) (λ b (m, n, e, f, g). rw (e, f, g) (meaning.unequal m n)) (of_members at x y))
makes op.Less at x y h k u = of_two op.Less at _ x y meaning.less
makes op.AtMost at x y h k u = of_two op.AtMost at _ x y meaning.at_most
makes op.Greater at x y h k u = of_two op.Greater at _ x y meaning.greater
makes op.AtLeast at x y h k u = of_two op.AtLeast at _ x y meaning.at_least
makes op.In at x y h k u = of_truth (Made op.In x y) (belongs at x y) (gives_as _ _ (belongs at x y) (λ b (t, ts, i, d, e, g). rw (e, g) (meaning.is_in (meaning_of x) t ts i d)) (of_belonging at x y k))
makes op.NotIn at x y h k u = of_denial (Made op.NotIn x y) (belongs at x y) (gives_as _ _ (belongs at x y) (λ b (t, ts, i, d, e, g). rw (e, g) (meaning.is_not_in (meaning_of x) t ts i d)) (of_belonging at x y k))
makes op.Within at x y h k u = of_truth (Made op.Within x y) (contained at x y) (gives_as _ _ (contained at x y) (λ b (xs, ys, d, e, f, g). rw (e, f, g) (meaning.within xs ys d)) (of_containing at x y h k))
makes op.NotWithin at x y h k u = of_denial (Made op.NotWithin x y) (contained at x y) (gives_as _ _ (contained at x y) (λ b (xs, ys, d, e, f, g). rw (e, f, g) (meaning.not_within xs ys d)) (of_containing at x y h k))
makes op.And at (found.Truth true) (found.Truth b) h k u = meaning.and_both b
makes op.And at (found.Truth true) (found.One m) h k u = tt
makes op.And at (found.Truth true) (found.Several t) h k u = tt
makes op.And at (found.Truth true) (found.Many d ts) h k u = tt
makes op.And at (found.Truth false) y h k u = cc
makes op.And at (found.One m) y h k u = tt
makes op.And at (found.Several t) y h k u = tt
makes op.And at (found.Many d ts) y h k u = tt
makes op.Or at (found.Truth false) (found.Truth b) h k u = meaning.or_other b
makes op.Or at (found.Truth false) (found.One m) h k u = tt
makes op.Or at (found.Truth false) (found.Several t) h k u = tt
makes op.Or at (found.Truth false) (found.Many d ts) h k u = tt
makes op.Or at (found.Truth true) y h k u = cc
makes op.Or at (found.One m) y h k u = tt
makes op.Or at (found.Several t) y h k u = tt
makes op.Or at (found.Many d ts) y h k u = tt
makes op.Range at x y h k u = tt
makes op.Other at x y h k u = tt

-- what the left side decides
abbrev IsDecided : BinOp → Found → Option Found → Type 0
IsDecided f x None = Unit {0}
IsDecided f x (Some v) = ShortCircuits f (meaning_of x) × (meaning_of v ≡ meaning_of x) × IsSetValue v

decides : (f : BinOp) (at : Span) (x : Found) → IfOk (decided f at x) (IsDecided f x)
decides op.And at (found.Truth true) = tt
decides op.And at (found.Truth false) = (meaning.and_false, refl, tt)
decides op.And at (found.One m) = tt
decides op.And at (found.Several t) = tt
decides op.And at (found.Many d ts) = tt
decides op.Or at (found.Truth true) = (meaning.or_true, refl, tt)
decides op.Or at (found.Truth false) = tt
decides op.Or at (found.One m) = tt
decides op.Or at (found.Several t) = tt
decides op.Or at (found.Many d ts) = tt
decides _ at x = tt

-- an operator with its right side
pub joins : (f : BinOp) (at : Span) (right : Outcome Found) (Right : Value → Type 0) (x : Found) → IsSetValue x → IfOk right (λ z. Right (meaning_of z) × IsSetValue z) → IfOk (joined at f right x) (λ v. Combines f (meaning_of x) Right (meaning_of v) × IsSetValue v)
joins f at right Right x s h = go (decided f at x) refl (decides f at x)
  where
    go : (o : Outcome (Option Found)) → decided f at x ≡ o → IfOk o (IsDecided f x) → IfOk (and_then o (either (λ u. Ok u) (and_then right (apply f at x)))) (λ v. Combines f (meaning_of x) Right (meaning_of v) × IsSetValue v)
    go (Err r) e d = tt
    go (Ok (Some v)) e d = (inl (d.0, d.1), d.2)
    go (Ok None) e d =
        gives_then (λ z. Right (meaning_of z) × IsSetValue z) (λ v. Combines f (meaning_of x) Right (meaning_of v) × IsSetValue v) right (apply f at x) h (λ z r.
        gives_as (λ v. Made f x z v × IsSetValue v) (λ v. Combines f (meaning_of x) Right (meaning_of v) × IsSetValue v) (apply f at x z) (λ v m. (inr (meaning_of z, r.0, m.0), m.1))
        (gives_both (Made f x z) IsSetValue (apply f at x z) (makes f at x z s r.1 e) (is_set (apply f at x z) (gives_apply f at x z s r.1))))
