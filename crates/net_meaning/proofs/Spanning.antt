-- A range lists the numbers from its first to its last.
use Rattle.std.specs.Prelude.{◌≡◌, ◌*◌, ◌<◌, ◌≤◌, ◌↔◌, ℕ, zero, suc, Bool, true, false, List, [], ◌∷◌, map, nat_le, int_lt, None, Some, if◌then◌else◌, Ok, IfOk, ℤ, pos, negsuc, ◌+ℤ◌, ◌-ℤ◌, ◌*ℤ◌, ◌≤ℤ◌, ◌<ℤ◌, unsigned_abs}
use Rattle.std.proofs.Common.{refl, ap, sym, subst, arith}
use Rattle.std.proofs.lemmas.Int.{ints}
use Rattle.std.proofs.lemmas.Bool.Decides.{nat_tests}
use Rattle.std.proofs.Math.Nat.{le-div_iff_mul-le}
use Rattle.net_base.specs.declared.diagnostic.Span.{Span}
use Rattle.net_base.specs.Outcomes.{rejected}
use Rattle.net_base.specs.declared.error_code.ErrorCode.TheVariants.{DivMod}
use Rattle.net_sets.specs.Limits.{tuples_limit}
use Rattle.net_sets.specs.Ranges.{way_up, way_on, size_by, range_size, singles, range}
use Rattle.net_sets.specs.Sets.{Tuple}
use Rattle.net_expr.specs.declared.value.Value.{Value as Found}
use Rattle.net_expr.specs.Numbers as numbers
use Rattle.net_expr.specs.Numbers.{step, size, range_of}
use Rattle.net_meaning.specs.Laws.{meaning_of}
use Rattle.net_meaning.specs.Operators.{Many, number, IsRange, IsRangeOf, to, by}
use Rattle.net_meaning.proofs.Giving.{gives_then, gives_any, gives_if, gives_as}
use Rattle.net_meaning.proofs.Operating.{number_is}

inside_way : (a b : ℤ) (m k : ℕ) → (k < size_by (pos (suc m)) (way_up a b)) ↔ ((a +ℤ (pos k *ℤ pos (suc m))) ≤ℤ b)
inside_way a b m k = go (int_lt b a) refl
  where
    times : ℕ
    times = k * suc m

    up_is : pos k *ℤ pos (suc m) ≡ pos times
    up_is = refl

    go : (t : Bool) → int_lt b a ≡ t → (k < size_by (pos (suc m)) (if t then None else Some (unsigned_abs (b -ℤ a)))) ↔ ((a +ℤ (pos k *ℤ pos (suc m))) ≤ℤ b)
    go true e = let less : b <ℤ a = search (arith, ints, e) in ((λ h. absurd (omega (arith, h))), (λ h. absurd (omega (arith, ints, h, less, up_is))))
    go false e =
        let most : a ≤ℤ b = search (arith, ints, e) in
        let there = le-div_iff_mul-le {k = suc m} {x = k} {y = unsigned_abs (b -ℤ a)} (omega arith) in
        let far : a +ℤ pos (unsigned_abs (b -ℤ a)) ≡ b = omega (arith, ints, most) in
        ((λ h. let i = there.0 (omega (arith, h)) in omega (arith, ints, i, far, up_is)), (λ h. let i : times ≤ unsigned_abs (b -ℤ a) = omega (arith, ints, h, far, up_is) in let j = there.1 i in omega (arith, j)))

on_upwards : (a b : ℤ) (m : ℕ) → way_on (pos (suc m)) a b ≡ way_up a b
on_upwards a b m = let upwards : int_lt (pos (suc m)) (pos 0) ≡ false = grind (arith, ints, nat_tests) in ap (λ t. if t then way_up b a else way_up a b) upwards

pub is_range : (a b c : ℤ) → pos 1 ≤ℤ c → IsRange a b c (singles (range a b c))
is_range a b (pos zero) h = absurd (omega (arith, ints, h))
is_range a b (pos (suc m)) h = record { count = range_size a b (pos (suc m)); positive = h; inside = λ k. subst (λ o. (k < size_by (pos (suc m)) o) ↔ ((a +ℤ (pos k *ℤ pos (suc m))) ≤ℤ b)) (sym (on_upwards a b m)) (inside_way a b m k); tuples = refl }
is_range a b (negsuc m) h = absurd (omega (arith, ints, h))

range_is : (at : Span) (a b c : ℤ) → IfOk (numbers.range at a b c) (λ v. (ts : List Tuple) × IsRange a b c ts × (meaning_of v ≡ Many ts))
range_is at a b c =
    gives_any _ (step at c) _ (λ u h. gives_any _ (size at a b c) _ (λ v i.
    gives_if _ (nat_le (range_size a b c) tuples_limit) _ _ (λ e. (singles (range a b c), is_range a b c (positive (int_lt c (pos 1)) refl h), refl)) (λ e. tt)))
  where
    positive : (t : Bool) → int_lt c (pos 1) ≡ t → {u : Unit {0}} → (if t then rejected DivMod at else Ok tt) ≡ Ok u → pos 1 ≤ℤ c
    positive true e h = cc
    positive false e h = search (arith, ints, e)

pub span_is : (at : Span) (vs : List Found) → IfOk (range_of at vs) (λ v. (ts : List Tuple) × IsRangeOf (map meaning_of vs) ts × (meaning_of v ≡ Many ts))
span_is at [] = tt
span_is at (x ∷ []) = tt
span_is at (x ∷ y ∷ []) =
    gives_then (λ a. meaning_of x ≡ number a) _ (numbers.number at x) _ (number_is at x) (λ a e.
    gives_then (λ b. meaning_of y ≡ number b) _ (numbers.number at y) _ (number_is at y) (λ b f.
    gives_as _ _ (numbers.range at a b (pos 1)) (λ v (ts, r, g). (ts, rw (e, f) (to a b ts r), g)) (range_is at a b (pos 1))))
span_is at (x ∷ y ∷ z ∷ []) =
    gives_then (λ a. meaning_of x ≡ number a) _ (numbers.number at x) _ (number_is at x) (λ a e.
    gives_then (λ b. meaning_of y ≡ number b) _ (numbers.number at y) _ (number_is at y) (λ b f.
    gives_then (λ c. meaning_of z ≡ number c) _ (numbers.number at z) _ (number_is at z) (λ c g.
    gives_as _ _ (numbers.range at a b c) (λ v (ts, r, h). (ts, rw (e, f, g) (by a b c ts r), h)) (range_is at a b c))))
span_is at (x ∷ y ∷ z ∷ u ∷ vs) = tt
