-- Coefficients of added products.
use Rattle.std.specs.Prelude.{◌≡◌, ℕ, zero, suc, ◌+◌, ◌≤◌, ◌<◌, ◌^◌, Bool, true, false, cond, not, ◌&&◌, ◌||◌, if◌then◌else◌, List, [], ◌∷◌, drop, length, slice_get, Option, Some, None, ℤ, pos, negsuc, ◌+ℤ◌, ◌*ℤ◌, nat_eq, unsigned_abs}
use Rattle.std.specs.Map.{lookup}
use Rattle.std.specs.Option.{unwrap_or}
use Rattle.indexmap.specs.IndexMap.{insert_entry}
use Rattle.std.proofs.Common.{refl, ap, sym, subst, ◌∙◌, add-one, arith}
use Rattle.std.proofs.lemmas.Int.{ints}
use Rattle.std.proofs.lemmas.Bool.{eqb-true}
use Rattle.net_expr.specs.Limits.{is_small}
use Rattle.net_linear.specs.Forms.{Products, coefficient, more, with_times, all_small, stands_in, all_apart}
use Rattle.net_linear.proofs.Rings.{mul-none}

-- what the map holds of an arc, or 0
abbrev pub or_none : Option ℤ → ℤ
or_none None = pos 0
or_none (Some n) = n

pub coefficient_is : (ps : Products) (a : ℕ) → or_none (lookup (nat_eq a) ps) ≡ coefficient ps a
coefficient_is [] a = refl
coefficient_is (p ∷ ps) a = step (nat_eq a p.0) (coefficient_is ps a)
  where
    step : (b : Bool) → or_none (lookup (nat_eq a) ps) ≡ coefficient ps a → or_none (cond b (Some p.1) (lookup (nat_eq a) ps)) ≡ (if b then p.1 else coefficient ps a)
    step true h = refl
    step false h = h

pub unwrapped : (o : Option ℤ) → unwrap_or o (pos 0) ≡ or_none o
unwrapped None = refl
unwrapped (Some n) = refl

-- a map's insertion of the sum
pub more_is : (ps : Products) (a : ℕ) (c : ℤ) → insert_entry nat_eq ps a (coefficient ps a +ℤ c) ≡ more ps a c
more_is [] a c = ap (λ (i : ℤ). (a, i) ∷ []) (omega (arith, ints))
more_is (p ∷ ps) a c = step (nat_eq a p.0) (more_is ps a c)
  where
    step : (b : Bool) → insert_entry nat_eq ps a (coefficient ps a +ℤ c) ≡ more ps a c
        → cond b ((p.0, (if b then p.1 else coefficient ps a) +ℤ c) ∷ ps) (p ∷ insert_entry nat_eq ps a ((if b then p.1 else coefficient ps a) +ℤ c)) ≡ (if b then (p.0, p.1 +ℤ c) ∷ ps else p ∷ more ps a c)
    step true h = refl
    step false h = ap (λ (qs : Products). p ∷ qs) h

same : (a : ℕ) → nat_eq a a ≡ true
same a = grind (arith)

-- the coefficients after one more: of the arc itself, and of any other
pub coefficient_more : (ps : Products) (a b : ℕ) (c : ℤ) → coefficient (more ps a c) b ≡ (if nat_eq b a then coefficient ps a +ℤ c else coefficient ps b)
coefficient_more [] a b c = step (nat_eq b a)
  where
    step : (t : Bool) → (if t then c else pos 0) ≡ (if t then pos 0 +ℤ c else pos 0)
    step true = omega (arith, ints)
    step false = refl
coefficient_more (p ∷ ps) a b c = step (nat_eq a p.0) (nat_eq b a) (nat_eq b p.0) refl refl refl (coefficient_more ps a b c)
  where
    step : (t u v : Bool) → nat_eq a p.0 ≡ t → nat_eq b a ≡ u → nat_eq b p.0 ≡ v → coefficient (more ps a c) b ≡ (if nat_eq b a then coefficient ps a +ℤ c else coefficient ps b)
        → coefficient (if t then (p.0, p.1 +ℤ c) ∷ ps else p ∷ more ps a c) b ≡ (if u then (if t then p.1 else coefficient ps a) +ℤ c else if v then p.1 else coefficient ps b)
    step true true true h k l r = rw l refl
    step true true false h k l r = grind (arith, h, k, l)
    step true false true h k l r = grind (arith, h, k, l)
    step true false false h k l r = rw l refl
    step false true true h k l r = grind (arith, h, k, l)
    step false true false h k l r = rw l (r ∙ rw k refl)
    step false false true h k l r = rw l refl
    step false false false h k l r = rw l (r ∙ rw k refl)

-- tests of what is touched
pub step_test : (ps : Products) (a : ℕ) (c : ℤ) → all_small ps ≡ true → all_small (more ps a c) ≡ is_small (coefficient ps a +ℤ c)
step_test [] a c h = last (is_small (pos 0 +ℤ c)) (ap is_small (omega (arith, ints)))
  where
    last : (b : Bool) → is_small c ≡ b → is_small c && true ≡ b
    last true e = rw e refl
    last false e = rw e refl
step_test (p ∷ ps) a c h = step (nat_eq a p.0) (is_small p.1) (all_small ps) refl refl h (λ i. step_test ps a c i)
  where
    step : (t u v : Bool) → is_small p.1 ≡ u → all_small ps ≡ v → u && v ≡ true → (all_small ps ≡ true → all_small (more ps a c) ≡ is_small (coefficient ps a +ℤ c))
        → all_small (if t then (p.0, p.1 +ℤ c) ∷ ps else p ∷ more ps a c) ≡ is_small ((if t then p.1 else coefficient ps a) +ℤ c)
    step true true true k l i r = rw l (tail (is_small (p.1 +ℤ c)))
      where
        tail : (b : Bool) → b && true ≡ b
        tail true = refl
        tail false = refl
    step false true true k l i r = rw k (r l)
    step t false v k l i r = cc
    step t true false k l i r = cc

-- an arc that stands nowhere
nowhere : (qs : Products) (a : ℕ) → stands_in a qs ≡ false → coefficient qs a ≡ pos 0
nowhere [] a h = refl
nowhere (q ∷ qs) a h = step (nat_eq a q.0) h (λ i. nowhere qs a i)
  where
    step : (t : Bool) → t || stands_in a qs ≡ false → (stands_in a qs ≡ false → coefficient qs a ≡ pos 0) → (if t then q.1 else coefficient qs a) ≡ pos 0
    step true h r = cc
    step false h r = r h

pub head_apart : (t u : Bool) → not t && u ≡ true → t ≡ false
head_apart true u h = cc
head_apart false u h = refl

pub tail_apart : (t u : Bool) → not t && u ≡ true → u ≡ true
tail_apart true u h = cc
tail_apart false u h = h

-- the coefficients of what is added
pub coefficient_with : (ps : Products) (k : ℤ) (qs : Products) (b : ℕ) → all_apart qs ≡ true → coefficient (with_times ps k qs) b ≡ coefficient ps b +ℤ k *ℤ coefficient qs b
coefficient_with ps k [] b h = omega (arith, ints, mul-none k)
coefficient_with ps k (q ∷ qs) b h =
    coefficient_with (more ps q.0 (k *ℤ q.1)) k qs b (tail_apart (stands_in q.0 qs) (all_apart qs) h)
    ∙ ap (λ (i : ℤ). i +ℤ k *ℤ coefficient qs b) (coefficient_more ps q.0 b (k *ℤ q.1))
    ∙ step (nat_eq b q.0) refl
  where
    none_after : b ≡ q.0 → coefficient qs b ≡ pos 0
    none_after e = ap (coefficient qs) e ∙ nowhere qs q.0 (head_apart (stands_in q.0 qs) (all_apart qs) h)

    step : (t : Bool) → nat_eq b q.0 ≡ t → (if t then coefficient ps q.0 +ℤ k *ℤ q.1 else coefficient ps b) +ℤ k *ℤ coefficient qs b ≡ coefficient ps b +ℤ k *ℤ (if t then q.1 else coefficient qs b)
    step true e = omega (arith, ints, ap (λ (i : ℤ). k *ℤ i) (none_after (eqb-true b q.0 e)), mul-none k, ap (coefficient ps) (eqb-true b q.0 e))
    step false e = refl

-- where all are small, so is each
pub each_small : (ps : Products) (a : ℕ) → all_small ps ≡ true → is_small (coefficient ps a) ≡ true
unfolding is_small
each_small [] a h = refl
each_small (p ∷ ps) a h = step (nat_eq a p.0) (is_small p.1) refl h (λ i. each_small ps a i)
  where
    step : (t u : Bool) → is_small p.1 ≡ u → u && all_small ps ≡ true → (all_small ps ≡ true → is_small (coefficient ps a) ≡ true) → is_small (if t then p.1 else coefficient ps a) ≡ true
    step true true k h r = k
    step false true k h r = r h
    step t false k h r = cc

-- a coefficient past the limit stays there
pub stays_large : (ps : Products) (k : ℤ) (q : ℕ × ℤ) (qs : Products) → all_apart (q ∷ qs) ≡ true → is_small (coefficient ps q.0 +ℤ k *ℤ q.1) ≡ false → all_small (with_times ps k (q ∷ qs)) ≡ false
stays_large ps k q qs h l = step (all_small (with_times ps k (q ∷ qs))) refl
  where
    is_self : (b : Bool) → b ≡ true → (if b then q.1 else coefficient qs q.0) ≡ q.1
    is_self true e = refl
    is_self false e = cc

    sum_is : coefficient (with_times ps k (q ∷ qs)) q.0 ≡ coefficient ps q.0 +ℤ k *ℤ q.1
    sum_is = coefficient_with ps k (q ∷ qs) q.0 h ∙ ap (λ (i : ℤ). coefficient ps q.0 +ℤ k *ℤ i) (is_self (nat_eq q.0 q.0) (same q.0))

    step : (b : Bool) → all_small (with_times ps k (q ∷ qs)) ≡ b → b ≡ false
    step true e = sym (each_small (with_times ps k (q ∷ qs)) q.0 e) ∙ (ap is_small sum_is ∙ l)
    step false e = refl

-- apart they stay
stands_more : (ps : Products) (a b : ℕ) (c : ℤ) → nat_eq b a ≡ false → stands_in b (more ps a c) ≡ stands_in b ps
stands_more [] a b c h = rw h refl
stands_more (p ∷ ps) a b c h = step (nat_eq a p.0) (stands_more ps a b c h)
  where
    step : (t : Bool) → stands_in b (more ps a c) ≡ stands_in b ps → stands_in b (if t then (p.0, p.1 +ℤ c) ∷ ps else p ∷ more ps a c) ≡ nat_eq b p.0 || stands_in b ps
    step true r = refl
    step false r = ap (λ (t : Bool). nat_eq b p.0 || t) r

flip : (a b : ℕ) → nat_eq a b ≡ false → nat_eq b a ≡ false
flip a b h = grind (arith, h)

pub apart_more : (ps : Products) (a : ℕ) (c : ℤ) → all_apart ps ≡ true → all_apart (more ps a c) ≡ true
apart_more [] a c h = refl
apart_more (p ∷ ps) a c h = step (nat_eq a p.0) refl (apart_more ps a c (tail_apart (stands_in p.0 ps) (all_apart ps) h))
  where
    step : (t : Bool) → nat_eq a p.0 ≡ t → all_apart (more ps a c) ≡ true → all_apart (if t then (p.0, p.1 +ℤ c) ∷ ps else p ∷ more ps a c) ≡ true
    step true e r = h
    step false e r =
        rw (stands_more ps a p.0 c (flip a p.0 e))
        (rw (head_apart (stands_in p.0 ps) (all_apart ps) h) r)

pub apart_with : (ps : Products) (k : ℤ) (qs : Products) → all_apart ps ≡ true → all_apart (with_times ps k qs) ≡ true
apart_with ps k [] h = h
apart_with ps k (q ∷ qs) h = apart_with (more ps q.0 (k *ℤ q.1)) k qs (apart_more ps q.0 (k *ℤ q.1) h)
