-- Numbers within the limit, and what is made of two of them.
use Rattle.std.specs.Prelude.{◌≡◌, ℕ, ◌+◌, ◌*◌, ◌^◌, ◌<◌, ◌≤◌, Bool, true, false, ◌&&◌, IsTrue, ℤ, pos, negsuc, ◌+ℤ◌, ◌-ℤ◌, neg_ℤ, unsigned_abs}
use Rattle.std.proofs.Common.{refl, ap, sym, ◌∙◌, subst, arith, rules, FitsSigned, w64, to_z, of_z}
use mir.Val.{hbits}
use mir.Syntax.{w128}
use Rattle.std.proofs.lemmas.Int.{ints, fits_signed_from_abs, to_z-of_z}
use Rattle.std.proofs.lemmas.Bool.{leb-true}
use Rattle.net_normal.specs.Limits.{IsSized, range_limit}
use Rattle.net_expr.specs.Limits.{is_small}

pub both_true : (a b : Bool) → IsTrue (a && b) → (a ≡ true) × (b ≡ true)
both_true true true h = (refl, refl)
both_true true false h = cc
both_true false b h = cc

pub small_abs : (n : ℤ) → is_small n ≡ true → unsigned_abs n ≤ 1000000000000
unfolding is_small
small_abs n h = leb-true (unsigned_abs n) 1000000000000 h

abs_difference : (a b : ℤ) → unsigned_abs (a -ℤ b) ≤ unsigned_abs a + unsigned_abs b
abs_difference (pos m) (pos n) = omega (arith, ints)
abs_difference (pos m) (negsuc n) = omega (arith, ints)
abs_difference (negsuc m) (pos n) = omega (arith, ints)
abs_difference (negsuc m) (negsuc n) = omega (arith, ints)

sized_abs : (n : ℕ) (x : ℤ) → unsigned_abs x ≤ n → IsSized n x
sized_abs n (pos k) h = record { above = omega (arith, ints, h); below = omega (arith, ints, h) }
sized_abs n (negsuc k) h = record { above = omega (arith, ints, h); below = omega (arith, ints, h) }

-- the difference of two sides is of a size that a network takes
pub difference_sized : (a b : ℤ) → is_small a ≡ true → is_small b ≡ true → IsSized range_limit (a -ℤ b)
difference_sized a b h k = sized_abs range_limit (a -ℤ b) (omega (arith, abs_difference a b, small_abs a h, small_abs b k))

fits_64 : (n : ℤ) → unsigned_abs n ≤ 2000000000000 → FitsSigned w64 n
fits_64 n h = fits_signed_from_abs w64 n (le_lt (unsigned_abs n) h)
  where
    le_lt : (m : ℕ) → m ≤ 2000000000000 → m < 2 ^ hbits w64
    le_lt m h = omega arith

pub cast_small : (n : ℤ) → is_small n ≡ true → to_z w64 (of_z w64 n) ≡ n
cast_small n h = to_z-of_z w64 n (fits_64 n (omega (arith, small_abs n h)))

difference_fits : (a b : ℤ) → is_small a ≡ true → is_small b ≡ true → FitsSigned w64 (a -ℤ b)
difference_fits a b h k = fits_64 (a -ℤ b) (omega (arith, abs_difference a b, small_abs a h, small_abs b k))

-- as the code takes it
taken : (a b : ℤ) → is_small a ≡ true → is_small b ≡ true → to_z w64 (of_z w64 a) -ℤ to_z w64 (of_z w64 b) ≡ a -ℤ b
taken a b h k = ap (λ (i : ℤ). i -ℤ to_z w64 (of_z w64 b)) (cast_small a h) ∙ ap (λ (i : ℤ). a -ℤ i) (cast_small b k)

pub taken_fits : (a b : ℤ) → IsTrue (is_small a && is_small b) → FitsSigned w64 (to_z w64 (of_z w64 a) -ℤ to_z w64 (of_z w64 b))
taken_fits a b h = let p = both_true (is_small a) (is_small b) h in subst (FitsSigned w64) (sym (taken a b p.0 p.1)) (difference_fits a b p.0 p.1)

pub taken_is : (a b : ℤ) → IsTrue (is_small a && is_small b) → to_z w64 (of_z w64 (to_z w64 (of_z w64 a) -ℤ to_z w64 (of_z w64 b))) ≡ a -ℤ b
taken_is a b h = let p = both_true (is_small a) (is_small b) h in to_z-of_z w64 _ (taken_fits a b h) ∙ taken a b p.0 p.1

-- a number within the limit, as a wide one and as the code narrows it
small_128 : (n : ℤ) → is_small n ≡ true → FitsSigned w128 n
small_128 n h = fits_signed_from_abs w128 n (le_lt (unsigned_abs n) (small_abs n h))
  where
    le_lt : (m : ℕ) → m ≤ 1000000000000 → m < 2 ^ hbits w128
    le_lt m h = omega arith

pub narrow_fits : (n : ℤ) → is_small n ≡ true → FitsSigned w64 (to_z w128 (of_z w128 n))
narrow_fits n h = subst (FitsSigned w64) (sym (to_z-of_z w128 n (small_128 n h))) (fits_64 n (omega (arith, small_abs n h)))

pub narrow_is : (n : ℤ) → is_small n ≡ true → to_z w64 (of_z w64 (to_z w128 (of_z w128 n))) ≡ n
narrow_is n h = to_z-of_z w64 _ (narrow_fits n h) ∙ to_z-of_z w128 n (small_128 n h)
