-- Forms within the limit, and sums that are gathered.
use Rattle.std.specs.Prelude.{◌≡◌, ℕ, ◌≤◌, ◌<◌, ◌+◌, ◌*◌, ◌^◌, Bool, true, false, ◌&&◌, [], ◌∷◌, if◌then◌else◌, ℤ, pos, negsuc, ◌+ℤ◌, ◌*ℤ◌, unsigned_abs}
use Rattle.std.proofs.Common.{refl, ap, sym, ◌∙◌, subst, arith}
use Rattle.std.proofs.lemmas.Int.{ints, unsigned_abs-mul}
use lib.IntN.{*ℤ_comm}
use Rattle.net_normal.specs.Limits.{IsSized, value_limit}
use Rattle.net_expr.specs.Limits.{is_small}
use Rattle.net_linear.specs.Forms.{Products, Linear, coefficient, more, with_times, all_small, all_apart, combined, is_sized, AreWithin, just, one_arc}
use Rattle.net_linear.proofs.Adding.{abs_product}
use Rattle.net_linear.proofs.Coefficients.{each_small, step_test, apart_more, apart_with, coefficient_with}
use Rattle.net_linear.proofs.Sizes.{small_abs}
use Rattle.net_linear.proofs.Rings.{mul-none, one-mul}

pub constant_room : (m k n b : ℤ) → unsigned_abs m ≤ 2 ^ 125 → unsigned_abs k ≤ 2 ^ 40 → is_small n ≡ true → b ≡ k *ℤ n → unsigned_abs m + unsigned_abs b < 170141183460469231731687303715884105728
constant_room m k n b h l s e = omega (arith, h, abs_product k n l s, ap unsigned_abs e)

both_are : (a b : Bool) → a && b ≡ true → (a ≡ true) × (b ≡ true)
both_are true true h = (refl, refl)
both_are true false h = cc
both_are false b h = cc

pub constant_small : (f : Linear) → is_sized f ≡ true → is_small f.constant ≡ true
constant_small f h = (both_are (is_small f.constant) (all_small f.products) h).0

pub products_small : (f : Linear) → is_sized f ≡ true → all_small f.products ≡ true
products_small f h = (both_are (is_small f.constant) (all_small f.products) h).1

-- a form within the limit has room for more
pub roomy : (f : Linear) → is_sized f ≡ true → AreWithin (2 ^ 125) f
roomy f h = record {
  constant = omega (arith, small_abs f.constant (constant_small f h));
  products = λ a. omega (arith, small_abs (coefficient f.products a) (each_small f.products a (products_small f h)));
}

-- both tests at once
pub fits_all : (here small : Bool) (m c : ℤ) (ps qs : Products) → is_small m && all_small ps ≡ true → here ≡ is_small c → (all_small ps ≡ true → small ≡ all_small qs) → (here && small) ≡ (is_small c && all_small qs)
fits_all here small m c ps qs h e k =
    let both = both_are (is_small m) (all_small ps) h in
    ap (λ b. b && small) e ∙ ap (λ b. is_small c && b) (k both.1)

pub arc_sized : (a : ℕ) → is_sized (one_arc a) ≡ true
unfolding is_small
arc_sized a = refl

-- one arc more in a form
pub combined_arc : (m k : ℤ) (ps : Products) (a : ℕ) → record { constant = m; products = more ps a k } ≡ combined (record { constant = m; products = ps }) k (one_arc a)
combined_arc m k ps a = sym (ap (λ (i : ℤ). form i (k *ℤ pos 1)) none ∙ ap (form m) (*ℤ_comm k (pos 1) ∙ one-mul k))
  where
    form : ℤ → ℤ → Linear
    form i j = record { constant = i; products = more ps a j }

    none : m +ℤ k *ℤ pos 0 ≡ m
    none = omega (arith, ints, mul-none k)

pub fits_arc : (f : Linear) (k : ℤ) (a : ℕ) → is_sized f ≡ true → is_small (coefficient f.products a +ℤ k) ≡ is_sized (combined f k (one_arc a))
fits_arc f k a h =
    sym (step_test f.products a k (products_small f h)) ∙ sym (ap (λ b. b && all_small (more f.products a k)) (constant_small f h)) ∙ ap is_sized (combined_arc f.constant k f.products a)

pub arc_room : (f : Linear) (k : ℤ) (a : ℕ) → is_sized f ≡ true → is_small k ≡ true → unsigned_abs (coefficient f.products a) + unsigned_abs k < 170141183460469231731687303715884105728
arc_room f k a h s = omega (arith, small_abs k s, small_abs (coefficient f.products a) (each_small f.products a (products_small f h)))

pub arc_apart : (ps : Products) (a : ℕ) (k : ℤ) (new : Products) → new ≡ more ps a k → all_apart ps ≡ true → all_apart new ≡ true
arc_apart ps a k new e h = ap all_apart e ∙ apart_more ps a k h

pub small_factor : (n : ℤ) → is_small n ≡ true → unsigned_abs n ≤ 2 ^ 40
small_factor n h = omega (arith, small_abs n h)

abs_sum : (a b : ℤ) → unsigned_abs (a +ℤ b) ≤ unsigned_abs a + unsigned_abs b
abs_sum (pos m) (pos n) = omega (arith, ints)
abs_sum (pos m) (negsuc n) = omega (arith, ints)
abs_sum (negsuc m) (pos n) = omega (arith, ints)
abs_sum (negsuc m) (negsuc n) = omega (arith, ints)

within_once : (n : ℕ) (m k c : ℤ) → k ≡ pos 1 → unsigned_abs m ≤ n → is_small c ≡ true → unsigned_abs (m +ℤ k *ℤ c) ≤ n + 1000000000000
within_once n m k c e h s =
    let once : k *ℤ c ≡ c = ap (λ (i : ℤ). i *ℤ c) e ∙ one-mul c in
    omega (arith, abs_sum m (k *ℤ c), h, small_abs c s, ap unsigned_abs once)

-- one form more in a sum
pub within_combined : (n : ℕ) (f g : Linear) (k : ℤ) → k ≡ pos 1 → is_sized g ≡ true → all_apart g.products ≡ true → AreWithin n f → AreWithin (n + 1000000000000) (combined f k g)
within_combined n f g k e s h w = record {
  constant = within_once n f.constant k g.constant e w.constant (constant_small g s);
  products = λ a. subst (λ (i : ℤ). unsigned_abs i ≤ n + 1000000000000) (sym (coefficient_with f.products k g.products a h))
      (within_once n (coefficient f.products a) k (coefficient g.products a) e (w.products a) (each_small g.products a (products_small g s)));
}

pub nothing_within : AreWithin 0 (just (pos 0))
nothing_within = record { constant = omega (arith, ints); products = λ a. omega (arith, ints) }

pub grown : (i : ℕ) (f : Linear) → AreWithin (i * 1000000000000 + 1000000000000) f → AreWithin ((i + 1) * 1000000000000) f
grown i f h = let same : i * 1000000000000 + 1000000000000 ≡ (i + 1) * 1000000000000 = omega arith in subst (λ n. AreWithin n f) same h

pub still_roomy : (i : ℕ) (f : Linear) → i < 2 ^ 64 → AreWithin (i * 1000000000000) f → AreWithin (2 ^ 125) f
still_roomy i f l h = record { constant = omega (arith, h.constant); products = λ a. omega (arith, h.products a) }

pub room_next : (f g new : Linear) (k : ℤ) → k ≡ pos 1 → new ≡ combined f k g → is_sized g ≡ true → all_apart g.products ≡ true → (n : ℕ) → AreWithin n f → AreWithin (n + 1000000000000) new
room_next f g new k e i s h n w = subst (AreWithin (n + 1000000000000)) (sym i) (within_combined n f g k e s h w)

pub apart_new : (ps : Products) (k : ℤ) (qs new : Products) → new ≡ with_times ps k qs → all_apart ps ≡ true → all_apart new ≡ true
apart_new ps k qs new e h = ap all_apart e ∙ apart_with ps k qs h

small_sized : (n : ℤ) → unsigned_abs n ≤ 1000000000000 → IsSized value_limit n
small_sized (pos k) h = record { above = omega (arith, ints, h); below = omega (arith, ints, h) }
small_sized (negsuc k) h = record { above = omega (arith, ints, h); below = omega (arith, ints, h) }

pub is_sized_number : (n : ℤ) → is_small n ≡ true → IsSized value_limit n
is_sized_number n h = small_sized n (small_abs n h)

pub sized_as : (m n : ℤ) → m ≡ n → IsSized value_limit n → IsSized value_limit m
sized_as m n e h = subst (IsSized value_limit) (sym e) h
