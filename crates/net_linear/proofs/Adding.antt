-- Adding the products of a list one by one.
use Rattle.std.specs.Prelude.{◌≡◌, ℕ, zero, suc, ◌≤◌, ◌<◌, ◌+◌, ◌*◌, ◌^◌, Bool, true, false, ◌&&◌, ◌||◌, [], ◌∷◌, drop, slice_get, length, Some, None, if◌then◌else◌, ℤ, ◌+ℤ◌, ◌*ℤ◌, nat_eq, unsigned_abs}
use Rattle.std.proofs.Common.{refl, ap, sym, ◌∙◌, subst, add-one, arith, to_z, of_z, FitsSigned}
use mir.Val.{hbits}
use mir.Syntax.{w128}
use Rattle.std.proofs.lemmas.Int.{fits_signed_from_abs, to_z-of_z, unsigned_abs-mul}
use Rattle.std.proofs.lemmas.Bool.{eqb-true}
use Rattle.net_expr.specs.Limits.{is_small}
use Rattle.net_linear.specs.Forms.{Products, coefficient, more, with_times, all_small, stands_in, all_apart}
use Rattle.net_linear.proofs.Coefficients.{step_test, stays_large, head_apart, tail_apart, coefficient_more}
use Rattle.net_linear.proofs.Sizes.{small_abs}

-- products of two numbers that fit
abs_mul : (m n : ℕ) (a b : ℤ) → unsigned_abs a ≤ m → unsigned_abs b ≤ n → unsigned_abs (a *ℤ b) ≤ m * n
abs_mul m n a b h k = let r : unsigned_abs a * unsigned_abs b ≤ m * n = grind arith in omega (arith, r, unsigned_abs-mul a b)

pub abs_product : (a b : ℤ) → unsigned_abs a ≤ 2 ^ 40 → is_small b ≡ true → unsigned_abs (a *ℤ b) ≤ 2 ^ 40 * 1000000000000
abs_product a b h k = abs_mul (2 ^ 40) 1000000000000 a b h (small_abs b k)

fits_128 : (n : ℤ) → unsigned_abs n ≤ 2 ^ 126 → FitsSigned w128 n
fits_128 n h = fits_signed_from_abs w128 n (le_lt (unsigned_abs n) h)
  where
    le_lt : (m : ℕ) → m ≤ 2 ^ 126 → m < 2 ^ hbits w128
    le_lt m h = omega arith

same_128 : (n : ℤ) → unsigned_abs n ≤ 2 ^ 126 → to_z w128 (of_z w128 n) ≡ n
same_128 n h = to_z-of_z w128 n (fits_128 n h)

taken : (a b : ℤ) → unsigned_abs a ≤ 2 ^ 40 → is_small b ≡ true → to_z w128 (of_z w128 a) *ℤ to_z w128 (of_z w128 b) ≡ a *ℤ b
taken a b h k = ap (λ (i : ℤ). i *ℤ to_z w128 (of_z w128 b)) (same_128 a (omega (arith, h))) ∙ ap (λ (i : ℤ). a *ℤ i) (same_128 b (omega (arith, small_abs b k)))

pub product_fits : (a b : ℤ) → unsigned_abs a ≤ 2 ^ 40 → is_small b ≡ true → FitsSigned w128 (to_z w128 (of_z w128 a) *ℤ to_z w128 (of_z w128 b))
product_fits a b h k = subst (FitsSigned w128) (sym (taken a b h k)) (fits_128 (a *ℤ b) (omega (arith, abs_product a b h k)))

pub product_is : (a b : ℤ) → unsigned_abs a ≤ 2 ^ 40 → is_small b ≡ true → to_z w128 (of_z w128 (to_z w128 (of_z w128 a) *ℤ to_z w128 (of_z w128 b))) ≡ a *ℤ b
product_is a b h k = to_z-of_z w128 _ (product_fits a b h k) ∙ taken a b h k

-- what stands at a place and behind it
pub front : (all : Products) (i : ℕ) (q : ℕ × ℤ) → Some q ≡ slice_get all i → drop i all ≡ q ∷ drop (i + 1) all
front all i q e = go all i e ∙ ap (λ k. q ∷ drop k all) (sym (add-one i))
  where
    go : (all : Products) (i : ℕ) → Some q ≡ slice_get all i → drop i all ≡ q ∷ drop (suc i) all
    go [] zero e = cc
    go [] (suc i) e = cc
    go (y ∷ ys) zero e = cc
    go (y ∷ ys) (suc i) e = go ys i e

nothing_left : (all : Products) (i : ℕ) → length all ≤ i → drop i all ≡ []
nothing_left [] zero h = refl
nothing_left [] (suc i) h = refl
nothing_left (y ∷ ys) zero h = absurd (omega (arith, h))
nothing_left (y ∷ ys) (suc i) h = nothing_left ys i (omega (arith, h))

none_missing : (all : Products) (i : ℕ) → i < length all → None ≡ slice_get all i → ⊥
none_missing [] i h e = omega (arith, h)
none_missing (y ∷ ys) zero h e = cc
none_missing (y ∷ ys) (suc i) h e = none_missing ys i (omega (arith, h)) e

pub missing : {P : Type 0} (all : Products) (i n : ℕ) → n ≡ length all → i < n → None ≡ slice_get all i → P
missing all i n l h e = absurd (none_missing all i (subst (λ k. i < k) l h) e)

both_are : (a b : Bool) → a && b ≡ true → (a ≡ true) × (b ≡ true)
both_are true true h = (refl, refl)
both_are true false h = cc
both_are false b h = cc

-- whether all are small, found out one by one
pub small_stops : (all : Products) (i a : ℕ) (c : ℤ) → Some (a, c) ≡ slice_get all i → is_small c ≡ false → false ≡ all_small (drop i all)
small_stops all i a c e h = sym (ap all_small (front all i (a, c) e) ∙ ap (λ b. b && all_small (drop (i + 1) all)) h)

pub small_goes : (all : Products) (i a : ℕ) (c : ℤ) → Some (a, c) ≡ slice_get all i → is_small c ≡ true → all_small (drop (i + 1) all) ≡ all_small (drop i all)
small_goes all i a c e h = sym (ap all_small (front all i (a, c) e) ∙ ap (λ b. b && all_small (drop (i + 1) all)) h)

pub small_end : (all : Products) (i : ℕ) → length all ≤ i → all_small (drop i all) ≡ true
small_end all i h = ap all_small (nothing_left all i h)

-- a verdict on what was added so far; one that was reached stands
abbrev pub Judged : Bool → Bool → Bool → Type 0
Judged true so_far all = so_far ≡ true
Judged false so_far all = all ≡ false

-- what adding keeps: what is left comes to the same as all
pub record IsAdding (first left right : Products) (k : ℤ) (i : ℕ) (fits : Bool) : Type 0 where
  pub whole : with_times left k (drop i right) ≡ with_times first k right
  pub small : all_small (drop i right) ≡ true
  pub apart : all_apart (drop i right) ≡ true
  pub room : (a : ℕ) → stands_in a (drop i right) ≡ true → unsigned_abs (coefficient left a) ≤ 2 ^ 125
  pub verdict : all_small first ≡ true → Judged fits (all_small left) (all_small (with_times first k right))

pub begins : (first right : Products) (k : ℤ) → all_small right ≡ true → all_apart right ≡ true → ((a : ℕ) → unsigned_abs (coefficient first a) ≤ 2 ^ 125) → IsAdding first first right k 0 true
begins first right k h l m = record { whole = refl; small = h; apart = l; room = λ a e. m a; verdict = λ e. e }

pub head_small : (first left right : Products) (k : ℤ) (i : ℕ) (fits : Bool) (a : ℕ) (c : ℤ) → IsAdding first left right k i fits → Some (a, c) ≡ slice_get right i → is_small c ≡ true
head_small first left right k i fits a c h e = (both_are (is_small c) (all_small (drop (i + 1) right)) (sym (ap all_small (front right i (a, c) e)) ∙ h.small)).0

head_stands : (right : Products) (i a : ℕ) (c : ℤ) → Some (a, c) ≡ slice_get right i → stands_in a (drop i right) ≡ true
head_stands right i a c e = ap (stands_in a) (front right i (a, c) e) ∙ ap (λ b. b || stands_in a (drop (i + 1) right)) (same a)
  where
    same : (a : ℕ) → nat_eq a a ≡ true
    same a = grind (arith)

pub has_room : (first left right : Products) (k : ℤ) (i : ℕ) (fits : Bool) (a : ℕ) (c by : ℤ) → IsAdding first left right k i fits → Some (a, c) ≡ slice_get right i → unsigned_abs k ≤ 2 ^ 40 → by ≡ k *ℤ c
    → unsigned_abs (coefficient left a) + unsigned_abs by < 170141183460469231731687303715884105728
has_room first left right k i fits a c by h e l f =
    omega (arith, h.room a (head_stands right i a c e), abs_product k c l (head_small first left right k i fits a c h e), ap unsigned_abs f)

pub goes_on : (first left right new : Products) (k : ℤ) (i : ℕ) (fits here : Bool) (a : ℕ) (c by : ℤ) → IsAdding first left right k i fits → Some (a, c) ≡ slice_get right i → by ≡ k *ℤ c
    → here ≡ is_small (coefficient left a +ℤ by) → new ≡ more left a by → IsAdding first new right k (i + 1) (here && fits)
goes_on first left right new k i fits here a c by h e f g n = record {
  whole = ap (λ ps. with_times ps k rest) added ∙ sym (ap (with_times left k) at) ∙ h.whole;
  small = (both_are (is_small c) (all_small rest) (sym (ap all_small at) ∙ h.small)).1;
  apart = tail_apart (stands_in a rest) (all_apart rest) apart_all;
  room = λ b s. ap_le b (stands_apart b s) (h.room b (ap (stands_in b) at ∙ or_true (nat_eq b a) s));
  verdict = λ q. judged here fits (g ∙ ap (λ (j : ℤ). is_small (coefficient left a +ℤ j)) f) (h.verdict q);
}
  where
    rest : Products
    rest = drop (i + 1) right

    at : drop i right ≡ (a, c) ∷ rest
    at = front right i (a, c) e

    added : new ≡ more left a (k *ℤ c)
    added = n ∙ ap (more left a) f

    apart_all : all_apart ((a, c) ∷ rest) ≡ true
    apart_all = sym (ap all_apart at) ∙ h.apart

    or_true : (t : Bool) {u : Bool} → u ≡ true → t || u ≡ true
    or_true true s = refl
    or_true false s = s

    stands_apart : (b : ℕ) → stands_in b rest ≡ true → nat_eq b a ≡ false
    stands_apart b s = go (nat_eq b a) refl
      where
        go : (t : Bool) → nat_eq b a ≡ t → t ≡ false
        go true u =
            let here_too : stands_in b rest ≡ false = ap (λ j. stands_in j rest) (eqb-true b a u) ∙ head_apart (stands_in a rest) (all_apart rest) apart_all in cc
        go false u = refl

    ap_le : (b : ℕ) → nat_eq b a ≡ false → unsigned_abs (coefficient left b) ≤ 2 ^ 125 → unsigned_abs (coefficient new b) ≤ 2 ^ 125
    ap_le b u m =
        let moved : coefficient new b ≡ coefficient left b = ap (λ ps. coefficient ps b) n ∙ coefficient_more left a b by ∙ ap (λ t. if t then coefficient left a +ℤ by else coefficient left b) u in
        omega (arith, ap unsigned_abs moved, m)

    judged : (here fits : Bool) → here ≡ is_small (coefficient left a +ℤ k *ℤ c) → Judged fits (all_small left) (all_small (with_times first k right)) → Judged (here && fits) (all_small new) (all_small (with_times first k right))
    judged true true u v = ap all_small added ∙ step_test left a (k *ℤ c) v ∙ sym u
    judged false true u v = sym (ap all_small h.whole) ∙ ap (λ ps. all_small (with_times left k ps)) at ∙ stays_large left k (a, c) rest apart_all (sym u)
    judged true false u v = v
    judged false false u v = v

pub ends : (first left right : Products) (k : ℤ) (i : ℕ) (fits : Bool) → IsAdding first left right k i fits → length right ≤ i → left ≡ with_times first k right
ends first left right k i fits h l = sym (ap (with_times left k) (nothing_left right i l)) ∙ h.whole

pub ends_judged : (first left right : Products) (k : ℤ) (i : ℕ) (fits : Bool) → IsAdding first left right k i fits → length right ≤ i → all_small first ≡ true → fits ≡ all_small left
ends_judged first left right k i fits h l q = go fits (h.verdict q)
  where
    go : (t : Bool) → Judged t (all_small left) (all_small (with_times first k right)) → t ≡ all_small left
    go true v = sym v
    go false v = sym (ap all_small (ends first left right k i fits h l) ∙ v)
