-- Products in whole numbers: over sums in the first factor, and with an order.
use Rattle.std.proofs.Common.{◌≡◌, ℕ, zero, suc, Bool, true, false, cond, ℤ, pos, negsuc, ◌+ℤ◌, ◌-ℤ◌, ◌*ℤ◌, ◌≤ℤ◌, neg_ℤ, ◌∙◌, ap, arith}
use Rattle.std.specs.Prelude.{◌<ℤ◌}
use Rattle.std.proofs.lemmas.Int.{ints}
use lib.IntN.{suc_ℤ-*ℤ, zero-*ℤ, *ℤ_comm, *ℤ-one}
use Rattle.net_normal.proofs.WholeNumbers.{mul-add, mul-neg, neg-mul}

pub add-mul : (a b c : ℤ) → (a +ℤ b) *ℤ c ≡ a *ℤ c +ℤ b *ℤ c
add-mul a b c = omega (arith, ints, *ℤ_comm (a +ℤ b) c, mul-add c a b, *ℤ_comm a c, *ℤ_comm b c)

pub sub-mul : (a b c : ℤ) → (a -ℤ b) *ℤ c ≡ a *ℤ c -ℤ b *ℤ c
sub-mul a b c =
    let same : a -ℤ b ≡ a +ℤ neg_ℤ b = omega (arith, ints) in
    omega (arith, ints, ap (λ (z : ℤ). z *ℤ c) same, add-mul a (neg_ℤ b) c, neg-mul b c)

pub mul-sub : (a b c : ℤ) → a *ℤ (b -ℤ c) ≡ a *ℤ b -ℤ a *ℤ c
mul-sub a b c =
    let same : b -ℤ c ≡ b +ℤ neg_ℤ c = omega (arith, ints) in
    omega (arith, ints, ap (λ (z : ℤ). a *ℤ z) same, mul-add a b (neg_ℤ c), mul-neg a c)

pub one-mul : (z : ℤ) → pos 1 *ℤ z ≡ z
unfolding lib.IntN.one
one-mul z = *ℤ_comm (pos 1) z ∙ *ℤ-one z

nonneg-mul : (k : ℕ) (z : ℤ) → pos 0 ≤ℤ z → pos 0 ≤ℤ (pos k *ℤ z)
nonneg-mul zero z h = omega (arith, ints, zero-*ℤ z)
nonneg-mul (suc k) z h = omega (arith, ints, suc_ℤ-*ℤ (pos k) z, nonneg-mul k z h)

-- an order is kept by a factor that is not negative, and turned by one that is
pub mul-le : (k : ℕ) (y x : ℤ) → y ≤ℤ x → (pos k *ℤ y) ≤ℤ (pos k *ℤ x)
mul-le k y x h = omega (arith, ints, mul-sub (pos k) x y, nonneg-mul k (x -ℤ y) (omega (arith, ints, h)))

pub mul-ge : (k : ℕ) (y x : ℤ) → x ≤ℤ y → (negsuc k *ℤ y) ≤ℤ (negsuc k *ℤ x)
mul-ge k y x h =
    let left : negsuc k *ℤ y ≡ neg_ℤ (pos (suc k) *ℤ y) = neg-mul (pos (suc k)) y in
    let right : negsuc k *ℤ x ≡ neg_ℤ (pos (suc k) *ℤ x) = neg-mul (pos (suc k)) x in
    omega (arith, ints, left, right, mul-le (suc k) x y h)

-- a flow that complementary slackness picks costs least by its reduced cost
pub picked-le : (r low cap y x : ℤ) → (pos 0 <ℤ r → y ≡ low) → (r <ℤ pos 0 → y ≡ cap) → low ≤ℤ x → x ≤ℤ cap → (r *ℤ y) ≤ℤ (r *ℤ x)
picked-le (pos zero) low cap y x p q l h = omega (arith, ints, zero-*ℤ y, zero-*ℤ x)
picked-le (pos (suc k)) low cap y x p q l h = mul-le (suc k) y x (omega (arith, ints, p (omega (arith, ints)), l))
picked-le (negsuc k) low cap y x p q l h = mul-ge k y x (omega (arith, ints, q (omega (arith, ints)), h))

-- a number times 1 or 0 is chosen or not
pub chosen-mul : (b : Bool) (z : ℤ) → cond b (pos 1) (pos 0) *ℤ z ≡ cond b z (pos 0)
chosen-mul true z = one-mul z
chosen-mul false z = zero-*ℤ z
