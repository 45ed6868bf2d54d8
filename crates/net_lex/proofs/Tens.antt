-- Powers of ten.
use Rattle.std.proofs.Common.{◌≡◌, ℕ, zero, suc, ◌+◌, ◌-◌, ◌*◌, ◌^◌, ◌<◌, ◌≤◌, arith, add-one, subst, add-zero}
use Rattle.std.proofs.Math.Nat.{pow-suc, mul-le-mul_right}

-- a power of ten is not 0
pub ten_pos : (k : ℕ) → 0 < 10 ^ k
ten_pos zero = omega arith
ten_pos (suc k) = omega (arith, pow-suc 10 k, ten_pos k)

-- ten times as much for each place more
pub ten_more : (k : ℕ) → 10 ^ (k + 1) ≡ 10 * 10 ^ k
ten_more k = rw (add-one) (omega (arith, pow-suc 10 k))

-- and more places are never less
ten_le_add : (i k : ℕ) → 10 ^ i ≤ 10 ^ (i + k)
ten_le_add i zero = rw add-zero (omega arith)
ten_le_add i (suc k) =
    let e : i + suc k ≡ (i + k) + 1 = omega arith in
    rw (e, ten_more (i + k)) (omega (arith, ten_le_add i k))

pub ten_mono : (i j : ℕ) → i ≤ j → 10 ^ i ≤ 10 ^ j
ten_mono i j h =
    let e : i + (j - i) ≡ j = omega arith in
    subst (λ n. 10 ^ i ≤ 10 ^ n) e (ten_le_add i (j - i))

-- twelve places at most
pub ten_small : (k : ℕ) → k ≤ 12 → 10 ^ k ≤ 1000000000000
ten_small k h = ten_mono k 12 h

-- thirteen places or more
pub ten_large : (n k d : ℕ) → 0 < n → 12 < k → 1000000000001 ≤ n * 10 ^ k + d
ten_large n k d some far =
    let more : 10 ^ 13 ≤ 10 ^ k = ten_mono 13 k (omega arith) in
    let most : 1 * 10 ^ k ≤ n * 10 ^ k = mul-le-mul_right (10 ^ k) some in
    omega arith
