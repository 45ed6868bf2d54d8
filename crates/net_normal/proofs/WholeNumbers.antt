-- Laws of whole numbers that the library lacks: products over sums, and choices between a number and 0.
use Rattle.std.proofs.Common.{◌≡◌, ℕ, zero, suc, Bool, true, false, cond, ℤ, pos, negsuc, ◌+ℤ◌, ◌*ℤ◌, ◌≤ℤ◌, neg_ℤ, refl, ◌∙◌, ap, arith}
use Rattle.std.proofs.Common.{◌*◌, ◌+◌, ◌^◌, ◌≤◌, unsigned_abs, to_z, of_z, FitsSigned}
use mir.Syntax.{w128}
use Rattle.std.proofs.lemmas.Int.{ints, unsigned_abs-mul}
use Rattle.net_normal.specs.Limits.{IsSized}
use lib.IntN.{suc_ℤ, pred_ℤ, suc_ℤ-*ℤ, pred_ℤ-*ℤ, zero-*ℤ, *ℤ_comm}

-- a product over a sum, by steps of its first factor
step_up : (m b c : ℤ) → m *ℤ (b +ℤ c) ≡ m *ℤ b +ℤ m *ℤ c → suc_ℤ m *ℤ (b +ℤ c) ≡ suc_ℤ m *ℤ b +ℤ suc_ℤ m *ℤ c
step_up m b c h = omega (arith, ints, h, suc_ℤ-*ℤ m (b +ℤ c), suc_ℤ-*ℤ m b, suc_ℤ-*ℤ m c)

step_down : (m b c : ℤ) → m *ℤ (b +ℤ c) ≡ m *ℤ b +ℤ m *ℤ c → pred_ℤ m *ℤ (b +ℤ c) ≡ pred_ℤ m *ℤ b +ℤ pred_ℤ m *ℤ c
step_down m b c h = omega (arith, ints, h, pred_ℤ-*ℤ m (b +ℤ c), pred_ℤ-*ℤ m b, pred_ℤ-*ℤ m c)

from_zero : (b c : ℤ) → pos 0 *ℤ (b +ℤ c) ≡ pos 0 *ℤ b +ℤ pos 0 *ℤ c
from_zero b c = omega (arith, ints, zero-*ℤ (b +ℤ c), zero-*ℤ b, zero-*ℤ c)

pub mul-add : (a b c : ℤ) → a *ℤ (b +ℤ c) ≡ a *ℤ b +ℤ a *ℤ c
mul-add (pos zero) b c = from_zero b c
mul-add (pos (suc n)) b c = step_up (pos n) b c (mul-add (pos n) b c)
mul-add (negsuc zero) b c = step_down (pos zero) b c (from_zero b c)
mul-add (negsuc (suc n)) b c = step_down (negsuc n) b c (mul-add (negsuc n) b c)

-- a product with a negated factor
pub mul-neg : (a b : ℤ) → a *ℤ neg_ℤ b ≡ neg_ℤ (a *ℤ b)
mul-neg a b =
    let none : a *ℤ pos 0 ≡ pos 0 = *ℤ_comm a (pos 0) ∙ zero-*ℤ a in
    let both : a *ℤ (b +ℤ neg_ℤ b) ≡ a *ℤ pos 0 = ap (λ (x : ℤ). a *ℤ x) (omega (arith, ints)) in
    omega (arith, ints, none, both, mul-add a b (neg_ℤ b))

pub neg-mul : (a b : ℤ) → neg_ℤ a *ℤ b ≡ neg_ℤ (a *ℤ b)
neg-mul a b = *ℤ_comm (neg_ℤ a) b ∙ mul-neg b a ∙ ap neg_ℤ (*ℤ_comm b a)

-- a choice between a number and 0 goes over sums and keeps an order
pub choice-add : (b : Bool) (x y : ℤ) → cond b (x +ℤ y) (pos 0) ≡ cond b x (pos 0) +ℤ cond b y (pos 0)
choice-add true x y = refl
choice-add false x y = refl

pub choice-le : (b : Bool) (x y : ℤ) → x ≤ℤ y → cond b x (pos 0) ≤ℤ cond b y (pos 0)
choice-le true x y h = h
choice-le false x y h = omega (arith, ints)

pub choice_within : (b : Bool) (x y : ℤ) → pos 0 ≤ℤ y → neg_ℤ y ≤ℤ x → x ≤ℤ y → (neg_ℤ (cond b y (pos 0)) ≤ℤ cond b x (pos 0)) × (cond b x (pos 0) ≤ℤ cond b y (pos 0))
choice_within true x y z l h = (l, h)
choice_within false x y z l h = (omega (arith, ints), omega (arith, ints))

-- a product of two sized numbers
abs_small : (n : ℕ) (x : ℤ) → IsSized n x → unsigned_abs x ≤ n
abs_small n (pos k) h = omega (arith, ints, h.below)
abs_small n (negsuc k) h = omega (arith, ints, h.above)

small_abs : (n : ℕ) (x : ℤ) → unsigned_abs x ≤ n → IsSized n x
small_abs n (pos k) h = record { above = omega (arith, ints, h); below = omega (arith, ints, h) }
small_abs n (negsuc k) h = record { above = omega (arith, ints, h); below = omega (arith, ints, h) }

pub sized-mul : (m n : ℕ) (a b : ℤ) → IsSized m a → IsSized n b → IsSized (m * n) (a *ℤ b)
sized-mul m n a b h k =
    let p : unsigned_abs a ≤ m = abs_small m a h in
    let q : unsigned_abs b ≤ n = abs_small n b k in
    let r : unsigned_abs a * unsigned_abs b ≤ m * n = grind arith in
    small_abs (m * n) (a *ℤ b) (omega (arith, r, unsigned_abs-mul a b))

-- a constant and the next price, as the code adds them
pub constant_fits : (constant price : ℤ) → IsSized (10 ^ 29 + 10 ^ 12) constant → IsSized (10 ^ 24) price → FitsSigned w128 (to_z w128 (of_z w128 constant) +ℤ to_z w128 (of_z w128 price))
constant_fits constant price h k = omega (arith, ints)

pub constant_is : (constant price : ℤ) → IsSized (10 ^ 29 + 10 ^ 12) constant → IsSized (10 ^ 24) price → to_z w128 (of_z w128 (to_z w128 (of_z w128 constant) +ℤ to_z w128 (of_z w128 price))) ≡ constant +ℤ price
constant_is constant price h k = omega (arith, ints)
