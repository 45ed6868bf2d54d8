-- Products of whole numbers: of three factors, and with small numbers.
use Rattle.std.proofs.Common.{◌≡◌, zero, suc, ℤ, pos, negsuc, ◌+ℤ◌, ◌*ℤ◌, neg_ℤ, ◌∙◌, ap, arith}
use Rattle.std.proofs.lemmas.Int.{ints}
use lib.IntN.{suc_ℤ, pred_ℤ, suc_ℤ-*ℤ, pred_ℤ-*ℤ, zero-*ℤ, *ℤ_comm, *ℤ-one}
use Rattle.net_normal.proofs.WholeNumbers.{mul-add, neg-mul}

pub add-mul : (a b c : ℤ) → (a +ℤ b) *ℤ c ≡ a *ℤ c +ℤ b *ℤ c
add-mul a b c = omega (arith, ints, mul-add c a b, *ℤ_comm (a +ℤ b) c, *ℤ_comm a c, *ℤ_comm b c)

pub mul-none : (a : ℤ) → a *ℤ pos 0 ≡ pos 0
mul-none a = *ℤ_comm a (pos 0) ∙ zero-*ℤ a

pub one-mul : (a : ℤ) → pos 1 *ℤ a ≡ a
unfolding lib.IntN.one
one-mul a = *ℤ_comm (pos 1) a ∙ *ℤ-one a

pub minus-mul : (a : ℤ) → negsuc 0 *ℤ a ≡ neg_ℤ a
minus-mul a = neg-mul (pos 1) a ∙ ap neg_ℤ (one-mul a)

assoc_up : (m b c : ℤ) → (m *ℤ b) *ℤ c ≡ m *ℤ (b *ℤ c) → (suc_ℤ m *ℤ b) *ℤ c ≡ suc_ℤ m *ℤ (b *ℤ c)
assoc_up m b c h = ap (λ (x : ℤ). x *ℤ c) (suc_ℤ-*ℤ m b) ∙ omega (arith, ints, h, suc_ℤ-*ℤ m (b *ℤ c), add-mul (m *ℤ b) b c)

assoc_down : (m b c : ℤ) → (m *ℤ b) *ℤ c ≡ m *ℤ (b *ℤ c) → (pred_ℤ m *ℤ b) *ℤ c ≡ pred_ℤ m *ℤ (b *ℤ c)
assoc_down m b c h = ap (λ (x : ℤ). x *ℤ c) (pred_ℤ-*ℤ m b) ∙ omega (arith, ints, h, pred_ℤ-*ℤ m (b *ℤ c), add-mul (m *ℤ b) (neg_ℤ b) c, neg-mul b c)

assoc_zero : (b c : ℤ) → (pos 0 *ℤ b) *ℤ c ≡ pos 0 *ℤ (b *ℤ c)
assoc_zero b c = ap (λ (x : ℤ). x *ℤ c) (zero-*ℤ b) ∙ omega (arith, ints, zero-*ℤ c, zero-*ℤ (b *ℤ c))

pub mul-mul : (a b c : ℤ) → (a *ℤ b) *ℤ c ≡ a *ℤ (b *ℤ c)
mul-mul (pos zero) b c = assoc_zero b c
mul-mul (pos (suc n)) b c = assoc_up (pos n) b c (mul-mul (pos n) b c)
mul-mul (negsuc zero) b c = assoc_down (pos zero) b c (assoc_zero b c)
mul-mul (negsuc (suc n)) b c = assoc_down (negsuc n) b c (mul-mul (negsuc n) b c)
