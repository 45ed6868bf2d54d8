-- Tuples of the members of data texts.
use Rattle.std.specs.Prelude.{◌≡◌, ℕ, zero, suc, ◌≤◌, ◌<◌, List, [], ◌∷◌, length, take, map}
use Rattle.std.proofs.Common.{refl, ap, ◌∙◌, subst, arith}
use Rattle.net_lex.specs.declared.token.Token.{Token}
use Rattle.net_sets.specs.Sets.{Tuple}
use Rattle.net_bind.specs.Cells.{member_in, tuple_in}

same_front : (i j : ℕ) (ts : List Token) → length ts ≤ i → length ts ≤ j → take i ts ≡ take j ts
same_front zero zero ts a b = refl
same_front zero (suc j) [] a b = refl
same_front (suc i) zero [] a b = refl
same_front zero (suc j) (t ∷ ts) a b = absurd (omega (arith, a))
same_front (suc i) zero (t ∷ ts) a b = absurd (omega (arith, b))
same_front (suc i) (suc j) [] a b = refl
same_front (suc i) (suc j) (t ∷ ts) a b = ap (◌∷◌ t) (same_front i j ts (omega (arith, a)) (omega (arith, b)))

front_size : (i : ℕ) (ts : List Token) → i ≤ length ts → length (map member_in (take i ts)) ≡ i
front_size zero ts a = refl
front_size (suc i) [] a = absurd (omega (arith, a))
front_size (suc i) (t ∷ ts) a = ap suc (front_size i ts (omega (arith, a)))

-- all members were taken
pub whole : (i : ℕ) (ts : List Token) (t : Tuple) → t ≡ map member_in (take i ts) → length ts ≤ i → i ≤ 4 → t ≡ tuple_in ts
whole i ts t e a b = e ∙ ap (map member_in) (same_front i 4 ts a (omega (arith, a, b)))

at_most_four : (i : ℕ) → i ≤ 4 → (i < 4 → ⊥) → i ≡ 4
at_most_four zero b f = absurd (f (omega arith))
at_most_four (suc zero) b f = absurd (f (omega arith))
at_most_four (suc (suc zero)) b f = absurd (f (omega arith))
at_most_four (suc (suc (suc zero))) b f = absurd (f (omega arith))
at_most_four (suc (suc (suc (suc zero)))) b f = refl
at_most_four (suc (suc (suc (suc (suc i))))) b f = absurd (omega (arith, b))

-- as many as there may be were taken
pub full : (i : ℕ) (ts : List Token) (t : Tuple) → t ≡ map member_in (take i ts) → i < length ts → i ≤ 4 → (length t < 4 → ⊥) → t ≡ tuple_in ts
full i ts t e a b f = e ∙ ap (λ k. map member_in (take k ts)) (at_most_four i b (subst (λ k. k < 4 → ⊥) size f))
  where
    size : length t ≡ i
    size = ap length e ∙ front_size i ts (omega (arith, a))
